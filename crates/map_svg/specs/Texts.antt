-- Texts: of the items of a list, and escaped for XML.
use Rattle.std.specs.Prelude.{ℕ, ◌==◌, if◌then◌else◌, List, [], ◌∷◌, codes, flat_map, length, slice_get}
use Rattle.std.specs.Fmt.{signed_decimal}
use Rattle.std.specs.List.{range_with_len}
use Rattle.std.specs.Option.{option_map_or}
use Rattle.lump_text.specs.Texts.{joined}
use Rattle.map_svg.specs.declared.places.Spot.{Spot}

-- the text of the item with the number, empty if there is no such item
abbrev pub of_item : {X : Type 0} → (X → List ℕ) → List X → ℕ → List ℕ
of_item text xs n = option_map_or text (slice_get xs n) []

-- the texts of all items, in their order; each text depends on the item and its number
abbrev pub of_list : {X : Type 0} → (ℕ → X → List ℕ) → List X → List ℕ
of_list text xs = flat_map (λ n. of_item (text n) xs n) (range_with_len 0 (length xs))

-- a byte of a text, escaped for XML
abbrev pub escaped_byte : ℕ → List ℕ
escaped_byte byte =
    if byte == 38 then codes "&amp;" else if byte == 60 then codes "&lt;"
    else if byte == 62 then codes "&gt;" else byte ∷ []

-- a text, escaped as XML content
abbrev pub escaped : List ℕ → List ℕ
escaped text = flat_map escaped_byte text

-- a title's end, and a straight line between two places
unfoldable pub path_text : Spot → Spot → List ℕ
path_text from to =
    joined
    (codes "</title>\n<path d=\"M" ∷ signed_decimal from.x ∷ codes " " ∷ signed_decimal from.y
    ∷ codes "L" ∷ signed_decimal to.x ∷ codes " " ∷ signed_decimal to.y ∷ codes "\"/>" ∷ [])
