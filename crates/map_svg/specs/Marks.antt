-- The element of a mark.
use Rattle.std.specs.Prelude.{ℕ, List, [], ◌∷◌, ◌++◌, codes, decimal, string_bytes}
use Rattle.std.specs.Fmt.{signed_decimal}
use Rattle.lump_text.specs.Texts.{joined}
use Rattle.map_svg.specs.Places.{spot_of}
use Rattle.map_svg.specs.Texts.{escaped, path_text}
use Rattle.map_svg.specs.declared.marks.Mark.{Mark}
use Rattle.map_svg.specs.declared.marks.MarkPlace.{MarkPlace}
use Rattle.map_svg.specs.declared.marks.MarkPlace.TheVariants.{Along, At, Corner}
use Rattle.map_svg.specs.declared.places.Spot.{Spot}

-- the element's beginning, up to the title
unfoldable pub marking_opening : ℕ → List ℕ
marking_opening n =
    joined (codes "<g id=\"lint" ∷ decimal n ∷ codes "\" class=\"lint\">\n<title>" ∷ [])

-- the title's end, and a dot 32 units inside the page's upper left corner
unfoldable pub corner_text : Spot → List ℕ
corner_text corner =
    joined
    (codes "</title>\n<path d=\"M" ∷ signed_decimal corner.x ∷ codes " " ∷ signed_decimal corner.y
    ∷ codes "m32 32h0\"/>" ∷ [])

-- the title's end, and the path that marks the place
abbrev pub marking_path : Spot → MarkPlace → List ℕ
marking_path corner Corner = corner_text corner
marking_path corner (At p) = path_text (spot_of p) (spot_of p)
marking_path corner (Along p q) = path_text (spot_of p) (spot_of q)

-- the element of a mark: its text is the title
unfoldable pub marking : Spot → ℕ → Mark → List ℕ
marking corner n k =
    marking_opening n ++ escaped (string_bytes k.text) ++ marking_path corner k.place
    ++ codes "</g>\n"
