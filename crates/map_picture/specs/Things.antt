-- The element that draws a thing.
use Rattle.std.specs.Prelude.{ℕ, List, ◌++◌, ℤ, neg_ℤ, codes, decimal, [], ◌∷◌}
use Rattle.std.specs.Fmt.{signed_decimal}
use Rattle.lump_records.specs.declared.records.Thing.{Thing}
use Rattle.map_svg.specs.Places.{spot_of}
use Rattle.lump_records.specs.Things.{thing_place}
use Rattle.lump_text.specs.Texts.{joined}
use Rattle.map_svg.specs.declared.places.Spot.{Spot}
use Rattle.map_picture.specs.Groups.{class_of, group_of, shape_of}

-- the element's beginning: its id and class, and the thing's place and direction
unfoldable pub mark_text : ℕ → List ℕ → Spot → ℤ → List ℕ
mark_text n class place turn =
    joined
    (codes "<g id=\"thing" ∷ decimal n ∷ codes "\" class=\"" ∷ class
    ∷ codes "\" transform=\"translate(" ∷ signed_decimal place.x ∷ codes " "
    ∷ signed_decimal place.y
    ∷ codes ") rotate(" ∷ signed_decimal turn ∷ codes ")\">\n" ∷ [])

-- the title, the shape and the element's end
unfoldable pub shape_text : ℕ → Thing → List ℕ → List ℕ
shape_text n t shape =
    joined
    (codes "<title>thing " ∷ decimal n ∷ codes ": type " ∷ signed_decimal t.kind ∷ codes ", angle "
    ∷ signed_decimal t.angle ∷ codes ", options " ∷ signed_decimal t.options
    ∷ codes "</title>\n<path d=\""
    ∷ shape ∷ codes "\"/></g>\n" ∷ [])

-- the element of a thing
unfoldable pub thing_text : ℕ → Thing → List ℕ
thing_text n t =
    let group = group_of t.kind in
    mark_text n (class_of group) (spot_of (thing_place t)) (neg_ℤ t.angle)
    ++ shape_text n t (shape_of group)
