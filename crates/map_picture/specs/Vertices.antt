-- The element that draws a vertex.
use Rattle.std.specs.Prelude.{ℕ, List, ◌++◌, codes, decimal, [], ◌∷◌}
use Rattle.std.specs.Fmt.{signed_decimal}
use Rattle.lump_records.specs.declared.records.Vertex.{Vertex}
use Rattle.lump_text.specs.Texts.{joined}
use Rattle.map_svg.specs.Places.{spot_of}
use Rattle.map_svg.specs.declared.places.Spot.{Spot}

-- the element's beginning: its id and the dot
unfoldable pub dot_text : ℕ → Spot → List ℕ
dot_text n v =
    joined
    (codes "<path id=\"vertex" ∷ decimal n ∷ codes "\" class=\"vertex\" d=\"M" ∷ signed_decimal v.x
    ∷ codes " "
    ∷ signed_decimal v.y ∷ codes "h0\">" ∷ [])

-- the title, which has the place on the map, and the element's end
unfoldable pub vertex_title : ℕ → Vertex → List ℕ
vertex_title n v =
    joined
    (codes "<title>vertex " ∷ decimal n ∷ codes ": " ∷ signed_decimal v.x ∷ codes " "
    ∷ signed_decimal v.y
    ∷ codes "</title></path>\n" ∷ [])

-- the element of a vertex
unfoldable pub vertex_text : ℕ → Vertex → List ℕ
vertex_text n v = dot_text n (spot_of v) ++ vertex_title n v
