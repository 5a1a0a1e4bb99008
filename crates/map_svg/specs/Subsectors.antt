-- The element that draws the segs of a subsector.
use Rattle.std.specs.Prelude.{ℕ, ◌/◌, ◌%◌, List, [], ◌∷◌, ◌++◌, codes, decimal, flat_map, pos, slice_get}
use Rattle.std.specs.Fmt.{signed_decimal}
use Rattle.std.specs.List.{range_with_len}
use Rattle.std.specs.Option.{unwrap_or}
use Rattle.lump_records.specs.declared.records.Seg.{Seg}
use Rattle.lump_records.specs.declared.records.Sub.{Sub}
use Rattle.lump_records.specs.declared.records.Vertex.{Vertex}
use Rattle.lump_text.specs.Texts.{joined}
use Rattle.map_svg.specs.Places.{shift_right, spot_of, way_between}
use Rattle.map_svg.specs.Texts.{of_item}
use Rattle.map_svg.specs.declared.overlay.Overlay.{Overlay}
use Rattle.map_svg.specs.declared.places.Shift.{Shift}
use Rattle.map_svg.specs.declared.places.Spot.{Spot}

-- the tree's vertex with the number, (0,0) past the last one
abbrev pub tree_vertex : Overlay → ℕ → Vertex
tree_vertex o n = unwrap_or (slice_get o.vertices.items n) (record { x = pos 0; y = pos 0 })

-- a stroke along a vector, from a point beside a place
unfoldable pub stroke_text : Spot → Shift → Shift → List ℕ
stroke_text p aside way =
    joined
    (codes "M" ∷ signed_decimal p.x ∷ codes " " ∷ signed_decimal p.y ∷ codes "m"
    ∷ signed_decimal aside.dx ∷ codes " " ∷ signed_decimal aside.dy ∷ codes "l"
    ∷ signed_decimal way.dx ∷ codes " " ∷ signed_decimal way.dy ∷ [])

-- the stroke of a seg, a third of the step to its right, so that both sides of a line are visible
unfoldable pub seg_text : Overlay → ℕ → Seg → List ℕ
seg_text o step s =
    let from = tree_vertex o s.first in
    let to = tree_vertex o s.second in
    stroke_text (spot_of from) (shift_right from to (step / 3)) (way_between from to)

-- the segs of a subsector
abbrev pub segs_text : Overlay → ℕ → Sub → List ℕ
segs_text o step s =
    flat_map (of_item (seg_text o step) o.segs.items) (range_with_len s.first s.count)

-- the element's beginning: its colour, one of six, its title, and the start of its path
unfoldable pub sub_opening : ℕ → Sub → List ℕ
sub_opening n s =
    joined
    (codes "<g id=\"sub" ∷ decimal n ∷ codes "\" class=\"sub" ∷ decimal (n % 6)
    ∷ codes "\">\n<title>subsector " ∷ decimal n ∷ codes ": first seg " ∷ decimal s.first
    ∷ codes ", count " ∷ decimal s.count ∷ codes "</title>\n<path d=\"" ∷ [])

-- the element of a subsector: all its segs, in its colour
unfoldable pub sub_element : Overlay → ℕ → ℕ → Sub → List ℕ
sub_element o step n s = sub_opening n s ++ segs_text o step s ++ codes "\"/></g>\n"
