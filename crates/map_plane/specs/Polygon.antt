-- Polygons: lists of their edges, each of which begins at the corner that has its number and ends at the next one.
use Rattle.std.specs.Prelude.{Bool, ◌&&◌, ◌||◌, ◌==◌, ◌%◌, not, List, count_by, fold, ℤ, pos, ◌+ℤ◌}
use Rattle.std.specs.List.{list_any}
use Rattle.lump_records.specs.declared.records.Vertex.{Vertex}
use Rattle.map_plane.specs.declared.places.PlacedLine.{PlacedLine}
use Rattle.map_plane.specs.Meeting.{is_at, meets, side_value_at}
use Rattle.map_plane.specs.Nearest.{is_east}

-- two edges begin at one place, or have a point in common that isn't an end of both
unfoldable pub clashes : PlacedLine → PlacedLine → Bool
clashes e k = (not (e.number == k.number) && is_at e.from k.from) || meets e k

-- an edge clashes with one of these
abbrev pub has_clash : List PlacedLine → PlacedLine → Bool
has_clash es e = list_any (clashes e) es

-- twice the signed area of a polygon: above 0 if the inside is on the right of its edges
abbrev pub polygon_area : List PlacedLine → ℤ
polygon_area es =
    fold (λ area e. area +ℤ side_value_at e (record { x = pos 0; y = pos 0 })) (pos 0) es

-- a place on no edge is inside a polygon: an odd number of edges is to the east
abbrev pub is_inside : List PlacedLine → Vertex → Bool
is_inside es p = count_by (λ e. is_east e p) es % 2 == 1
