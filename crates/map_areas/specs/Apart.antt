-- Lines that an outline leaves alone.
use Rattle.std.specs.Prelude.{◌≡◌, ℕ, Bool, true, ◌&&◌, ◌||◌, not, List, map, Some, slice_get, ◌+ℤ◌}
use Rattle.std.specs.Int.{saturate_signed, w16}
use Rattle.std.specs.List.{list_any}
use Rattle.lump_records.specs.declared.records.Line.{Line}
use Rattle.lump_records.specs.declared.records.Vertex.{Vertex}
use Rattle.map_plane.specs.Meeting.{ends_at, has_on_both_sides, is_on}
use Rattle.map_plane.specs.Places.{placed}
use Rattle.map_plane.specs.Polygon.{is_inside}
use Rattle.map_plane.specs.declared.places.PlacedLine.{PlacedLine}
use Rattle.map_tables.specs.Tables.{Tables}

-- the sum of two places: at twice the size it is in the middle of the two
unfoldable pub place_sum : Vertex → Vertex → Vertex
place_sum a b = record {
  x = saturate_signed w16 (a.x +ℤ b.x);
  y = saturate_signed w16 (a.y +ℤ b.y);
}

-- a line at twice the size
unfoldable pub doubled_line : PlacedLine → PlacedLine
doubled_line l = record l { from = place_sum l.from l.from; to = place_sum l.to l.to }

-- lines at twice the size, so that each middle of two places is a place
abbrev pub doubled : List PlacedLine → List PlacedLine
doubled ls = map doubled_line ls

-- an edge and a line cross, the edge's start lies on the line between its ends, or the line runs along the edge
unfoldable pub meets_edge : PlacedLine → PlacedLine → Bool
meets_edge e l = (has_on_both_sides e l && has_on_both_sides l e)
    || (is_on l e.from && not (ends_at l e.from)) || (is_on e l.from && is_on e l.to)

-- a line's middle is inside, by the edges at twice the size
unfoldable pub has_middle_in : List PlacedLine → PlacedLine → Bool
has_middle_in ds l = is_inside ds (place_sum l.from l.to)

-- an outline leaves a line alone: no edge crosses it, no corner lies on it between its ends, it runs along no edge, and
-- its middle isn't inside
unfoldable pub is_alone : List PlacedLine → List PlacedLine → PlacedLine → Bool
is_alone es ds l = not (list_any (λ e. meets_edge e l) es) && not (has_middle_in ds l)

-- the line with the number has its record still, and its sides have theirs
pub record KeepsRecord (old new : Tables) (n : ℕ) (l : Line) : Type 0 where
  pub line : slice_get new.lines n ≡ Some l
  pub right : slice_get new.sides l.right ≡ slice_get old.sides l.right
  pub left : slice_get new.sides l.left ≡ slice_get old.sides l.left

-- if the outline leaves the line with a number alone, the line keeps its record
abbrev pub KeepsAlone : List PlacedLine → List PlacedLine → Tables → Tables → ℕ → Type 0
KeepsAlone es ds old new n = (l : Line) → slice_get old.lines n ≡ Some l
    → is_alone es ds (placed old (n, l)) ≡ true → KeepsRecord old new n l

-- each line that the outline leaves alone keeps its record
abbrev pub KeepsEachAlone : List PlacedLine → Tables → Tables → Type 0
KeepsEachAlone es old new = (n : ℕ) → KeepsAlone es (doubled es) old new n
