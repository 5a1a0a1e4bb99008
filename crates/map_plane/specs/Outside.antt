-- Places that lie in no sector, as the walls that cross their rows show. A wall is a line without a left side.
use Rattle.std.specs.Prelude.{ℤ, Bool, ◌&&◌, ◌||◌, nat_le, List, count_by, pos, int_lt, int_le}
use Rattle.std.specs.List.{list_any}
use Rattle.lump_records.specs.declared.records.Vertex.{Vertex}
use Rattle.map_plane.specs.declared.places.PlacedLine.{PlacedLine}
use Rattle.map_plane.specs.Meeting.{side_value_at, is_on}

-- a place lies on a wall
unfoldable pub is_on_wall : Vertex → PlacedLine → Bool
is_on_wall p l = l.is_wall && is_on l p

-- the step from a to b goes down across the row y: a is above it, and b isn't
unfoldable pub comes_down : ℤ → ℤ → ℤ → Bool
comes_down y a b = int_lt y a && int_le b y

-- a wall that crosses a place's row to the east of it faces it: the wall goes down across the row, and the place is
-- on its right
unfoldable pub faces : Vertex → PlacedLine → Bool
faces p l = l.is_wall && comes_down p.y l.from.y l.to.y && int_lt (pos 0) (side_value_at l p)

-- a wall that crosses a place's row to the east of it turns away from it: the wall goes up across the row, and the
-- place is on its left
unfoldable pub turns_away : Vertex → PlacedLine → Bool
turns_away p l = l.is_wall && comes_down p.y l.to.y l.from.y && int_lt (side_value_at l p) (pos 0)

-- a place lies in no sector: it is on a wall, or no more walls to the east face it than turn away from it
unfoldable pub is_place_outside : List PlacedLine → Vertex → Bool
is_place_outside ls p = list_any (is_on_wall p) ls
    || nat_le (count_by (faces p) ls) (count_by (turns_away p) ls)
