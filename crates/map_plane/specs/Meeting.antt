-- Lines that meet where they shouldn't: they have a point in common that isn't an end of both.
use Rattle.std.specs.Prelude.{ℕ, ℤ, pos, Bool, false, ◌&&◌, ◌||◌, ◌==◌, not, List, slice_get, int_lt, int_le}
use Rattle.std.specs.List.{list_any}
use Rattle.std.specs.Option.{option_map_or}
use Rattle.std.specs.Ordering.{int_eq}
use Rattle.lump_records.specs.declared.records.Vertex.{Vertex}
use Rattle.lump_records.specs.Plane.{point_of, ray_between, side_value}
use Rattle.map_plane.specs.declared.places.PlacedLine.{PlacedLine}

-- a or b is at most c or d
unfoldable pub is_under : ℤ → ℤ → ℤ → ℤ → Bool
is_under a b c d = int_le a c || int_le a d || int_le b c || int_le b d

-- the spans from a to b and from c to d have a number in common: neither lies wholly above the
-- other
unfoldable pub spans_meet : ℤ → ℤ → ℤ → ℤ → Bool
spans_meet a b c d = is_under a b c d && is_under c d a b

-- the boxes of two lines have a point in common
unfoldable pub boxes_meet : PlacedLine → PlacedLine → Bool
boxes_meet l k = spans_meet l.from.x l.to.x k.from.x k.to.x
    && spans_meet l.from.y l.to.y k.from.y k.to.y

-- how far a place lies to the right of a line, times the line's length
unfoldable pub side_value_at : PlacedLine → Vertex → ℤ
side_value_at l p = side_value (ray_between l.from l.to) (point_of p)

-- a place lies on a line: on its straight line, and in its box
unfoldable pub is_on : PlacedLine → Vertex → Bool
is_on l p = int_eq (side_value_at l p) (pos 0) && spans_meet l.from.x l.to.x p.x p.x
    && spans_meet l.from.y l.to.y p.y p.y

-- two vertices are at the same place
unfoldable pub is_at : Vertex → Vertex → Bool
is_at v w = int_eq v.x w.x && int_eq v.y w.y

-- a line ends at a place
unfoldable pub ends_at : PlacedLine → Vertex → Bool
ends_at l p = is_at l.from p || is_at l.to p

-- an end of line k lies on line l, between l's ends
unfoldable pub abuts : PlacedLine → PlacedLine → Bool
abuts k l = (is_on l k.from && not (ends_at l k.from)) || (is_on l k.to && not (ends_at l k.to))

-- the ends of line k lie on both sides of line l's straight line
unfoldable pub has_on_both_sides : PlacedLine → PlacedLine → Bool
has_on_both_sides l k =
    (int_lt (side_value_at l k.from) (pos 0) && int_lt (pos 0) (side_value_at l k.to))
    || (int_lt (pos 0) (side_value_at l k.from) && int_lt (side_value_at l k.to) (pos 0))

-- two lines run between the same places
unfoldable pub doubles : PlacedLine → PlacedLine → Bool
doubles l k = ends_at l k.from && ends_at l k.to

-- a point of both lines isn't an end of both: each has its ends on both sides of the other, one abuts the other, or
-- one doubles the other
unfoldable pub share : PlacedLine → PlacedLine → Bool
share l k = (has_on_both_sides l k && has_on_both_sides k l) || abuts k l || abuts l k
    || doubles l k

-- lines k and l are two different lines, their boxes meet, and a point of both isn't an end of both
unfoldable pub meets : PlacedLine → PlacedLine → Bool
meets l k = not (l.number == k.number) && boxes_meet l k && share l k

-- there is a line n, and another line meets it
abbrev pub meets_another : List PlacedLine → ℕ → Bool
meets_another ls n = option_map_or (λ l. list_any (meets l) ls) (slice_get ls n) false
