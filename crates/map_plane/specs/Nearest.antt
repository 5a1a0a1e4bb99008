-- The line that is nearest to the east of a place, and the sector that a place belongs to.
use Rattle.std.specs.Prelude.{ℕ, ◌*◌, Bool, ◌&&◌, ◌||◌, ◌==◌, nat_lt, if◌then◌else◌, List, Option, Some, None, fold, map, slice_get, ℤ, pos, neg_ℤ, ◌-ℤ◌, ◌*ℤ◌, int_lt, unsigned_abs, option_and_then}
use Rattle.std.specs.Option.{option_map}
use Rattle.std.specs.Ordering.{int_eq}
use Rattle.lump_records.specs.declared.records.Line.{Line}
use Rattle.lump_records.specs.declared.records.Vertex.{Vertex}
use Rattle.map_tables.specs.Tables.{Tables}
use Rattle.map_plane.specs.declared.places.PlacedLine.{PlacedLine}
use Rattle.map_plane.specs.Meeting.{side_value_at}
use Rattle.map_plane.specs.Outside.{comes_down}
use Rattle.map_plane.specs.Places.{placed_lines}

-- the line goes up across the row y: its left is to the west
unfoldable pub climbs_past : PlacedLine → ℤ → Bool
climbs_past l y = comes_down y l.to.y l.from.y

-- how much further to the east the upper end of a line is than its lower end
unfoldable pub lean : PlacedLine → ℤ
lean l = if int_lt l.from.y l.to.y then l.to.x -ℤ l.from.x else l.from.x -ℤ l.to.x

-- how many rows the ends of a line are apart
unfoldable pub row_count : PlacedLine → ℕ
row_count l = unsigned_abs (l.to.y -ℤ l.from.y)

-- how far a place is from a line along its row, times the line's height
unfoldable pub gap : PlacedLine → Vertex → ℕ
gap l p = unsigned_abs (side_value_at l p)

-- the place lies on the line's straight line, which leans to the east: just above the row it is to the west of it
unfoldable pub is_behind : PlacedLine → Vertex → Bool
is_behind l p = int_eq (side_value_at l p) (pos 0) && int_lt (pos 0) (lean l)

-- a place, or what is just above it, is on the left of a line that goes up past it
unfoldable pub lies_left : PlacedLine → Vertex → Bool
lies_left l p = int_lt (side_value_at l p) (pos 0) || is_behind l p

-- a place, or what is just above it, is on the right of a line that goes down past it
unfoldable pub lies_right : PlacedLine → Vertex → Bool
lies_right l p = int_lt (pos 0) (side_value_at l p) || is_behind l p

-- a line crosses a place's row, from its lower end up to its upper end, which doesn't count, and the place, or what is
-- just above it, lies to the west of it
unfoldable pub is_east : PlacedLine → Vertex → Bool
is_east l p =
    if climbs_past l p.y then lies_left l p else comes_down p.y l.from.y l.to.y && lies_right l p

-- from one point of a row on, line l goes less to the east than line k
unfoldable pub leans_less : PlacedLine → PlacedLine → Bool
leans_less l k = int_lt (lean l *ℤ pos (row_count k)) (lean k *ℤ pos (row_count l))

-- of two lines to the east of a place, l is nearer than k: on the place's row, or just above it
unfoldable pub is_nearer : Vertex → PlacedLine → PlacedLine → Bool
is_nearer p l k = nat_lt (gap l p * row_count k) (gap k p * row_count l)
    || ((gap l p * row_count k == gap k p * row_count l) && leans_less l k)

-- the nearer to a place of a line to its east, if there is one, and another one, if it is to the east too
unfoldable pub nearer_of : Vertex → Option PlacedLine → PlacedLine → Option PlacedLine
nearer_of p None l = if is_east l p then Some l else None
nearer_of p (Some k) l = if is_east l p && is_nearer p l k then Some l else Some k

-- the nearest of the lines to the east of a place, the first of several
abbrev pub nearest : List PlacedLine → Vertex → Option PlacedLine
nearest ls p = fold (nearer_of p) None ls

-- the side that a line shows the west in the row y
abbrev pub side_shown : PlacedLine → ℤ → Line → ℕ
side_shown l y line = if climbs_past l y then line.left else line.right

-- the sector that a line shows a place to the west of it, if it has a side there
unfoldable pub sector_shown : Tables → Vertex → PlacedLine → Option ℕ
sector_shown m p l =
    option_and_then (λ line. option_map (λ s. s.sector) (slice_get m.sides (side_shown l p.y line)))
    (slice_get m.lines l.number)

-- the sector that a place belongs to: what the nearest line to its east shows it
abbrev pub sector_of_place : Tables → Vertex → Option ℕ
sector_of_place m p = option_and_then (sector_shown m p) (nearest (placed_lines m) p)
