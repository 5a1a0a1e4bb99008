-- The way from one place to another, and what was along it and on its left.
use Rattle.std.specs.Prelude.{ℕ, Bool, false, ◌&&◌, ◌||◌, ◌==◌, not, if◌then◌else◌, Option, Some, None, find, int_lt, option_and_then, slice_get}
use Rattle.std.specs.List.{list_any}
use Rattle.std.specs.Option.{option_eq, option_map}
use Rattle.std.specs.Ordering.{int_eq}
use Rattle.lump_records.specs.declared.records.Line.{Line}
use Rattle.lump_records.specs.declared.records.Vertex.{Vertex}
use Rattle.map_plane.specs.Meeting.{boxes_meet, ends_at, has_on_both_sides, is_on}
use Rattle.map_plane.specs.Nearest.{nearest, sector_shown}
use Rattle.map_plane.specs.Places.{placed_lines}
use Rattle.map_plane.specs.declared.places.PlacedLine.{PlacedLine}
use Rattle.map_tables.specs.Tables.{Tables}
use Rattle.map_areas.specs.Apart.{doubled, place_sum}

-- the way from one place to another
abbrev pub way : Vertex → Vertex → PlacedLine
way a b = record { number = 0; from = a; to = b; is_wall = false }

-- a place lies on a way, between its ends
abbrev pub is_between : PlacedLine → Vertex → Bool
is_between w p = is_on w p && not (ends_at w p)

-- a line crosses a way: their boxes meet, and each has the other's ends on both sides
abbrev pub crosses_way : PlacedLine → PlacedLine → Bool
crosses_way w l = boxes_meet w l && has_on_both_sides w l && has_on_both_sides l w

-- no vertex lies on a way between its ends, and no line crosses it: the way is along lines, or in one sector, as a
-- whole
abbrev pub is_clear : Tables → PlacedLine → Bool
is_clear m w =
    not (list_any (is_between w) m.vertices) && not (list_any (crosses_way w) (placed_lines m))

-- a line runs along a way, as far as it leads
abbrev pub runs_along : PlacedLine → PlacedLine → Bool
runs_along w l = is_on l w.from && is_on l w.to

-- a place comes before another one: it is further west, or, in one column, further south
abbrev pub comes_before : Vertex → Vertex → Bool
comes_before a b = int_lt a.x b.x || (int_eq a.x b.x && int_lt a.y b.y)

-- a line along a way runs in its direction, not back
abbrev pub runs_with : PlacedLine → PlacedLine → Bool
runs_with w l =
    if comes_before w.from w.to then comes_before l.from l.to else comes_before l.to l.from

-- the sector that a side faces, if there is such a side
abbrev pub sector_by_side : Tables → ℕ → Option ℕ
sector_by_side m side = option_map (λ s. s.sector) (slice_get m.sides side)

-- the side of a line along a way that is on the way's left
abbrev pub side_on_left : PlacedLine → PlacedLine → Line → ℕ
side_on_left w l line = if runs_with w l then line.left else line.right

-- the sector that a line along a way faces on the way's left, if it has a side there
abbrev pub left_faced : Tables → PlacedLine → PlacedLine → Option ℕ
left_faced m w l =
    option_and_then (λ line. sector_by_side m (side_on_left w l line)) (slice_get m.lines l.number)

-- the sector that the middle of a way belongs to, by the lines at twice the size
abbrev pub sector_between : Tables → PlacedLine → Option ℕ
sector_between m w = option_and_then (sector_shown m (place_sum w.from w.to))
    (nearest (doubled (placed_lines m)) (place_sum w.from w.to))

-- the side of a line along a way that is on the way's right
abbrev pub side_on_right : PlacedLine → PlacedLine → Line → ℕ
side_on_right w l line = if runs_with w l then line.right else line.left

-- the sector that a line along a way faces on the way's right, if it has a side there
abbrev pub right_faced : Tables → PlacedLine → PlacedLine → Option ℕ
right_faced m w l =
    option_and_then (λ line. sector_by_side m (side_on_right w l line)) (slice_get m.lines l.number)

-- what is on the right of a way where this line is the first along it: what that faces there; where none is, what the
-- middle of the way belongs to
abbrev pub sector_along : Tables → PlacedLine → Option PlacedLine → Option ℕ
sector_along m w (Some l) = right_faced m w l
sector_along m w None = sector_between m w

-- what is on the right of a way
abbrev pub sector_on_right : Tables → PlacedLine → Option ℕ
sector_on_right m w = sector_along m w (find (runs_along w) (placed_lines m))

-- two sectors are the same, or both are the void
abbrev pub is_same : Option ℕ → Option ℕ → Bool
is_same a b = option_eq (λ n k. n == k) a b

-- a line runs along the way, and faces this sector on its left
abbrev pub faces_left : Tables → PlacedLine → Option ℕ → PlacedLine → Bool
faces_left m w sector l = runs_along w l && is_same (left_faced m w l) sector

-- what is on the left of a way: a line along it faces this sector there, or, where there is none, its middle belongs to
-- this sector
abbrev pub is_left_of_way : Tables → PlacedLine → Option ℕ → Bool
is_left_of_way m w sector = list_any (faces_left m w sector) (placed_lines m)
    || (not (list_any (runs_along w) (placed_lines m)) && is_same (sector_between m w) sector)
