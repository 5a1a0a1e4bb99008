-- Which lines meet another one, as it is found: lines are parted by a divider, and those that reach to
-- one side of it are looked at without those that don't.
use Rattle.std.specs.Prelude.{◌≡◌, ℕ, ◌<◌, Bool, true, false, ◌&&◌, ◌||◌, ◌==◌, not, List, length, get_or, pos, int_lt}
use Rattle.std.specs.List.{list_any}
use Rattle.map_tables.specs.Tables.{Tables}
use Rattle.map_plane.specs.declared.places.PlacedLine.{PlacedLine}
use Rattle.map_plane.specs.Meeting.{is_at, meets, meets_another, side_value_at}
use Rattle.map_plane.specs.Places.{placed_lines}

-- ---- Parts

-- the line has an end on the right of the divider
unfoldable pub reaches_right : PlacedLine → PlacedLine → Bool
reaches_right d l = int_lt (pos 0) (side_value_at d l.from) || int_lt (pos 0) (side_value_at d l.to)

-- the line has an end on the left of the divider
unfoldable pub reaches_left : PlacedLine → PlacedLine → Bool
reaches_left d l = int_lt (side_value_at d l.from) (pos 0) || int_lt (side_value_at d l.to) (pos 0)

-- the line's ends are at the same place
unfoldable pub is_dot : PlacedLine → Bool
is_dot l = is_at l.from l.to

-- the line goes to the right part: it reaches to the right of the divider, or not to its left
unfoldable pub goes_right : PlacedLine → PlacedLine → Bool
goes_right d l = reaches_right d l || not (reaches_left d l) || is_dot l

-- the line goes to the left part
unfoldable pub goes_left : PlacedLine → PlacedLine → Bool
goes_left d l = reaches_left d l || not (reaches_right d l) || is_dot l

-- ---- Marks

-- one of these lines has the number and meets one of them
abbrev pub meets_within : List PlacedLine → ℕ → Bool
meets_within ls n = list_any (λ l. (l.number == n) && list_any (meets l) ls) ls

-- besides those that had one, exactly the numbers of these lines that meet one of them have a mark
pub record MarksMeeting (ls : List PlacedLine) (old new : List Bool) : Type 0 where
  pub count : length new ≡ length old
  pub each : (n : ℕ) → n < length old
      → get_or new n false ≡ (get_or old n false || meets_within ls n)

-- besides those that had one, only numbers of these lines that meet one of them have a mark
pub record MarksSome (ls : List PlacedLine) (old new : List Bool) : Type 0 where
  pub count : length new ≡ length old
  pub kept : (n : ℕ) → get_or old n false ≡ true → get_or new n false ≡ true
  pub only : (n : ℕ) → n < length old → get_or new n false ≡ true
      → (get_or old n false || meets_within ls n) ≡ true

-- so many marks, none of them set
pub record AreUnset (count : ℕ) (marks : List Bool) : Type 0 where
  pub count_is : length marks ≡ count
  pub each : (n : ℕ) → get_or marks n false ≡ false

-- one mark was set
pub record SetsMark (number : ℕ) (old new : List Bool) : Type 0 where
  pub count : length new ≡ length old
  pub each : (n : ℕ) → n < length old
      → get_or new n false ≡ (get_or old n false || (number == n))

-- each line of the map has a mark exactly if it meets another one
pub record MarksCrossed (m : Tables) (marks : List Bool) : Type 0 where
  pub count : length marks ≡ length (placed_lines m)
  pub each : (n : ℕ) → n < length marks
      → get_or marks n false ≡ meets_another (placed_lines m) n
