-- What the bodies of the functions count: the starts, the borders and the areas of sectors.
use Rattle.std.specs.Prelude.{◌≡◌, ℕ, ◌*◌, ◌<◌, ◌^◌, Bool, false, ◌==◌, ◌||◌, List, length, get_or, take, flat_map, fold, ℤ, pos, ◌+ℤ◌, ◌≤ℤ◌}
use Rattle.std.specs.List.{list_any}
use Rattle.map_tables.specs.Tables.{Tables}
use Rattle.map_checks.specs.Corners.{Edge, edges_of_line}
use Rattle.lump_records.specs.declared.records.Line.{Line}
use Rattle.map_lint.specs.Areas.{part_in, doubled_area}
use Rattle.map_lint.specs.Borders.{borders}
use Rattle.map_lint.specs.Starts.{things_of_type}

-- the first n counts are the numbers of things of types 0 to n - 1
pub record AreStarts (m : Tables) (n : ℕ) (starts : List ℕ) : Type 0 where
  pub count : length starts ≡ n
  pub counted : (k : ℕ) → k < n → get_or starts k 0 ≡ things_of_type m k

-- the mark of each sector says whether one of the lines is its border
pub record MarksBordered (m : Tables) (ls : List Line) (marks : List Bool) : Type 0 where
  pub count : length marks ≡ length m.sectors
  pub marked : (s : ℕ) → s < length m.sectors → get_or marks s false ≡ list_any (borders m s) ls

-- the sectors that the line has on exactly one side were marked
pub record MarksSides (m : Tables) (l : Line) (old new : List Bool) : Type 0 where
  pub count : length new ≡ length old
  pub marked : (s : ℕ) → s < length old → get_or new s false ≡ (get_or old s false || borders m s l)

-- two numbers are at most k apart
pub record IsNear (k : ℕ) (a b : ℤ) : Type 0 where
  pub low : a ≤ℤ (b +ℤ pos k)
  pub high : b ≤ℤ (a +ℤ pos k)

-- the sums are at most k away from 0
pub record AreWithin (k : ℕ) (sums : List ℤ) : Type 0 where
  pub near : (s : ℕ) → IsNear k (pos 0) (get_or sums s (pos 0))

-- what the edge adds was added to the sum of its sector
pub record AddsArea (m : Tables) (e : Edge) (old new : List ℤ) : Type 0 where
  pub count : length new ≡ length old
  pub sums : (s : ℕ) → get_or new s (pos 0) ≡ get_or old s (pos 0) +ℤ part_in m s e
  pub near : (s : ℕ) → IsNear (2 ^ 48) (get_or old s (pos 0)) (get_or new s (pos 0))

-- what the edges add, at most two, was added to the sums of their sectors
pub record AddsAreas (m : Tables) (es : List Edge) (old new : List ℤ) : Type 0 where
  pub count : length new ≡ length old
  pub sums : (s : ℕ) → get_or new s (pos 0)
      ≡ fold (λ sum e. sum +ℤ part_in m s e) (get_or old s (pos 0)) es
  pub near : (s : ℕ) → IsNear (2 ^ 49) (get_or old s (pos 0)) (get_or new s (pos 0))

-- each sum is twice the area of its sector
pub record AreAreas (m : Tables) (areas : List ℤ) : Type 0 where
  pub count : length areas ≡ length m.sectors
  pub sums : (s : ℕ) → get_or areas s (pos 0) ≡ doubled_area m s

-- each sum is twice the area that the sector's edges of the first n lines run round
pub record AreSums (m : Tables) (n : ℕ) (areas : List ℤ) : Type 0 where
  pub count : length areas ≡ length m.sectors
  pub sums : (s : ℕ) → get_or areas s (pos 0)
      ≡ fold (λ sum e. sum +ℤ part_in m s e) (pos 0) (flat_map (edges_of_line m) (take n m.lines))
  pub within : AreWithin (2 ^ 49 * n) areas
