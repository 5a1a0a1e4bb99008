-- Donuts. Special 9 lets each sector with the line's tag, the pool, sink to the floor beyond the ring round it. As the
-- source of the engine has it (`EV_DoDonut`), the ring is what lies across the first line of the pool, and the floor
-- is what lies behind the first line of the ring that doesn't have the pool on its left.
use Rattle.std.specs.Prelude.{ℕ, Bool, false, ◌&&◌, ◌||◌, ◌==◌, not, if◌then◌else◌, Option, None, Some, is_some, List, find, slice_get, option_and_then}
use Rattle.std.specs.List.{list_any, filter_map, range_with_len}
use Rattle.std.specs.Option.{option_map_or}
use Rattle.std.specs.Prelude.{length}
use Rattle.map_tables.specs.Tables.{Tables}
use Rattle.map_play.specs.declared.sided.SidedLine.{SidedLine}
use Rattle.map_play.specs.Sided.{sided_lines}
use Rattle.map_play.specs.Specials.{donuts, special_tag}
use Rattle.map_play.specs.Tags.{tag_of}

-- the sector is on the line's left
abbrev pub is_on_left : ℕ → SidedLine → Bool
is_on_left s l = option_map_or (λ t. t == s) l.left false

-- the sector is on a side of the line
abbrev pub is_beside : ℕ → SidedLine → Bool
is_beside s l = (l.right == s) || is_on_left s l

-- what lies across a line from a sector beside it: nothing if the line isn't two-sided
abbrev pub sector_across : ℕ → SidedLine → Option ℕ
sector_across s l =
    if l.is_two_sided then (if l.right == s then l.left else Some l.right) else None

-- a line of the ring that doesn't have the pool on its left
abbrev pub is_outer : ℕ → ℕ → SidedLine → Bool
is_outer pool ring l = is_beside ring l && not (is_on_left pool l)

-- the line's number, if it has no left side
abbrev pub gap_at : SidedLine → Option ℕ
gap_at l = if is_some l.left then None else Some l.number

-- the first such line of the ring, if it has no left side
abbrev pub gap_of_ring : List SidedLine → ℕ → ℕ → Option ℕ
gap_of_ring ls pool ring = option_and_then gap_at (find (is_outer pool ring) ls)

-- the line that lacks a side, where this lies across the pool's first line
abbrev pub gap_behind : List SidedLine → ℕ → SidedLine → Option ℕ → Option ℕ
gap_behind ls pool l None = Some l.number
gap_behind ls pool l (Some ring) = gap_of_ring ls pool ring

-- the line that lacks a side, from the pool's first line on
abbrev pub gap_past : List SidedLine → ℕ → SidedLine → Option ℕ
gap_past ls pool l = gap_behind ls pool l (sector_across pool l)

-- the line that lacks a side which a donut needs round the pool
abbrev pub gap_of_pool : List SidedLine → ℕ → Option ℕ
gap_of_pool ls pool = option_and_then (gap_past ls pool) (find (is_beside pool) ls)

-- sector n is the pool of a donut: it has the tag of a line with special 9, and the tag isn't 0
abbrev pub is_pool : Tables → ℕ → Bool
is_pool m n =
    option_map_or
    (λ s. not (tag_of s == 0) && list_any (λ l. special_tag donuts l == tag_of s) m.lines)
    (slice_get m.sectors n) false

-- the line that lacks a side which a donut needs round sector n, if that is a pool
abbrev pub donut_gap : Tables → ℕ → Option ℕ
donut_gap m n = if is_pool m n then gap_of_pool (sided_lines m) n else None

-- the lines that lack such a side
abbrev pub donut_gaps : Tables → List ℕ
donut_gaps m = filter_map (donut_gap m) (range_with_len 0 (length m.sectors))

-- line n lacks a side that a donut needs
abbrev pub is_donut_gap : Tables → ℕ → Bool
is_donut_gap m n = list_any (λ k. k == n) (donut_gaps m)
