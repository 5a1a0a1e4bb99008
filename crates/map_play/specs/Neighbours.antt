-- Sectors that rise to the next higher floor round them. The engine lists the higher floors round the sector, one for
-- each line across which one lies (`P_FindNextHighestFloor`), in an array of 20 (MAX_ADJOINING_SECTORS); with more than
-- 22 it crashes, as ports that follow it found out.
use Rattle.std.specs.Prelude.{ℕ, Bool, false, ◌&&◌, ◌==◌, not, nat_lt, List, count_by, slice_get, ℤ, pos, int_lt}
use Rattle.std.specs.List.{list_any}
use Rattle.std.specs.Option.{option_map_or}
use Rattle.lump_records.specs.declared.records.Sector.{Sector}
use Rattle.map_tables.specs.Tables.{Tables}
use Rattle.map_play.specs.declared.sided.SidedLine.{SidedLine}
use Rattle.map_play.specs.Donuts.{is_beside, sector_across}
use Rattle.map_play.specs.Sided.{sided_lines}
use Rattle.map_play.specs.Specials.{raisers, special_tag}
use Rattle.map_play.specs.Tags.{tag_of}

-- the floor of sector n, or 0 past the last one
abbrev pub floor_of : List Sector → ℕ → ℤ
floor_of ss n = option_map_or (λ s. s.floor) (slice_get ss n) (pos 0)

-- sector n is beside the line, and a sector with a higher floor lies across
abbrev pub is_higher_across : List Sector → ℕ → SidedLine → Bool
is_higher_across ss n l =
    is_beside n l
    && option_map_or (λ t. int_lt (floor_of ss n) (floor_of ss t)) (sector_across n l) false

-- sector n has the tag of a line that raises it to the next higher floor, and the tag isn't 0
abbrev pub rises : Tables → ℕ → Bool
rises m n =
    option_map_or
    (λ s. not (tag_of s == 0) && list_any (λ l. special_tag raisers l == tag_of s) m.lines)
    (slice_get m.sectors n) false

-- sector n rises so, and across more than 22 lines lies a sector with a higher floor
abbrev pub overfills_list : Tables → ℕ → Bool
overfills_list m n =
    rises m n && nat_lt 22 (count_by (is_higher_across m.sectors n) (sided_lines m))
