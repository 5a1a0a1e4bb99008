-- The lines of a map with the sectors on their sides.
use Rattle.std.specs.Prelude.{ℕ, Option, None, Some, List, map, if◌then◌else◌}
use Rattle.std.specs.List.{enumerate_from}
use Rattle.lump_records.specs.declared.records.Line.{Line}
use Rattle.lump_records.specs.Sides.{has_left, is_two_sided}
use Rattle.map_tables.specs.Tables.{Tables}
use Rattle.map_checks.specs.Textures.{side_in}
use Rattle.map_play.specs.declared.sided.SidedLine.{SidedLine}

-- the sector on a line's right
abbrev pub right_sector_of : Tables → Line → ℕ
right_sector_of m l = (side_in m l.right).sector

-- the sector on a line's left
abbrev pub left_sector_of : Tables → Line → ℕ
left_sector_of m l = (side_in m l.left).sector

-- the sector on a line's left, if it has a left side
abbrev pub sector_on_left : Tables → Line → Option ℕ
sector_on_left m l = if has_left l then Some (left_sector_of m l) else None

-- a line with its number and the sectors on its sides
abbrev pub sided : Tables → ℕ × Line → SidedLine
sided m e = record {
  number = e.0;
  right = right_sector_of m e.1;
  left = sector_on_left m e.1;
  is_two_sided = is_two_sided e.1;
}

-- all lines of the map with their numbers and the sectors on their sides
abbrev pub sided_lines : Tables → List SidedLine
sided_lines m = map (sided m) (enumerate_from 0 m.lines)
