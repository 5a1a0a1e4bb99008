-- Sectors with a border: a line that has the sector on exactly one side.
use Rattle.std.specs.Prelude.{ℕ, Bool, ◌&&◌, ◌||◌, ◌==◌, not, if◌then◌else◌}
use Rattle.std.specs.List.{list_any}
use Rattle.lump_records.specs.declared.records.Line.{Line}
use Rattle.lump_records.specs.Sides.{has_left}
use Rattle.map_tables.specs.Tables.{Tables}
use Rattle.map_play.specs.Sided.{right_sector_of, left_sector_of}

-- the line has the sector on exactly one side
abbrev pub borders : Tables → ℕ → Line → Bool
borders m s l =
    if has_left l then not (right_sector_of m l == left_sector_of m l)
    && ((right_sector_of m l == s) || (left_sector_of m l == s))
    else (right_sector_of m l == s)

-- a line of the map has the sector on exactly one side
abbrev pub has_border : Tables → ℕ → Bool
has_border m s = list_any (borders m s) m.lines
