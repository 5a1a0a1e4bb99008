-- The faults of what was drawn of a level that prevent no build, and so stay as they were
-- (docs/FORMAT.md, "WADs built anew").
use Rattle.std.specs.Prelude.{ℕ, if◌then◌else◌, not, ◌&&◌, List, filter_map, Option, Some, None}
use Rattle.std.specs.List.{enumerate_from}
use Rattle.lump_records.specs.Sides.{has_left, is_two_sided}
use Rattle.lump_records.specs.declared.records.Line.{Line}
use Rattle.wad_rebuild.specs.declared.kept.KeptFault.{KeptFault}
use Rattle.wad_rebuild.specs.declared.kept.KeptFault.TheVariants.{NoLeftSide}

-- the fault of a line of a number, if it is two-sided and has no left side
abbrev pub kept_fault : ℕ × Line → Option KeptFault
kept_fault p = if is_two_sided p.1 && not (has_left p.1) then Some (NoLeftSide p.0) else None

-- those of lines, by the lines' numbers
abbrev pub kept_faults : List Line → List KeptFault
kept_faults lines = filter_map kept_fault (enumerate_from 0 lines)
