use Rattle.std.specs.Prelude.{take}
use Rattle.std.specs.Io.KnownBytes.{Appends}
use Rattle.map_tables.specs.Projects.{project_of}
use Rattle.run_edit.specs.Texts.{map_lines}
use Rattle.run_edit.proofs.listing.write_each.Given as goal

-- the lines of the maps so far have been written
abbrev pub invariant-loop-n : goal.invariant-loop-n
invariant-loop-n g l =
    Appends (g.W.Write.contents l.fn.writer) (g.W.Write.contents l.writer) (map_lines 0 (take l.n (project_of l.maps).maps))
