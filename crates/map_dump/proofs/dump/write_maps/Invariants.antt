use Rattle.std.specs.Prelude.{take}
use Rattle.std.specs.Io.KnownBytes.{Appends}
use Rattle.map_tables.specs.Projects.{project_of}
use Rattle.map_dump.specs.Dump.{commands_from}
use Rattle.map_dump.proofs.Written.{text}
use Rattle.map_dump.proofs.dump.write_maps.Given as goal

-- the lines of the maps so far have been written
abbrev pub invariant-loop-n : goal.invariant-loop-n
invariant-loop-n g l =
    Appends (g.W.Write.contents l.fn.writer) (g.W.Write.contents l.writer) (text (commands_from 0 (take l.n (project_of l.maps).maps)))
