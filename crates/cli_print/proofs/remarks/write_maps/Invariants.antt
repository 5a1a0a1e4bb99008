use Rattle.std.specs.Prelude.{take}
use Rattle.cli_print.specs.Choosing.{wants_view}
use Rattle.map_tables.specs.Projects.{project_of}
use Rattle.cli_print.proofs.Linting.{HasSaid}
use Rattle.cli_print.proofs.remarks.write_maps.Given as goal

-- this has been said of the maps so far, and counted
abbrev pub invariant-loop-n : goal.invariant-loop-n
invariant-loop-n g l =
    HasSaid (g.O.Origin.origin l.origin) (wants_view l.wants) (take l.n (project_of l.maps).maps) l.count (g.W.Write.contents l.fn.writer) (g.W.Write.contents l.writer)
