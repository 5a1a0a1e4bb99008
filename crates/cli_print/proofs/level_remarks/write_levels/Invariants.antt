use Rattle.std.specs.Prelude.{take}
use Rattle.cli_print.specs.Choosing.{wants_view}
use Rattle.cli_print.proofs.LevelLines.{HasSaidOf}
use Rattle.cli_print.proofs.level_remarks.write_levels.Given as goal

-- this has been said of the levels so far, and counted
abbrev pub invariant-loop-level : goal.invariant-loop-level
invariant-loop-level g l =
    HasSaidOf (wants_view l.wants) l.wad (take l.level-index l.levels) l.count (g.W.Write.contents l.fn.writer) (g.W.Write.contents l.writer)
