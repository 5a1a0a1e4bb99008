-- The levels so far were dumped or left.
use Rattle.std.specs.Prelude.{take}
use Rattle.cli_dump.proofs.LevelDumps.{HasDumped}
use Rattle.cli_dump.proofs.level_dumps.dump_levels.Given as goal

abbrev pub invariant-loop-level : goal.invariant-loop-level
invariant-loop-level g l =
    HasDumped l.is_exact l.wad (take l.level-index l.levels) l.are_all (g.W.Write.contents l.fn.writer) (g.W.Write.contents l.writer) (g.E.Write.contents l.fn.errors) (g.E.Write.contents l.errors)
