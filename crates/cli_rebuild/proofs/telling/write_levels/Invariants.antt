use Rattle.std.proofs.Common.{take}
use Rattle.std.specs.Io.KnownBytes.{Appends}
use Rattle.cli_rebuild.specs.Rebuilding.{fate_texts}
use Rattle.cli_rebuild.proofs.telling.write_levels.Given as goal

-- the levels so far have been told
abbrev pub invariant-loop-level : goal.invariant-loop-level
invariant-loop-level g l = Appends (g.W.Write.contents l.fn.writer) (g.W.Write.contents l.writer) (fate_texts (take l.level-index l.levels))
