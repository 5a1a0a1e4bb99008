use Rattle.std.proofs.Common.{take}
use Rattle.std.specs.Io.KnownBytes.{Appends}
use Rattle.cli_rebuild.specs.Rebuilding.{kept_notes}
use Rattle.cli_rebuild.proofs.notes.write_notes.Given as goal

-- the faults of the levels so far have been told
abbrev pub invariant-loop-level : goal.invariant-loop-level
invariant-loop-level g l =
    Appends (g.F.Write.contents l.fn.errors) (g.F.Write.contents l.errors) (kept_notes (take l.level-index l.levels))
