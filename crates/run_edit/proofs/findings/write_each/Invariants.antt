use Rattle.std.proofs.Common.{take}
use Rattle.std.specs.Prelude.{flat_map}
use Rattle.std.specs.Io.KnownBytes.{Appends}
use Rattle.run_edit.specs.Texts.{finding_line}
use Rattle.run_edit.proofs.findings.write_each.Given as goal

-- the findings so far have been written
abbrev pub invariant-loop-finding : goal.invariant-loop-finding
invariant-loop-finding g l =
    Appends (g.W.Write.contents l.fn.writer) (g.W.Write.contents l.writer) (flat_map finding_line (take l.finding-index l.found))
