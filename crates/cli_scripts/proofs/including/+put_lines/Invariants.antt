use Rattle.std.proofs.Common.{take}
use Rattle.std.specs.Prelude.{string_bytes}
use Rattle.std.specs.Io.KnownBytes.{Keeps}
use Rattle.cli_scripts.specs.Including.{PutsJoined}
use Rattle.cli_scripts.proofs.including.+put_lines.Given as goal

-- the lines so far stand behind the others, joined, and nothing was told
abbrev pub invariant-loop-place : goal.invariant-loop-place
invariant-loop-place g l = record {
  put : PutsJoined l.left (string_bytes l.file.path) (take l.place l.file.lines) l.fn.whole.lines l.whole.lines l.fn.whole.files l.whole.files;
  quiet : Keeps (g.F.Write.contents l.fn.faults) (g.F.Write.contents l.faults);
}

abbrev pub decreases-put_lines : goal.decreases-put_lines
decreases-put_lines g l = l.left
