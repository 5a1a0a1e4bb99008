use Rattle.std.proofs.Common.{length}
use Rattle.map_script.proofs.Cleaning.{IsCleaned}
use Rattle.map_script.proofs.script.clean.Given as goal

-- the words so far, and those of the rest, are the line's
abbrev pub invariant-loop-word : goal.invariant-loop-word
invariant-loop-word l = IsCleaned l.text.items l.rest l.fn.line

abbrev pub decreases-loop-word : goal.decreases-loop-word
decreases-loop-word l = length l.rest
