use Rattle.std.proofs.Common.{◌≡◌, ◌++◌, ℕ, List, drop}
use Rattle.std.specs.Prelude.{flat_map}
use Rattle.std.specs.Io.KnownBytes.{Appends}
use Rattle.run_edit.specs.Groups.{settled_outcomes}
use Rattle.run_edit.specs.Texts.{outcome_text}
use Rattle.run_edit.proofs.fate.write_settled.Given as goal

-- the answers so far have been written, and the others follow
abbrev pub invariant-loop-outcome : goal.invariant-loop-outcome
invariant-loop-outcome g l =
    (written : List ℕ) × Appends (g.W.Write.contents l.fn.writer) (g.W.Write.contents l.writer) written
    × (flat_map outcome_text (settled_outcomes l.fn.fate l.outcomes) ≡ written ++ flat_map outcome_text (settled_outcomes l.next (drop l.outcome-index l.outcomes)))
