use Rattle.std.proofs.Common.{sym, ap, ◌∙◌}
use Rattle.std.proofs.lemmas.Int.{to_z-of_z}
use Rattle.std.specs.Int.{w64}
use mir.Val.{to_z}
use Rattle.tree_choice.proofs.whole_lines.sign_of.Goals as goal

pub returns-then-sum-eq0-clause-other : goal.returns-then-sum-eq0-clause-other
returns-then-sum-eq0-clause-other c =
    λ h. absurd (h (sym (to_z-of_z w64 c.args.sum c.ranges.sum) ∙ ap (to_z w64) c.if-sum-eq0.true))
