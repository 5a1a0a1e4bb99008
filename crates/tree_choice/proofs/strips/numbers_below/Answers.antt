use Rattle.std.proofs.Common.{◌∙◌, ◌++◌, [], ◌∷◌, ℕ, List, sym, ap}
use Rattle.tree_choice.proofs.Ranges.{one_number_more}
use Rattle.tree_choice.proofs.strips.numbers_below.Goals as goal

pub loop-number-preserved : goal.loop-number-preserved
loop-number-preserved c =
    let n = c.loop-number.number in
    c.in_ok-push.ensures.items ∙ ap (λ (ks : List ℕ). ks ++ n ∷ []) c.loop-number.invariant ∙ sym (one_number_more n)
