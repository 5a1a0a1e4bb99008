use Rattle.std.proofs.Common.{◌∙◌, ◌++◌, [], ◌∷◌, ℕ, List, sym, ap}
use Rattle.wad_rebuild.proofs.InTurn.{one_number_more}
use Rattle.wad_rebuild.proofs.levels.numbers_of.Goals as goal

pub loop-number-preserved : goal.loop-number-preserved
loop-number-preserved c =
    let n = c.loop-number.number in
    c.in_ok-push.ensures.items ∙ ap (λ (ks : List ℕ). ks ++ n ∷ []) c.loop-number.invariant ∙ sym (one_number_more n)
