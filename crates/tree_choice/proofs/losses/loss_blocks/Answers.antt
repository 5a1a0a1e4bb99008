use Rattle.std.proofs.Common.{◌≡◌, ◌∙◌, ◌+◌, ◌-◌, sym, ap, subst, ℕ, take, drop, List, [], ◌∷◌, ◌++◌, All, arith}
use Rattle.std.proofs.lemmas.List.{take_all, append-nil}
use Rattle.std.proofs.lemmas.List.Elements.{All-take, All-drop, All-push}
use Rattle.std.proofs.lemmas.List.Sorted.{All-permutation}
use Rattle.std.specs.List.Sorted.{IsPermutation}
use Rattle.tree_choice.specs.declared.losses.Loss.{Loss}
use Rattle.tree_choice.specs.Losses.{IsLoss, IsLossBlock, losses_in}
use Rattle.tree_choice.proofs.LossLemmas.{losses_append}
use Rattle.tree_choice.proofs.OpenBlocks.{front}
use Rattle.tree_choice.proofs.losses.loss_blocks.Goals as goal

pub block_of-requires-clause-each : goal.block_of-requires-clause-each
block_of-requires-clause-each c =
    let lines = c.args.lines.now in
    let all = All-permutation (IsLoss lines) c.args.losses.items c.sort_losses.new.losses.items c.in_ok-sort_losses.ensures c.requires in
    All-take (IsLoss lines) (c.min-end.result - c.loop-from.from) _ (All-drop (IsLoss lines) c.loop-from.from _ (subst (All (IsLoss lines)) (sym c.deref.ensures.value) all))

pub loop-from-preserved : goal.loop-from-preserved
loop-from-preserved c =
    let ls = c.sort_losses.new.losses.items in
    let from = c.loop-from.from in
    let end = c.min-end.result in
    let i = c.loop-from.invariant in
    let e = c.min-end.ensures in
    let t = c.loop-from-test.true in
    let b = c.in_ok-block_of.field-0 in
    let bs = c.loop-from.blocks.items in
    let items = c.in_ok-push.ensures.items in
    let s : from + (end - from) ≡ end = omega arith in
    record {
      blocks = subst (All (IsLossBlock c.args.lines.now)) (sym items) (All-push (IsLossBlock c.args.lines.now) bs b i.blocks c.in_ok-block_of.ensures.block);
      made = ap losses_in items ∙ losses_append bs (b ∷ []) ∙ ap (λ (xs : List Loss). losses_in bs ++ xs) (append-nil b.losses.items ∙ c.in_ok-block_of.ensures.losses ∙ ap (λ (xs : List Loss). take (end - from) (drop from xs)) c.deref.ensures.value)
          ∙ ap (λ (xs : List Loss). xs ++ take (end - from) (drop from ls)) i.made ∙ front from (end - from) ls ∙ ap (λ (n : ℕ). take n ls) s;
      within = omega arith;
    }

pub returns-clause-losses : goal.returns-clause-losses
returns-clause-losses c =
    let t = c.loop-from-test.false in
    subst (IsPermutation c.args.losses.items) (sym (c.loop-from.invariant.made ∙ take_all c.loop-from.from c.sort_losses.new.losses.items (omega arith))) c.in_ok-sort_losses.ensures
