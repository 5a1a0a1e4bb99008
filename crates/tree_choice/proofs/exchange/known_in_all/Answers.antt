use Rattle.std.proofs.Common.{◌≡◌, ◌+◌, ◌∙◌, sym, ap, subst, get_or, Some, slice_get}
use Rattle.tree_choice.specs.Floors.{AreFloors}
use Rattle.tree_choice.proofs.Best.{stands_at}
use Rattle.tree_choice.proofs.BoxLemmas.{no_piece}
use Rattle.tree_choice.proofs.Known.{push_known}
use Rattle.tree_choice.proofs.Taking.{longer}
use Rattle.tree_choice.proofs.exchange.known_in_all.Goals as goal

pub loop-n-preserved : goal.loop-n-preserved
loop-n-preserved c =
    let lines = c.args.lines.now in
    let part = c.args.part.now in
    let all = c.loop-n.all.items in
    let i = c.loop-n.invariant in
    let n = c.loop-n.n in
    let q = get_or part n no_piece in
    let f = c.known_in_part.result in
    let items = c.in_ok-push.ensures.items in
    let size = longer all _ f items in
    let here = stands_at part n no_piece c.loop-n-test.true in
    record {
      size = size ∙ ap (λ k. k + 1) i.size;
      known = λ ps x a. subst (AreFloors lines part part) (sym items)
          (push_known lines part part all q f (i.known ps x a) (subst (λ k. slice_get part k ≡ Some q) (sym i.size) here)
          (c.known_in_part.ensures ps part x (c.floor_at-known.ensures lines ps part q a here)));
    }
