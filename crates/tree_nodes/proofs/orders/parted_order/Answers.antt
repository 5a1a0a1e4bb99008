use Rattle.std.proofs.Common.{ℕ, get_or, sym, subst, IsPermutation}
use Rattle.std.specs.Prelude.{filter_map}
use Rattle.tree_nodes.specs.Placed.{part_number}
use Rattle.tree_nodes.proofs.KeptEnds.{gained}
use Rattle.tree_nodes.proofs.OrderLemmas.{in_order, kept_all, kept_permuted}
use Rattle.tree_nodes.proofs.orders.parted_order.Goals as goal

pub bounds-notes-number : goal.bounds-notes-number
bounds-notes-number c = in_order _ c.loop-number.number-index c.args.order.now c.requires c.loop-number-test.true

pub loop-number-preserved : goal.loop-number-preserved
loop-number-preserved c =
    gained (λ (k : ℕ). part_number (get_or c.args.notes.now k 0)) c.args.order.now c.loop-number.number-index 0 _ _ c.loop-number-test.true
    c.in_ok-put_number.ensures c.loop-number.invariant

pub returns : goal.returns
returns c =
    let notes = c.args.notes.now in
    let order = c.args.order.now in
    let own = kept_all (λ (k : ℕ). part_number (get_or notes k 0)) order c.loop-number.own.items c.loop-number.number-index c.loop-number-test.false c.loop-number.invariant in
    subst (IsPermutation (filter_map part_number notes)) (sym own) (kept_permuted part_number notes order c.requires)
