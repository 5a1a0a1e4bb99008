use Rattle.std.proofs.Common.{ℕ, ◌+◌, ◌∙◌, ap, sym, subst, ◌++◌, List, map, get_or, drop, length, arith, pos, IsPermutation}
use Rattle.std.proofs.lemmas.List.{length-append}
use Rattle.lump_records.specs.declared.records.Vertex.{Vertex}
use Rattle.tree_pieces.specs.declared.piece.Piece.{Piece}
use Rattle.tree_pieces.proofs.ItemReads.{map_more, map_all}
use Rattle.tree_choice.proofs.BoxLemmas.{no_piece}
use Rattle.tree_nodes.proofs.OrderLemmas.{in_order, picked_permuted, ends_at}
use Rattle.tree_nodes.proofs.orders.gathered.Goals as goal

pub bounds-firsts-at : goal.bounds-firsts-at
bounds-firsts-at c =
    let l = in_order _ c.loop-number.number-index c.args.order.now c.requires.order c.loop-number-test.true in
    let n = c.requires.firsts in
    omega (arith, l, n)

pub bounds-lasts-at : goal.bounds-lasts-at
bounds-lasts-at c =
    let l = in_order _ c.loop-number.number-index c.args.order.now c.requires.order c.loop-number-test.true in
    let n = c.requires.lasts in
    omega (arith, l, n)

pub bounds-pieces-at : goal.bounds-pieces-at
bounds-pieces-at c = in_order _ c.loop-number.number-index c.args.order.now c.requires.order c.loop-number-test.true

pub put_ended-requires : goal.put_ended-requires
put_ended-requires c =
    let i = c.loop-number.invariant in
    let placed = c.loop-number.placed in
    let t = c.loop-number-test.true in
    let p = i.room.pieces in
    let f = i.room.firsts in
    let l = i.room.lasts in
    record {
      pieces = omega (arith, t, p, i.many, placed.pieces.ok.0);
      firsts = omega (arith, t, f, i.many_firsts, placed.firsts.ok.0);
      lasts = omega (arith, t, l, i.many_lasts, placed.lasts.ok.0);
    }

pub loop-number-preserved : goal.loop-number-preserved
loop-number-preserved c =
    let ps = c.args.list.now.pieces.now in
    let order = c.args.order.now in
    let n = c.loop-number.number-index in
    let k = get_or order n 0 in
    let i = c.loop-number.invariant in
    let e = c.put_ended.ensures in
    let at = λ (k : ℕ). get_or ps k no_piece in
    let v : Vertex = record { x = pos 0; y = pos 0 } in
    record {
      pieces = ap (λ (xs : List Piece). xs ++ map at (drop (n + 1) order)) e.pieces ∙ map_more at order c.loop-number.placed.pieces.items n 0 c.loop-number-test.true i.pieces;
      ended = λ lines h. e.ended lines (ends_at lines ps c.args.list.now.firsts.now c.args.list.now.lasts.now k no_piece v (in_order _ n order c.requires.order c.loop-number-test.true) h) (i.ended lines h);
      many = ap length e.pieces ∙ length-append c.loop-number.placed.pieces.items _ ∙ ap (λ (m : ℕ). m + 1) i.many;
      many_firsts = ap length e.firsts ∙ length-append c.loop-number.placed.firsts.items _ ∙ ap (λ (m : ℕ). m + 1) i.many_firsts;
      many_lasts = ap length e.lasts ∙ length-append c.loop-number.placed.lasts.items _ ∙ ap (λ (m : ℕ). m + 1) i.many_lasts;
      room = e.room _ i.room;
    }

pub returns-clause-pieces : goal.returns-clause-pieces
returns-clause-pieces c =
    let ps = c.args.list.now.pieces.now in
    let order = c.args.order.now in
    let e = map_all (λ (k : ℕ). get_or ps k no_piece) order c.loop-number.placed.pieces.items c.loop-number.number-index c.loop-number-test.false c.loop-number.invariant.pieces in
    subst (IsPermutation ps) (sym e) (picked_permuted no_piece ps order c.requires.order)
