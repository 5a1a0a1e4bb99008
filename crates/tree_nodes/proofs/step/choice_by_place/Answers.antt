use Rattle.std.proofs.Common.{ap, length, arith}
use Rattle.std.proofs.lemmas.List.Sorted.{length_permutation, All-permutation}
use Rattle.tree_pieces.specs.Pieces.{IsPiece}
use Rattle.tree_choice.proofs.Ended.{ended_in}
use Rattle.tree_nodes.proofs.step.choice_by_place.Goals as goal

pub blocks_of-requires-clause-list : goal.blocks_of-requires-clause-list
blocks_of-requires-clause-list c =
    let lines = c.args.lines.now in
    let g = c.in_ok-placed.ensures in
    let e = c.as_slices-slices.ensures in
    ended_in lines c.as_slices-slices.result c.in_ok-placed.placed
    (All-permutation (IsPiece lines) c.args.list.now.pieces.now c.in_ok-placed.placed.pieces.items g.pieces c.requires.list.each)
    (g.ended lines c.requires.list.ends) e.pieces e.firsts e.lasts

pub blocks_of-requires-clause-few : goal.blocks_of-requires-clause-few
blocks_of-requires-clause-few c =
    let l = length_permutation c.args.list.now.pieces.now c.in_ok-placed.placed.pieces.items c.in_ok-placed.ensures.pieces in
    let m = ap length c.as_slices-slices.ensures.pieces in
    let f = c.requires.few in
    omega (arith, l, m, f)
