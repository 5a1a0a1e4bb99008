use Rattle.std.proofs.Common.{arith}
use Rattle.std.proofs.lemmas.Option.{slice_get-get_or}
use Rattle.tree_nodes.proofs.CornerLemmas.{first_two, next_two, all_two}
use Rattle.tree_nodes.proofs.corners.bounds_of.Goals as goal

pub loop-n-init : goal.loop-n-init
loop-n-init c =
    let some = c.requires.some in
    let beside = c.requires.beside in
    first_two c.args.firsts.now c.args.lasts.now c.box_of_two-bounds.result _ _ (slice_get-get_or c.args.firsts.now 0 _ (omega arith))
    (slice_get-get_or c.args.lasts.now 0 _ (omega arith)) c.box_of_two-bounds.ensures

pub loop-n-preserved : goal.loop-n-preserved
loop-n-preserved c =
    let test = c.loop-n-test.true in
    let beside = c.requires.beside in
    next_two c.args.firsts.now c.args.lasts.now c.loop-n.bounds c.box_of_two.result c.joined-bounds.result c.loop-n.n _ _
    (slice_get-get_or c.args.firsts.now c.loop-n.n _ (omega arith)) (slice_get-get_or c.args.lasts.now c.loop-n.n _ (omega arith))
    c.loop-n.invariant c.box_of_two.ensures c.joined-bounds.ensures

pub returns : goal.returns
returns c =
    all_two c.args.firsts.now c.args.lasts.now c.loop-n.bounds c.loop-n.n (omega (arith, c.loop-n-test.false)) c.requires.beside c.loop-n.invariant
