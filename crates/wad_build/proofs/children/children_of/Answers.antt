use Rattle.std.proofs.Common.{◌<◌, length, arith}
use Rattle.std.proofs.lemmas.List.{get_or_default}
use Rattle.std.proofs.lemmas.Bool.Decides.{nat_tests}
use Rattle.wad_build.proofs.FirstLemmas.{children_more, children_all}
use Rattle.wad_build.proofs.children.children_of.Goals as goal

pub loop-node-preserved : goal.loop-node-preserved
loop-node-preserved c =
    rw (c.in_ok-push-3.ensures.items, c.in_ok-push-2.ensures.items)
    (children_more c.args.nodes.now c.loop-node.node-index _ c.loop-node.all.items c.loop-node-test.true
    (get_or_default c.args.nodes.now c.loop-node.node-index _ _ c.loop-node-test.true) c.loop-node.invariant)

pub returns-clause-children : goal.returns-clause-children
returns-clause-children c =
    let some : 0 < length c.args.nodes.now = grind (arith, nat_tests, c.is_empty.ensures, c.if-is_empty.false) in
    children_all c.args.nodes.now c.loop-node.node-index c.loop-node.all.items some c.loop-node-test.false c.loop-node.invariant
