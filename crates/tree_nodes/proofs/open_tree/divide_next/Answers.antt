use Rattle.std.proofs.Common.{refl, subst, arith, Bool, List}
use Rattle.tree_nodes.specs.Growth.{IsListStep, IsLeafStep, IsPartedStep}
use Rattle.tree_nodes.proofs.Growing.{parted_of, leaf_of}
use Rattle.tree_nodes.proofs.Opening.{leaf_next_refused, leaf_next_grown, deep_next, line_known, node_next_opened}
use Rattle.tree_nodes.proofs.open_tree.divide_next.Goals as goal
use Rattle.tree_nodes.proofs.open_tree.divide_next.Goals.{In-Leaf, In-Parts}

-- what the step says of the list that was taken
leaf : (c : In-Leaf) → IsLeafStep c.args.lines.now c.in-Some.list.value.ended.pieces.items c.args.tree.now.used.items c.pop.new.self.items c.step_in.new.lists.items c.in-Leaf.leaf
leaf c = leaf_of c.args.lines.now c.in-Some.list.value.ended.pieces.items c.args.tree.now.used.items c.pop.new.self.items c.step_in.new.lists.items c.in-Ok.step c.in-Leaf.leaf c.in-Leaf.is
    (subst (λ (u : List Bool). IsListStep c.args.lines.now c.in-Some.list.value.ended.pieces.items u c.pop.new.self.items c.step_in.new.lists.items c.in-Ok.step) c.deref.ensures.value c.in-Ok.ensures)

parted : (c : In-Parts) → IsPartedStep c.args.lines.now c.in-Some.list.value.ended.pieces.items c.args.tree.now.used.items c.pop.new.self.items c.step_in.new.lists.items c.in-Parts.partition
parted c = parted_of c.args.lines.now c.in-Some.list.value.ended.pieces.items c.args.tree.now.used.items c.pop.new.self.items c.step_in.new.lists.items c.in-Ok.step c.in-Parts.partition c.in-Parts.is
    (subst (λ (u : List Bool). IsListStep c.args.lines.now c.in-Some.list.value.ended.pieces.items u c.pop.new.self.items c.step_in.new.lists.items c.in-Ok.step) c.deref.ensures.value c.in-Ok.ensures)

pub returns-in-Err-end_leaf-clause-refused : goal.returns-in-Err-end_leaf-clause-refused
returns-in-Err-end_leaf-clause-refused c =
    let l = leaf (goal.at.returns-in-Err-end_leaf-clause-refused c).In-Leaf in
    leaf_next_refused c.args.lines.now c.args.room c.args.tree.now (record c.args.tree.now { lists = c.step_in.new.lists }) c.pop.new.self.items c.in-Some.list c.in-Some.ensures.items
    (record { partitions = refl; children = refl; used = refl; grown = refl }) c.in-Leaf.leaf.value.ended.pieces.items l.pieces l.none c.in-Err-end_leaf.error c.in-Err-end_leaf.ensures.refused

pub returns-in-Ok-end_leaf-clause-leaf : goal.returns-in-Ok-end_leaf-clause-leaf
returns-in-Ok-end_leaf-clause-leaf c =
    let l = leaf (goal.at.returns-in-Ok-end_leaf-clause-leaf c).In-Leaf in
    λ _. leaf_next_grown c.args.lines.now c.args.room c.args.tree.now _ c.pop.new.self.items c.in-Some.list c.in-Some.ensures.items
    (record { partitions = refl; children = refl; used = refl; grown = refl }) c.in-Leaf.leaf.value.ended.pieces.items l.pieces l.none l.lists c.end_leaf.new.tree c.in-Ok-end_leaf.ensures.ok

pub returns-then-room-eq0-clause-refused : goal.returns-then-room-eq0-clause-refused
returns-then-room-eq0-clause-refused c =
    deep_next c.args.lines.now c.args.room c.args.tree.now (record c.args.tree.now { lists = c.step_in.new.lists }) c.pop.new.self.items c.in-Some.list c.in-Some.ensures.items
    (record { partitions = refl; children = refl; used = refl; grown = refl }) c.in-Parts.partition
    (parted (goal.at.returns-then-room-eq0-clause-refused c).In-Parts) c.if-room-eq0.true

pub open_node-requires : goal.open_node-requires
open_node-requires c =
    line_known c.args.lines.now c.args.room c.args.tree.now (record c.args.tree.now { lists = c.step_in.new.lists }) c.pop.new.self.items c.in-Some.list c.in-Some.ensures.items
    (record { partitions = refl; children = refl; used = refl; grown = refl }) c.in-Parts.partition
    (parted (goal.at.open_node-requires c).In-Parts)

pub returns-in-Ok-open_node-clause-node : goal.returns-in-Ok-open_node-clause-node
returns-in-Ok-open_node-clause-node c =
    let some = c.if-room-eq0.false in
    λ _. node_next_opened c.args.lines.now c.args.room c.args.tree.now _ c.pop.new.self.items c.in-Some.list c.in-Some.ensures.items
    (record { partitions = refl; children = refl; used = refl; grown = refl }) c.in-Parts.partition
    (parted (goal.at.returns-in-Ok-open_node-clause-node c).In-Parts) c.open_node.new.tree (omega arith) c.in-Ok-open_node.ensures
