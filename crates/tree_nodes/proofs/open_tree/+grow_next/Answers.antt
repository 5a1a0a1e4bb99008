use Rattle.std.proofs.Common.{arith}
use Rattle.tree_nodes.proofs.Opening.{divisible, right_next, right_refused, left_next, left_refused, can_close, grown_here}
use Rattle.tree_nodes.proofs.Growing.{ok_by}
use Rattle.tree_nodes.proofs.open_tree.+grow_next.Goals as goal

pub grow_next-requires : goal.grow_next-requires
grow_next-requires t c =
    let n = c.requires in
    let o = c.in-Ok.ensures.node c.if-not-opened.false n.rest n.list n.lists in
    let some = o.some in (
      omega (arith, some, c.decreases),
      right_next c.args.lines.now c.are_drawn.ensures c.args.room c.args.tree.now c.divide_next.new.tree n.rest n.list n.divisible o,
    )

pub returns-in-Err-grow_next-clause-refused : goal.returns-in-Err-grow_next-clause-refused
returns-in-Err-grow_next-clause-refused t c rest list e =
    let d = divisible c.args.lines.now c.args.tree.now c.requires rest list e in
    let o = c.in-Ok.ensures.node c.if-not-opened.false rest list e in
    right_refused c.args.lines.now c.are_drawn.ensures c.args.room c.args.tree.now c.divide_next.new.tree rest list d o c.in-Err-grow_next.error c.in-Err-grow_next.ensures.refused

pub grow_next-requires-2 : goal.grow_next-requires-2
grow_next-requires-2 t c =
    let n = c.requires in
    let o = c.in-Ok.ensures.node c.if-not-opened.false n.rest n.list n.lists in
    let some = o.some in (
      omega (arith, some, c.decreases),
      left_next c.args.lines.now c.are_drawn.ensures c.args.room c.args.tree.now c.divide_next.new.tree n.rest n.list n.divisible o c.grow_next.new.tree c.in-Ok-grow_next.ensures.ok,
    )

pub returns-in-Err-grow_next-2-clause-refused : goal.returns-in-Err-grow_next-2-clause-refused
returns-in-Err-grow_next-2-clause-refused t c rest list e =
    let d = divisible c.args.lines.now c.args.tree.now c.requires rest list e in
    let o = c.in-Ok.ensures.node c.if-not-opened.false rest list e in
    left_refused c.args.lines.now c.are_drawn.ensures c.args.room c.args.tree.now c.divide_next.new.tree rest list d o c.grow_next.new.tree c.in-Ok-grow_next.ensures.ok c.in-Err-grow_next-2.error c.in-Err-grow_next-2.ensures.refused

pub close_node-requires : goal.close_node-requires
close_node-requires t c =
    let n = c.requires in
    let o = c.in-Ok.ensures.node c.if-not-opened.false n.rest n.list n.lists in
    can_close c.args.lines.now c.are_drawn.ensures c.args.room c.args.tree.now c.divide_next.new.tree n.rest n.list n.divisible o c.grow_next.new.tree c.in-Ok-grow_next.ensures.ok
    c.grow_next-2.new.tree c.in-Ok-grow_next-2.ensures.ok

pub returns-clause-ok : goal.returns-clause-ok
returns-clause-ok t c =
    ok_by c.close_node.result _ _ (λ _ closed rest list e.
    let d = divisible c.args.lines.now c.args.tree.now c.requires rest list e in
    let o = c.in-Ok.ensures.node c.if-not-opened.false rest list e in
    grown_here c.args.lines.now c.are_drawn.ensures c.args.room c.args.tree.now c.divide_next.new.tree rest list d o c.grow_next.new.tree c.in-Ok-grow_next.ensures.ok
    c.grow_next-2.new.tree c.in-Ok-grow_next-2.ensures.ok c.close_node.new.tree closed) c.close_node.ensures.ok
