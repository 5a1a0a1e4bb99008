use Rattle.std.proofs.Common.{arith}
use Rattle.tree_nodes.proofs.OrderLemmas.{next_noted}
use Rattle.tree_nodes.proofs.orders.note_of.Goals as goal

pub returns-then-before-after : goal.returns-then-before-after
returns-then-before-after c =
    let t = c.if-before-after.true in
    let r = c.requires.one in
    next_noted c.args.before c.args.after c.requires.few (omega (arith, t, r))
