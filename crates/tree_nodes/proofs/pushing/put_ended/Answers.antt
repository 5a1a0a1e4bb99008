use Rattle.tree_nodes.proofs.KeptEnds.{ends_more}
use Rattle.tree_nodes.proofs.pushing.put_ended.Goals as goal

pub returns-clause-ended : goal.returns-clause-ended
returns-clause-ended c =
    λ lines own h. ends_more lines c.args.list.now (record { pieces = c.push_reserved.new.self; firsts = c.push_reserved-2.new.self; lasts = c.push_reserved-3.new.self }) c.args.piece.now c.args.ends h own c.push_reserved.ensures.items c.push_reserved-2.ensures.items c.push_reserved-3.ensures.items
