use Rattle.tree_nodes.proofs.OrderLemmas.{notes_more}
use Rattle.tree_nodes.proofs.orders.note_part.Goals as goal

pub returns-clause-noted : goal.returns-clause-noted
returns-clause-noted c =
    λ n h. notes_more n c.args.before c.args.after c.note_of.result c.args.notes.now c.push_reserved.new.self c.push_reserved.ensures.items c.note_of.ensures h
