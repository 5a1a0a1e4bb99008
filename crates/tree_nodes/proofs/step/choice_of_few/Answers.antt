use Rattle.tree_nodes.proofs.Everywhere.{one_block}
use Rattle.tree_nodes.proofs.step.choice_of_few.Goals as goal

pub choose_in_boxes-requires-clause-blocks : goal.choose_in_boxes-requires-clause-blocks
choose_in_boxes-requires-clause-blocks c =
    one_block c.args.lines.now c.args.list.now.pieces.now c.are_drawn.ensures c.requires.list.each c.requires.some c.requires.few
