use Rattle.tree_pieces.proofs.Boxes.{box_right, box_left}
use Rattle.tree_pieces.proofs.laws.pieces_go_with_their_box.Goals as goal

pub returns-clause-right : goal.returns-clause-right
returns-clause-right c = box_right

pub returns-clause-left : goal.returns-clause-left
returns-clause-left c = box_left
