use Rattle.tree_pieces.proofs.FirstList.{first_are_pieces, first_right, first_left}
use Rattle.tree_pieces.proofs.laws.first_list_covers_each_side.Goals as goal

pub returns-clause-pieces : goal.returns-clause-pieces
returns-clause-pieces c = first_are_pieces

pub returns-clause-cover : goal.returns-clause-cover
returns-clause-cover c = λ lines line k l h. (first_right lines line k l h, first_left lines line k l h)
