use Rattle.tree_pieces.proofs.Rounding.{steps_rise, one_point}
use Rattle.tree_pieces.proofs.Steps.{point_in_box}
use Rattle.tree_pieces.proofs.laws.points_rise.Goals as goal

pub returns-clause-steps : goal.returns-clause-steps
returns-clause-steps c = λ e s t hs ht. steps_rise e s t hs.positive ht.positive hs.at_least_zero

pub returns-clause-one_point : goal.returns-clause-one_point
returns-clause-one_point c = one_point

pub returns-clause-inside : goal.returns-clause-inside
returns-clause-inside c = point_in_box
