use Rattle.tree_pieces.proofs.Rounding.{error_bounds, near_right, near_left}
use Rattle.tree_pieces.proofs.laws.points_round_to_nearest.Goals as goal

pub returns-clause-nearest : goal.returns-clause-nearest
returns-clause-nearest c = λ a b t h. error_bounds a b t h.positive

pub returns-clause-side : goal.returns-clause-side
returns-clause-side c = λ r e t h. (near_right r e t h.positive, near_left r e t h.positive)
