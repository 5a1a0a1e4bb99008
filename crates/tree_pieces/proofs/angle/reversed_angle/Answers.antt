use Rattle.tree_pieces.proofs.Turns.{angle_opposite}
use Rattle.tree_pieces.proofs.angle.reversed_angle.Goals as goal

pub returns : goal.returns
returns c = λ x y n h. angle_opposite x y c.args.angle n h
