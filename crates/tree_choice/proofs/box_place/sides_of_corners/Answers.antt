use Rattle.tree_pieces.specs.Plane.{vertex_value, blur}
use Rattle.tree_choice.proofs.Corners.{above_blur, below_blur}
use Rattle.tree_choice.proofs.box_place.sides_of_corners.Goals as goal

pub returns-clause-right : goal.returns-clause-right
returns-clause-right c = λ h. above_blur (blur c.args.margins.ray) (vertex_value c.args.margins.ray c.args.low) (c.sides_of_place-least.ensures.right h)

pub returns-clause-left : goal.returns-clause-left
returns-clause-left c = λ h. below_blur (blur c.args.margins.ray) (vertex_value c.args.margins.ray c.args.high) (c.sides_of_place-greatest.ensures.left h)
