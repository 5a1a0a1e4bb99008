use Rattle.std.proofs.Common.{ap, ◌∙◌, subst}
use Rattle.std.specs.Prelude.{ℤ, pos, ◌<ℤ◌}
use Rattle.tree_pieces.specs.Plane.{vertex_value}
use Rattle.tree_choice.proofs.Corners.{low_is, high_is}
use Rattle.tree_choice.proofs.box_place.sides_of_box.Goals as goal

pub returns-clause-right : goal.returns-clause-right
returns-clause-right c = λ h.
    let r = c.args.margins.ray in
    subst (λ (z : ℤ). pos 0 <ℤ z) (ap (vertex_value r) c.corners_of-corners.ensures.low ∙ low_is r c.args.bounds) (c.sides_of_corners.ensures.right h)

pub returns-clause-left : goal.returns-clause-left
returns-clause-left c = λ h.
    let r = c.args.margins.ray in
    subst (λ (z : ℤ). z <ℤ pos 0) (ap (vertex_value r) c.corners_of-corners.ensures.high ∙ high_is r c.args.bounds) (c.sides_of_corners.ensures.left h)
