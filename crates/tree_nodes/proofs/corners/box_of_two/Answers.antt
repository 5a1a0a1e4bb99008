use Rattle.std.proofs.Common.{◌≡◌}
use Rattle.tree_nodes.proofs.CornerLemmas.{one_box, joined_box}
use Rattle.tree_nodes.proofs.corners.box_of_two.Goals as goal

pub returns : goal.returns
returns c =
    joined_box c.box_at.result c.box_at-2.result c.joined.result (λ v. v ≡ c.args.first) (λ v. v ≡ c.args.last)
    (one_box c.box_at.result c.args.first c.box_at.ensures) (one_box c.box_at-2.result c.args.last c.box_at-2.ensures) c.joined.ensures
