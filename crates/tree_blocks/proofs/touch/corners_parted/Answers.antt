use Rattle.std.proofs.lemmas.Int.{to_z-of_z}
use Rattle.std.specs.Int.{w32}
use Rattle.tree_blocks.proofs.TouchLemmas.{then_parted, else_parted}
use Rattle.tree_blocks.proofs.touch.corners_parted.Goals as goal

pub returns-then-not-all_on_right : goal.returns-then-not-all_on_right
returns-then-not-all_on_right c =
    let e1 = to_z-of_z w32 c.args.left c.ranges.left in
    let e2 = to_z-of_z w32 c.args.bottom c.ranges.bottom in
    let k = simp (e1, e2) at c.corners-corners.ensures in
    let r = simp (c.between-ray.ensures.ray, k) at c.all_on_right.ensures in
    let l = simp (c.between-ray.ensures.ray, k) at c.all_on_left.ensures in
    then_parted c.args.start c.args.end c.args.left c.args.bottom _ _ r l c.if-not-all_on_right.true

pub returns-else-not-all_on_right : goal.returns-else-not-all_on_right
returns-else-not-all_on_right c =
    let e1 = to_z-of_z w32 c.args.left c.ranges.left in
    let e2 = to_z-of_z w32 c.args.bottom c.ranges.bottom in
    let k = simp (e1, e2) at c.corners-corners.ensures in
    let r = simp (c.between-ray.ensures.ray, k) at c.all_on_right.ensures in
    else_parted c.args.start c.args.end c.args.left c.args.bottom _ r c.if-not-all_on_right.false
