use Rattle.std.proofs.Common.{rules}
use Rattle.std.specs.Prelude.{FitsSigned}
use Rattle.std.proofs.lemmas.Int.{to_z-of_z}
use Rattle.std.specs.Int.{w16, w32}
use Rattle.tree_blocks.proofs.TouchLemmas.{block_place, touched_by_parted, parted_by_touch, touches-touched}
use Rattle.tree_blocks.proofs.touch.touches.Goals as goal

pub corners_parted-requires-clause-left : goal.corners_parted-requires-clause-left
corners_parted-requires-clause-left c =
    let f1 : FitsSigned w32 c.args.block.0 = search rules in
    let e1 = to_z-of_z w32 c.args.block.0 f1 in
    let f2 : FitsSigned w32 c.args.block.1 = search rules in
    let e2 = to_z-of_z w32 c.args.block.1 f2 in
    let g1 : FitsSigned w16 c.args.line.0.x = search rules in
    let g2 : FitsSigned w16 c.args.line.1.x = search rules in
    let b = simp (e1, e2) at c.boxes_meet.ensures in
    rw e1 (block_place c.args.line.0.x c.args.line.1.x c.args.block.0 (b.0 c.if-boxes_meet.true).across g1 g2 f1)

pub corners_parted-requires-clause-bottom : goal.corners_parted-requires-clause-bottom
corners_parted-requires-clause-bottom c =
    let f1 : FitsSigned w32 c.args.block.0 = search rules in
    let e1 = to_z-of_z w32 c.args.block.0 f1 in
    let f2 : FitsSigned w32 c.args.block.1 = search rules in
    let e2 = to_z-of_z w32 c.args.block.1 f2 in
    let g1 : FitsSigned w16 c.args.line.0.y = search rules in
    let g2 : FitsSigned w16 c.args.line.1.y = search rules in
    let b = simp (e1, e2) at c.boxes_meet.ensures in
    rw e2 (block_place c.args.line.0.y c.args.line.1.y c.args.block.1 (b.0 c.if-boxes_meet.true).upward g1 g2 f2)

pub returns-then-boxes_meet : goal.returns-then-boxes_meet
returns-then-boxes_meet c =
    let f1 : FitsSigned w32 c.args.block.0 = search rules in
    let e1 = to_z-of_z w32 c.args.block.0 f1 in
    let f2 : FitsSigned w32 c.args.block.1 = search rules in
    let e2 = to_z-of_z w32 c.args.block.1 f2 in
    let b = simp (e1, e2) at c.boxes_meet.ensures in
    let h = simp (e1, e2) at c.corners_parted.ensures in (
      λ t. touched_by_parted c.args.line.0 c.args.line.1 c.args.block.0 c.args.block.1 (b.0 c.if-boxes_meet.true) (h.0 t),
      λ t. h.1 (parted_by_touch c.args.line.0 c.args.line.1 c.args.block.0 c.args.block.1 t),
    )

pub returns-else-boxes_meet : goal.returns-else-boxes_meet
returns-else-boxes_meet c =
    let f1 : FitsSigned w32 c.args.block.0 = search rules in
    let e1 = to_z-of_z w32 c.args.block.0 f1 in
    let f2 : FitsSigned w32 c.args.block.1 = search rules in
    let e2 = to_z-of_z w32 c.args.block.1 f2 in
    let b = simp (e1, e2) at c.boxes_meet.ensures in
    (λ h. cc, λ t. b.1 (touches-touched c.args.line.0 c.args.line.1 c.args.block.0 c.args.block.1 t).boxes)
