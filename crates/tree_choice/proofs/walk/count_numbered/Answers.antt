use Rattle.std.proofs.Common.{get_or, subst}
use Rattle.std.specs.Prelude.{pos, ◌<ℤ◌}
use Rattle.lump_records.specs.declared.plane.Ray.{Ray}
use Rattle.tree_pieces.specs.Boxes.{least_value, greatest_value}
use Rattle.tree_choice.proofs.Best.{stands_at}
use Rattle.tree_choice.proofs.EndBoxes.{no_boxes, held_right, held_left}
use Rattle.tree_choice.proofs.walk.count_numbered.Goals as goal

pub returns-in-Right : goal.returns-in-Right
returns-in-Right c =
    let b = get_or c.args.boxes.now c.args.number no_boxes in
    let holds = c.requires.boxes b (stands_at c.args.boxes.now c.args.number no_boxes c.if-number-boxes.true) in
    let e = c.side_of_ends.ensures in
    held_right c.args.by.now.lines.now c.args.by.now.piece.now c.args.block.now.pieces.now b c.requires.block.each holds
    (subst (λ (x : Ray). pos 0 <ℤ least_value x b.west) c.requires.candidate.ray (e.right_west c.in-Right.is))
    (subst (λ (x : Ray). pos 0 <ℤ least_value x b.east) c.requires.candidate.ray (e.right_east c.in-Right.is))

pub returns-in-Left : goal.returns-in-Left
returns-in-Left c =
    let b = get_or c.args.boxes.now c.args.number no_boxes in
    let holds = c.requires.boxes b (stands_at c.args.boxes.now c.args.number no_boxes c.if-number-boxes.true) in
    let e = c.side_of_ends.ensures in
    held_left c.args.by.now.lines.now c.args.by.now.piece.now c.args.block.now.pieces.now b c.requires.block.each holds
    (subst (λ (x : Ray). greatest_value x b.west <ℤ pos 0) c.requires.candidate.ray (e.left_west c.in-Left.is))
    (subst (λ (x : Ray). greatest_value x b.east <ℤ pos 0) c.requires.candidate.ray (e.left_east c.in-Left.is))
