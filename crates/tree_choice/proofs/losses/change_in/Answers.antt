use Rattle.std.proofs.Common.{◌∙◌, sym, subst, length, List, All, arith}
use Rattle.std.specs.Prelude.{pos, ◌<ℤ◌}
use Rattle.lump_records.specs.declared.plane.Ray.{Ray}
use Rattle.tree_pieces.specs.Boxes.{least_value, greatest_value}
use Rattle.tree_pieces.specs.declared.piece.Piece.{Piece}
use Rattle.tree_pieces.specs.Pieces.{IsPiece}
use Rattle.tree_choice.specs.Counts.{AreCounts}
use Rattle.tree_choice.specs.Losses.{IsChange, wholes, rests}
use Rattle.tree_choice.proofs.BlockSteps.{counts_at_most}
use Rattle.tree_choice.proofs.Ended.{ended_in}
use Rattle.tree_choice.proofs.LossLemmas.{all_right, all_left, each_whole, each_rest, wholes_length, rests_length}
use Rattle.tree_choice.proofs.losses.change_in.Goals as goal

pub count_block-requires-clause-list : goal.count_block-requires-clause-list
count_block-requires-clause-list c =
    let e = c.as_slices.ensures in
    let k = c.requires.block in
    ended_in c.args.by.now.lines.now c.as_slices.result c.args.block.now.lost
    (subst (All (IsPiece c.args.by.now.lines.now)) (sym k.lost) (each_whole c.args.by.now.lines.now c.args.block.now.losses.items k.each)) k.lost_ends e.pieces e.firsts e.lasts

pub count_block-requires-in-Across-clause-list : goal.count_block-requires-in-Across-clause-list
count_block-requires-in-Across-clause-list c =
    let e = c.as_slices-in-Across.ensures in
    let k = c.requires.block in
    ended_in c.args.by.now.lines.now c.as_slices-in-Across.result c.args.block.now.gained
    (subst (All (IsPiece c.args.by.now.lines.now)) (sym k.gained) (each_rest c.args.by.now.lines.now c.args.block.now.losses.items k.each)) k.gained_ends e.pieces e.firsts e.lasts

pub returns-in-Right-clause-change : goal.returns-in-Right-clause-change
returns-in-Right-clause-change c =
    let k = c.requires.block in
    let ls = c.args.block.now.losses.items in
    subst (IsChange c.args.by.now.lines.now c.args.by.now.piece.now (wholes ls) (rests ls)) (sym c.on_right.ensures)
    (all_right c.args.by.now.lines.now c.args.by.now.piece.now c.args.block.now.bounds
    (subst (λ (x : Ray). pos 0 <ℤ least_value x c.args.block.now.bounds) c.requires.candidate.ray (c.side_of_box.ensures.right c.in-Right.is)) ls c.args.block.now.gone k.each k.held k.gone)

pub returns-in-Left-clause-change : goal.returns-in-Left-clause-change
returns-in-Left-clause-change c =
    let k = c.requires.block in
    let ls = c.args.block.now.losses.items in
    subst (IsChange c.args.by.now.lines.now c.args.by.now.piece.now (wholes ls) (rests ls)) (sym c.on_left.ensures)
    (all_left c.args.by.now.lines.now c.args.by.now.piece.now c.args.block.now.bounds
    (subst (λ (x : Ray). greatest_value x c.args.block.now.bounds <ℤ pos 0) c.requires.candidate.ray (c.side_of_box.ensures.left c.in-Left.is)) ls c.args.block.now.gone k.each k.held k.gone)

pub returns-in-Across-clause-lost : goal.returns-in-Across-clause-lost
returns-in-Across-clause-lost c =
    let ls = c.args.block.now.losses.items in
    counts_at_most c.args.by.now.lines.now c.args.by.now.piece.now (wholes ls) c.count_block.result (length ls) (omega (arith, wholes_length ls))
    (subst (λ (ps : List Piece). AreCounts c.args.by.now.lines.now c.args.by.now.piece.now ps c.count_block.result) (c.as_slices.ensures.pieces ∙ c.requires.block.lost) c.count_block.ensures)

pub returns-in-Across-clause-gained : goal.returns-in-Across-clause-gained
returns-in-Across-clause-gained c =
    let ls = c.args.block.now.losses.items in
    counts_at_most c.args.by.now.lines.now c.args.by.now.piece.now (rests ls) c.count_block-in-Across.result (length ls) (rests_length ls)
    (subst (λ (ps : List Piece). AreCounts c.args.by.now.lines.now c.args.by.now.piece.now ps c.count_block-in-Across.result) (c.as_slices-in-Across.ensures.pieces ∙ c.requires.block.gained) c.count_block-in-Across.ensures)
