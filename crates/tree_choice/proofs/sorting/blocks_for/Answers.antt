use Rattle.std.proofs.Common.{rules, arith, ap, ◌∙◌, take, length}
use Rattle.std.proofs.lemmas.Int.{to_z-of_z}
use Rattle.std.proofs.lemmas.List.{length-take}
use Rattle.std.specs.Prelude.{pos, int_le, FitsSigned}
use Rattle.std.specs.Int.{w32}
use Rattle.tree_choice.specs.Columns.{AreCorners, left_top, left_bottom, right_top, right_bottom}
use Rattle.tree_choice.proofs.Columns.{column_length}
use Rattle.tree_choice.proofs.Corners.{chosen, chosen_other}
use Rattle.tree_choice.proofs.sorting.blocks_for.Goals as goal
use Rattle.tree_choice.proofs.sorting.blocks_for.Goals.{After-column-highs}

-- the columns that the signs of the ray choose
corners : (c : After-column-highs) → AreCorners c.args.by.now.margins.ray c.args.list.now.blocks.now c.column-lows.result.now c.column-highs.result.now
corners c =
    let r = c.args.by.now.margins.ray in
    let blocks = c.args.list.now.blocks.now in
    let fx : FitsSigned w32 r.dx = search rules in
    let fy : FitsSigned w32 r.dy = search rules in
    let lt = ap (take (length blocks)) c.deref.ensures.value ∙ c.requires.corners.left_tops in
    let lb = ap (take (length blocks)) c.deref-2.ensures.value ∙ c.requires.corners.left_bottoms in
    let rt = ap (take (length blocks)) c.deref-3.ensures.value ∙ c.requires.corners.right_tops in
    let rb = ap (take (length blocks)) c.deref-4.ensures.value ∙ c.requires.corners.right_bottoms in
    let ll = rw (to_z-of_z w32 r.dx fx) at c.column-low_left.ensures in
    let lr = rw (to_z-of_z w32 r.dx fx) at c.column-low_right.ensures in
    let l = rw (to_z-of_z w32 r.dy fy) at c.column-lows.ensures in
    let hr = rw (to_z-of_z w32 r.dx fx) at c.column-high_right.ensures in
    let hl = rw (to_z-of_z w32 r.dx fx) at c.column-high_left.ensures in
    let h = rw (to_z-of_z w32 r.dy fy) at c.column-highs.ensures in
    record {
      lows_are = l ∙ chosen (int_le (pos 0) r.dy) (int_le (pos 0) r.dx) blocks _ _ _ _ _ _ ll lr lt lb rt rb;
      highs_are = h ∙ chosen_other (int_le (pos 0) r.dy) (int_le (pos 0) r.dx) blocks _ _ _ _ _ _ hr hl lt lb rt rb;
    }

pub slice_bounds-left_top-end : goal.slice_bounds-left_top-end
slice_bounds-left_top-end c =
    let blocks = c.args.list.now.blocks.now in
    let same = column_length left_top blocks (take (length blocks) c.deref.result.now) (ap (take (length blocks)) c.deref.ensures.value ∙ c.requires.corners.left_tops) in
    let taken = length-take (length blocks) c.deref.result.now in
    omega (arith, same, taken)

pub slice_bounds-left_bottom-end : goal.slice_bounds-left_bottom-end
slice_bounds-left_bottom-end c =
    let blocks = c.args.list.now.blocks.now in
    let same = column_length left_bottom blocks (take (length blocks) c.deref-2.result.now) (ap (take (length blocks)) c.deref-2.ensures.value ∙ c.requires.corners.left_bottoms) in
    let taken = length-take (length blocks) c.deref-2.result.now in
    omega (arith, same, taken)

pub slice_bounds-right_top-end : goal.slice_bounds-right_top-end
slice_bounds-right_top-end c =
    let blocks = c.args.list.now.blocks.now in
    let same = column_length right_top blocks (take (length blocks) c.deref-3.result.now) (ap (take (length blocks)) c.deref-3.ensures.value ∙ c.requires.corners.right_tops) in
    let taken = length-take (length blocks) c.deref-3.result.now in
    omega (arith, same, taken)

pub slice_bounds-right_bottom-end : goal.slice_bounds-right_bottom-end
slice_bounds-right_bottom-end c =
    let blocks = c.args.list.now.blocks.now in
    let same = column_length right_bottom blocks (take (length blocks) c.deref-4.result.now) (ap (take (length blocks)) c.deref-4.ensures.value ∙ c.requires.corners.right_bottoms) in
    let taken = length-take (length blocks) c.deref-4.result.now in
    omega (arith, same, taken)

pub returns-clause-blocks : goal.returns-clause-blocks
returns-clause-blocks c = record {
  each = c.requires.each;
  few = c.requires.few;
  boxes = c.requires.blocks;
  corners = corners (goal.at.returns-clause-blocks c).After-column-highs;
}
