use Rattle.std.proofs.Common.{◌≤◌, ◌*◌, ◌-◌, ◌∙◌, ap, length, List, sym, subst, arith, All}
use Rattle.std.proofs.lemmas.List.Elements.{All-take, All-drop}
use Rattle.tree_pieces.specs.Pieces.{IsPiece, first_end, last_end}
use Rattle.tree_choice.specs.declared.end_boxes.EndBoxes.{EndBoxes}
use Rattle.tree_choice.specs.Blocks.{HoldEnds, HoldAllEnds}
use Rattle.tree_choice.proofs.Columns.{part_column}
use Rattle.tree_choice.proofs.EndBoxes.{part_is, one_more_long, one_more_held}
use Rattle.tree_choice.proofs.end_boxes.note_boxes.Goals as goal

pub boxes_of_ends-requires : goal.boxes_of_ends-requires
boxes_of_ends-requires c =
    let lines = c.args.lines.now in
    let ps = c.args.list.now.pieces.now in
    let from = c.loop-from.from in
    let n = c.min-end.result - from in
    let e = c.requires.list.ends in
    record {
      each = All-take (IsPiece lines) n _ (All-drop (IsPiece lines) from ps c.requires.list.each);
      ends = record {
        firsts_are = part_column (first_end lines) ps c.args.list.now.firsts.now n from e.firsts_are;
        lasts_are = part_column (last_end lines) ps c.args.list.now.lasts.now n from e.lasts_are;
      };
    }

pub loop-from-preserved : goal.loop-from-preserved
loop-from-preserved c =
    let lines = c.args.lines.now in
    let ps = c.args.list.now.pieces.now in
    let from = c.loop-from.from in
    let size = c.args.size in
    let i = c.loop-from.invariant in
    let t = c.loop-from-test.true in
    let b = c.boxes_of_ends.result in
    let within : from ≤ length ps = omega arith in
    let all = subst (All (HoldEnds lines b)) (part_is ps from size c.min-end.result within c.min-end.ensures) c.boxes_of_ends.ensures in
    let is = c.in-Ok.ensures.items in
    record {
      made = one_more_long size c.loop-from.boxes.items b from i.made ∙ ap (λ (bs : List EndBoxes). size * length bs) (sym is);
      holds = subst (HoldAllEnds size lines ps) (sym is) (one_more_held size lines ps c.loop-from.boxes.items b from i.made i.holds all);
    }
