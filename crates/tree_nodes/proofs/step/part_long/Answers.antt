use Rattle.std.proofs.Common.{◌∙◌, ap, sym, subst, length, arith, All, List}
use Rattle.tree_pieces.specs.declared.piece.Piece.{Piece}
use Rattle.tree_pieces.specs.Pieces.{IsPiece}
use Rattle.tree_pieces.specs.Division.{right_parts, left_parts}
use Rattle.tree_pieces.specs.Tree.{none_used}
use Rattle.tree_pieces.proofs.Trees.{first_reached, right_reached, left_reached}
use Rattle.tree_nodes.proofs.Room.{slices_ended}
use Rattle.tree_nodes.proofs.step.part_long.Goals as goal

pub part_noted-requires-clause-list : goal.part_noted-requires-clause-list
part_noted-requires-clause-list c =
    let e = c.as_slices.ensures in
    slices_ended c.args.lines.now c.as_slices.result c.args.list.now c.requires.list e.pieces e.firsts e.lasts

pub part_noted-requires-clause-few : goal.part_noted-requires-clause-few
part_noted-requires-clause-few c =
    let m = ap length c.as_slices.ensures.pieces in
    let f = c.requires.few in
    omega (arith, m, f, c.args.list.now.ended.pieces.ok.0)

pub part_noted-requires-clause-rights : goal.part_noted-requires-clause-rights
part_noted-requires-clause-rights c = c.requires.rights ∙ ap (λ (ps : List Piece). length (right_parts c.args.lines.now c.args.partition.now ps)) (sym c.as_slices.ensures.pieces)

pub part_noted-requires-clause-lefts : goal.part_noted-requires-clause-lefts
part_noted-requires-clause-lefts c = c.requires.lefts ∙ ap (λ (ps : List Piece). length (left_parts c.args.lines.now c.args.partition.now ps)) (sym c.as_slices.ensures.pieces)

pub placed_part-requires-clause-part : goal.placed_part-requires-clause-part
placed_part-requires-clause-part c =
    let lines = c.args.lines.now in
    let list = c.args.list.now.ended.pieces.items in
    let r = right_reached lines c.are_drawn.ensures (none_used lines) list (first_reached lines list c.requires.list.known.pieces) c.args.partition.now c.requires.partition in
    subst (All (IsPiece lines)) (sym (c.in_ok-right.ensures.right ∙ ap (right_parts lines c.args.partition.now) c.as_slices.ensures.pieces)) r.pieces

pub placed_part-requires-2-clause-part : goal.placed_part-requires-2-clause-part
placed_part-requires-2-clause-part c =
    let lines = c.args.lines.now in
    let list = c.args.list.now.ended.pieces.items in
    let l = left_reached lines c.are_drawn.ensures (none_used lines) list (first_reached lines list c.requires.list.known.pieces) c.args.partition.now c.requires.partition in
    subst (All (IsPiece lines)) (sym (c.in_ok-right.ensures.left ∙ ap (left_parts lines c.args.partition.now) c.as_slices.ensures.pieces)) l.pieces

pub returns : goal.returns
returns c =
    let lines = c.args.lines.now in
    let p = c.args.partition.now in
    c.put_lists.ensures lines p c.args.list.now.ended.pieces.items
    (c.in_ok-right-2.ensures.pieces ∙ c.in_ok-right.ensures.right ∙ ap (right_parts lines p) c.as_slices.ensures.pieces)
    (c.in_ok-left.ensures.pieces ∙ c.in_ok-right.ensures.left ∙ ap (left_parts lines p) c.as_slices.ensures.pieces)
    c.in_ok-right-2.ensures.listed c.in_ok-left.ensures.listed
