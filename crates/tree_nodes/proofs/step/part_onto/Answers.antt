use Rattle.std.proofs.Common.{◌∙◌, ap, sym, subst, length, All, List, ℕ}
use Rattle.tree_pieces.specs.declared.piece.Piece.{Piece}
use Rattle.tree_pieces.specs.Pieces.{IsPiece}
use Rattle.tree_pieces.specs.Division.{right_parts, left_parts}
use Rattle.tree_pieces.specs.Tree.{none_used}
use Rattle.tree_pieces.proofs.Trees.{first_reached, right_reached, left_reached}
use Rattle.tree_nodes.specs.Placed.{HasPieceRoom, IsEmptyList}
use Rattle.tree_nodes.proofs.Room.{slices_ended, nothing_ended, filled}
use Rattle.tree_nodes.proofs.step.part_onto.Goals as goal

pub part_list-requires-clause-list : goal.part_list-requires-clause-list
part_list-requires-clause-list c =
    let e = c.as_slices-slices.ensures in
    slices_ended c.args.lines.now c.as_slices-slices.result c.args.list.now c.requires.list e.pieces e.firsts e.lasts

pub part_list-requires-clause-right_ended : goal.part_list-requires-clause-right_ended
part_list-requires-clause-right_ended c = nothing_ended c.args.lines.now c.args.choice.right c.deref_mut.result.now (subst (IsEmptyList c.args.choice.right) (sym c.deref_mut.ensures.value) c.in_ok-right.ensures)

pub part_list-requires-clause-left_ended : goal.part_list-requires-clause-left_ended
part_list-requires-clause-left_ended c = nothing_ended c.args.lines.now c.args.choice.left c.deref_mut-2.result.now (subst (IsEmptyList c.args.choice.left) (sym c.deref_mut-2.ensures.value) c.in_ok-left.ensures)

pub part_list-requires-clause-right_room : goal.part_list-requires-clause-right_room
part_list-requires-clause-right_room c =
    subst (λ (n : ℕ). HasPieceRoom n c.deref_mut.result.now.ended)
    (c.requires.rights ∙ ap (λ (ps : List Piece). length (right_parts c.args.lines.now c.args.partition.now ps)) (sym c.as_slices-slices.ensures.pieces))
    (subst (IsEmptyList c.args.choice.right) (sym c.deref_mut.ensures.value) c.in_ok-right.ensures).room

pub part_list-requires-clause-left_room : goal.part_list-requires-clause-left_room
part_list-requires-clause-left_room c =
    subst (λ (n : ℕ). HasPieceRoom n c.deref_mut-2.result.now.ended)
    (c.requires.lefts ∙ ap (λ (ps : List Piece). length (left_parts c.args.lines.now c.args.partition.now ps)) (sym c.as_slices-slices.ensures.pieces))
    (subst (IsEmptyList c.args.choice.left) (sym c.deref_mut-2.ensures.value) c.in_ok-left.ensures).room

pub returns : goal.returns
returns c =
    let lines = c.args.lines.now in
    let p = c.args.partition.now in
    let list = c.args.list.now.ended.pieces.items in
    let r = right_reached lines c.are_drawn.ensures (none_used lines) list (first_reached lines list c.requires.list.known.pieces) p c.requires.partition in
    let l = left_reached lines c.are_drawn.ensures (none_used lines) list (first_reached lines list c.requires.list.known.pieces) p c.requires.partition in
    let e = c.part_list.ensures in
    let right = e.right ∙ ap (right_parts lines p) c.as_slices-slices.ensures.pieces in
    let left = e.left ∙ ap (left_parts lines p) c.as_slices-slices.ensures.pieces in
    c.put_lists.ensures lines p list right left
    (filled lines c.args.choice.right c.deref_mut.result.now c.part_list.new.right (subst (IsEmptyList c.args.choice.right) (sym c.deref_mut.ensures.value) c.in_ok-right.ensures) (subst (All (IsPiece lines)) (sym right) r.pieces) e.right_ended)
    (filled lines c.args.choice.left c.deref_mut-2.result.now c.part_list.new.left (subst (IsEmptyList c.args.choice.left) (sym c.deref_mut-2.ensures.value) c.in_ok-left.ensures) (subst (All (IsPiece lines)) (sym left) l.pieces) e.left_ended)
