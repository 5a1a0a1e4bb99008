use Rattle.std.proofs.Common.{◌∙◌, ◌++◌, ap, sym, subst, ◌+◌, length, List}
use Rattle.tree_pieces.specs.declared.piece.Piece.{Piece}
use Rattle.tree_nodes.proofs.KeptEnds.{right_piece, left_piece, right_keeps, left_keeps, one_right, one_left}
use Rattle.tree_nodes.specs.Placed.{HasPieceRoom}
use Rattle.tree_nodes.proofs.parting.put_divided.Goals as goal

pub put_part-requires-clause-part : goal.put_part-requires-clause-part
put_part-requires-clause-part c = right_piece c.args.by.now.lines.now c.args.by.now.piece.now c.args.piece.now c.divide_in-parts.result c.divide_in-parts.ensures.law

pub put_part-requires-clause-ends : goal.put_part-requires-clause-ends
put_part-requires-clause-ends c =
    λ h. right_keeps c.args.by.now.lines.now c.args.piece.now c.args.ends c.requires.ends c.args.by.now.piece.now c.divide_in-parts.result c.divide_in-parts.ensures.exact (sym c.is_split-split.ensures ∙ h)

pub put_part-requires-2-clause-part : goal.put_part-requires-2-clause-part
put_part-requires-2-clause-part c = left_piece c.args.by.now.lines.now c.args.by.now.piece.now c.args.piece.now c.divide_in-parts.result c.divide_in-parts.ensures.law

pub put_part-requires-2-clause-ends : goal.put_part-requires-2-clause-ends
put_part-requires-2-clause-ends c =
    λ h. left_keeps c.args.by.now.lines.now c.args.piece.now c.args.ends c.requires.ends c.args.by.now.piece.now c.divide_in-parts.result c.divide_in-parts.ensures.exact (sym c.is_split-split.ensures ∙ h)

pub returns-clause-right : goal.returns-clause-right
returns-clause-right c = c.put_part.ensures.pieces
    ∙ ap (λ (x : List Piece). c.args.right.now.pieces.items ++ x)
    (one_right c.args.by.now.lines.now c.args.by.now.piece.now c.args.piece.now c.divide_in-parts.result c.divide_in-parts.ensures.exact)

pub returns-clause-left : goal.returns-clause-left
returns-clause-left c = c.put_part-2.ensures.pieces
    ∙ ap (λ (x : List Piece). c.args.left.now.pieces.items ++ x)
    (one_left c.args.by.now.lines.now c.args.by.now.piece.now c.args.piece.now c.divide_in-parts.result c.divide_in-parts.ensures.exact)

pub put_part-requires-clause-room : goal.put_part-requires-clause-room
put_part-requires-clause-room c =
    subst (λ (x : List Piece). HasPieceRoom (length c.args.right.now.pieces.items + length x) c.args.right.now)
    (sym (one_right c.args.by.now.lines.now c.args.by.now.piece.now c.args.piece.now c.divide_in-parts.result c.divide_in-parts.ensures.exact)) c.requires.right_room

pub put_part-requires-2-clause-room : goal.put_part-requires-2-clause-room
put_part-requires-2-clause-room c =
    subst (λ (x : List Piece). HasPieceRoom (length c.args.left.now.pieces.items + length x) c.args.left.now)
    (sym (one_left c.args.by.now.lines.now c.args.by.now.piece.now c.args.piece.now c.divide_in-parts.result c.divide_in-parts.ensures.exact)) c.requires.left_room
