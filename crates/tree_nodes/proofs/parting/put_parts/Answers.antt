use Rattle.std.proofs.Common.{◌≡◌, ◌∙◌, ◌++◌, ◌+◌, [], sym, ap, subst, length}
use Rattle.std.specs.Prelude.{Some, None}
use Rattle.std.specs.List.{cons_option}
use Rattle.tree_pieces.specs.declared.piece.Parts.{Parts}
use Rattle.tree_pieces.specs.Division.{parts_of, parts_by}
use Rattle.tree_nodes.specs.Placed.{HasPieceRoom}
use Rattle.tree_nodes.proofs.KeptEnds.{nothing_more}
use Rattle.tree_nodes.proofs.Room.{can_take}
use Rattle.tree_nodes.proofs.parting.put_parts.Goals as goal
use Rattle.tree_nodes.proofs.parting.put_parts.Goals.{In-Right, In-Left}

-- a piece on one side goes there whole
whole_right : (c : In-Right) → parts_of c.args.by.now.lines.now c.args.by.now.piece.now c.args.piece.now ≡ record { right = Some c.args.piece.now; left = None }
whole_right c = c.place_of.ensures ∙ ap (parts_by c.args.by.now.lines.now c.args.by.now.piece.now c.args.piece.now) c.in-Right.is

whole_left : (c : In-Left) → parts_of c.args.by.now.lines.now c.args.by.now.piece.now c.args.piece.now ≡ record { right = None; left = Some c.args.piece.now }
whole_left c = c.place_of.ensures ∙ ap (parts_by c.args.by.now.lines.now c.args.by.now.piece.now c.args.piece.now) c.in-Left.is

pub put_ended-requires : goal.put_ended-requires
put_ended-requires c =
    can_take c.args.by.now.lines.now c.args.right.now c.requires.right
    (subst (λ (x : Parts). HasPieceRoom (length c.args.right.now.pieces.items + length (cons_option x.right [])) c.args.right.now)
    (whole_right (goal.at.put_ended-requires c).In-Right) c.requires.right_room)

pub put_ended-requires-in-Left : goal.put_ended-requires-in-Left
put_ended-requires-in-Left c =
    can_take c.args.by.now.lines.now c.args.left.now c.requires.left
    (subst (λ (x : Parts). HasPieceRoom (length c.args.left.now.pieces.items + length (cons_option x.left [])) c.args.left.now)
    (whole_left (goal.at.put_ended-requires-in-Left c).In-Left) c.requires.left_room)

pub returns-in-Right-clause-right : goal.returns-in-Right-clause-right
returns-in-Right-clause-right c =
    let e = whole_right (goal.at.returns-in-Right-clause-right c).In-Right in
    subst (λ (x : Parts). c.put_ended.new.list.pieces.items ≡ c.args.right.now.pieces.items ++ cons_option x.right []) (sym e) c.put_ended.ensures.pieces

pub returns-in-Right-clause-left : goal.returns-in-Right-clause-left
returns-in-Right-clause-left c =
    let e = whole_right (goal.at.returns-in-Right-clause-left c).In-Right in
    subst (λ (x : Parts). c.args.left.now.pieces.items ≡ c.args.left.now.pieces.items ++ cons_option x.left []) (sym e) (nothing_more c.args.left.now.pieces.items)

pub returns-in-Left-clause-right : goal.returns-in-Left-clause-right
returns-in-Left-clause-right c =
    let e = whole_left (goal.at.returns-in-Left-clause-right c).In-Left in
    subst (λ (x : Parts). c.args.right.now.pieces.items ≡ c.args.right.now.pieces.items ++ cons_option x.right []) (sym e) (nothing_more c.args.right.now.pieces.items)

pub returns-in-Left-clause-left : goal.returns-in-Left-clause-left
returns-in-Left-clause-left c =
    let e = whole_left (goal.at.returns-in-Left-clause-left c).In-Left in
    subst (λ (x : Parts). c.put_ended-in-Left.new.list.pieces.items ≡ c.args.left.now.pieces.items ++ cons_option x.left []) (sym e) c.put_ended-in-Left.ensures.pieces
