use Rattle.tree_pieces.specs.declared.piece.Piece.{Piece}
use Rattle.tree_pieces.specs.Division.{parts_of}
use Rattle.tree_choice.proofs.BoxLemmas.{no_piece}
use Rattle.tree_nodes.proofs.KeptEnds.{gained}
use Rattle.tree_nodes.proofs.Room.{less_room, room_for_one}
use Rattle.tree_nodes.proofs.parting.part_list.Goals as goal

pub put_parts-requires-clause-right_room : goal.put_parts-requires-clause-right_room
put_parts-requires-clause-right_room c =
    let by = c.of-by.ensures in
    let i = c.loop-n.invariant in
    rw (by.lines, by.piece)
    (less_room _ _ c.loop-n.right (room_for_one (λ (q : Piece). (parts_of c.args.lines.now c.args.partition.now q).right) c.args.list.now.pieces.now c.loop-n.n no_piece c.loop-n.right.pieces.items c.loop-n-test.true i.right) i.right_room)

pub put_parts-requires-clause-left_room : goal.put_parts-requires-clause-left_room
put_parts-requires-clause-left_room c =
    let by = c.of-by.ensures in
    let i = c.loop-n.invariant in
    rw (by.lines, by.piece)
    (less_room _ _ c.loop-n.left (room_for_one (λ (q : Piece). (parts_of c.args.lines.now c.args.partition.now q).left) c.args.list.now.pieces.now c.loop-n.n no_piece c.loop-n.left.pieces.items c.loop-n-test.true i.left) i.left_room)

pub loop-n-preserved : goal.loop-n-preserved
loop-n-preserved c =
    let lines = c.args.lines.now in
    let p = c.args.partition.now in
    let ps = c.args.list.now.pieces.now in
    let by = c.of-by.ensures in
    let i = c.loop-n.invariant in
    let e = c.put_parts.ensures in
    record {
      right = gained (λ (q : Piece). (parts_of lines p q).right) ps c.loop-n.n no_piece _ _ c.loop-n-test.true (rw (by.lines, by.piece) at e.right) i.right;
      left = gained (λ (q : Piece). (parts_of lines p q).left) ps c.loop-n.n no_piece _ _ c.loop-n-test.true (rw (by.lines, by.piece) at e.left) i.left;
      right_ended = rw by.lines at e.right_ended;
      left_ended = rw by.lines at e.left_ended;
      right_room = e.right_roomy _ i.right_room;
      left_room = e.left_roomy _ i.left_room;
    }
