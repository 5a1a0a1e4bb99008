use Rattle.std.proofs.Common.{◌≡◌, ℕ, ◌+◌, length, get_or, subst, arith}
use Rattle.tree_pieces.specs.declared.piece.Piece.{Piece}
use Rattle.tree_pieces.specs.Division.{parts_of}
use Rattle.tree_choice.proofs.BoxLemmas.{no_piece}
use Rattle.tree_nodes.specs.Placed.{HasNotes}
use Rattle.tree_nodes.proofs.KeptEnds.{gained}
use Rattle.tree_nodes.proofs.OrderLemmas.{kept_so_far, kept_of_one}
use Rattle.tree_nodes.proofs.Room.{less_room, room_for_one}
use Rattle.tree_nodes.proofs.parting.part_noted.Goals as goal

pub put_parts-requires-clause-right_room : goal.put_parts-requires-clause-right_room
put_parts-requires-clause-right_room c =
    let by = c.of-by.ensures in
    let i = c.loop-n.invariant in
    rw (by.lines, by.piece)
    (less_room _ _ c.loop-n.right (room_for_one (λ (q : Piece). (parts_of c.args.lines.now c.args.partition.now q).right) c.args.list.now.pieces.now c.loop-n.n no_piece c.loop-n.right.pieces.items c.loop-n-test.true i.right) i.right_room)

pub put_parts-requires-clause-left_room : goal.put_parts-requires-clause-left_room
put_parts-requires-clause-left_room c =
    let by = c.of-by.ensures in
    let i = c.loop-n.invariant in
    rw (by.lines, by.piece)
    (less_room _ _ c.loop-n.left (room_for_one (λ (q : Piece). (parts_of c.args.lines.now c.args.partition.now q).left) c.args.list.now.pieces.now c.loop-n.n no_piece c.loop-n.left.pieces.items c.loop-n-test.true i.left) i.left_room)

pub note_part-requires-clause-few : goal.note_part-requires-clause-few
note_part-requires-clause-few c =
    let f = λ (q : Piece). (parts_of c.args.lines.now c.args.partition.now q).right in
    let l = kept_so_far f c.args.list.now.pieces.now c.loop-n.n c.loop-n.right.pieces.items c.loop-n.invariant.right in
    let n = c.len-rights.ensures in
    let few = c.requires.few in
    omega (arith, l, n, few)

pub note_part-requires-clause-one : goal.note_part-requires-clause-one
note_part-requires-clause-one c =
    let by = c.of-by.ensures in
    let e = c.put_parts.ensures in
    let f = λ (q : Piece). (parts_of c.args.lines.now c.args.partition.now q).right in
    let l = kept_of_one f (get_or c.args.list.now.pieces.now c.loop-n.n no_piece) c.loop-n.right.pieces.items c.put_parts.new.right.pieces.items (rw (by.lines, by.piece) at e.right) in
    let n = c.len-rights.ensures in
    let m = c.len.ensures in
    omega (arith, l, n, m)

pub note_part-requires-in-loop-n-clause-few : goal.note_part-requires-in-loop-n-clause-few
note_part-requires-in-loop-n-clause-few c =
    let f = λ (q : Piece). (parts_of c.args.lines.now c.args.partition.now q).left in
    let l = kept_so_far f c.args.list.now.pieces.now c.loop-n.n c.loop-n.left.pieces.items c.loop-n.invariant.left in
    let n = c.len-lefts.ensures in
    let few = c.requires.few in
    omega (arith, l, n, few)

pub note_part-requires-in-loop-n-clause-one : goal.note_part-requires-in-loop-n-clause-one
note_part-requires-in-loop-n-clause-one c =
    let by = c.of-by.ensures in
    let e = c.put_parts.ensures in
    let f = λ (q : Piece). (parts_of c.args.lines.now c.args.partition.now q).left in
    let l = kept_of_one f (get_or c.args.list.now.pieces.now c.loop-n.n no_piece) c.loop-n.left.pieces.items c.put_parts.new.left.pieces.items (rw (by.lines, by.piece) at e.left) in
    let n = c.len-lefts.ensures in
    let m = c.len-in-loop-n.ensures in
    omega (arith, l, n, m)

pub loop-n-preserved : goal.loop-n-preserved
loop-n-preserved c =
    let lines = c.args.lines.now in
    let p = c.args.partition.now in
    let ps = c.args.list.now.pieces.now in
    let by = c.of-by.ensures in
    let n = c.loop-n.n in
    let i = c.loop-n.invariant in
    let e = c.put_parts.ensures in
    let rights : length c.loop-n.right.pieces.items ≡ c.len-rights.result = let h = c.len-rights.ensures in omega (arith, h) in
    let lefts : length c.loop-n.left.pieces.items ≡ c.len-lefts.result = let h = c.len-lefts.ensures in omega (arith, h) in
    let rights_then : c.len.result ≡ length c.put_parts.new.right.pieces.items = let h = c.len.ensures in omega (arith, h) in
    let lefts_then : c.len-in-loop-n.result ≡ length c.put_parts.new.left.pieces.items = let h = c.len-in-loop-n.ensures in omega (arith, h) in
    record {
      right = gained (λ (q : Piece). (parts_of lines p q).right) ps n no_piece _ _ c.loop-n-test.true (rw (by.lines, by.piece) at e.right) i.right;
      left = gained (λ (q : Piece). (parts_of lines p q).left) ps n no_piece _ _ c.loop-n-test.true (rw (by.lines, by.piece) at e.left) i.left;
      right_ended = rw by.lines at e.right_ended;
      left_ended = rw by.lines at e.left_ended;
      right_room = e.right_roomy _ i.right_room;
      left_room = e.left_roomy _ i.left_room;
      right_notes = subst (λ (k : ℕ). HasNotes (n + 1) k c.note_part.new.notes) rights_then
          (c.note_part.ensures.noted n (subst (λ (k : ℕ). HasNotes n k c.loop-n.right_notes) rights i.right_notes));
      left_notes = subst (λ (k : ℕ). HasNotes (n + 1) k c.note_part-in-loop-n.new.notes) lefts_then
          (c.note_part-in-loop-n.ensures.noted n (subst (λ (k : ℕ). HasNotes n k c.loop-n.left_notes) lefts i.left_notes));
      right_space = let r = c.note_part.ensures.room in let s = i.right_space in omega (arith, r, s);
      left_space = let r = c.note_part-in-loop-n.ensures.room in let s = i.left_space in omega (arith, r, s);
    }
