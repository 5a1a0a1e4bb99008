use Rattle.std.proofs.Common.{◌≡◌, ◌≤◌, ◌++◌, length, drop}
use Rattle.std.specs.Prelude.{vec_capacity}
use Rattle.tree_pieces.specs.Division.{right_parts, left_parts}
use Rattle.tree_choice.specs.Columns.{IsEnded}
use Rattle.tree_nodes.specs.Placed.{HasNotes, HasPieceRoom}
use Rattle.tree_nodes.proofs.parting.part_noted.Given as goal

-- what is listed with its ends, and what the pieces from here on will add, with room for all; and what is noted of the pieces so far
abbrev pub invariant-loop-n : goal.invariant-loop-n
invariant-loop-n l = record {
  right : l.right.pieces.items ++ right_parts l.lines l.partition (drop l.n l.list.pieces.now) ≡ right_parts l.lines l.partition l.list.pieces.now;
  left : l.left.pieces.items ++ left_parts l.lines l.partition (drop l.n l.list.pieces.now) ≡ left_parts l.lines l.partition l.list.pieces.now;
  right_ended : IsEnded l.lines l.right;
  left_ended : IsEnded l.lines l.left;
  right_room : HasPieceRoom (length (right_parts l.lines l.partition l.list.pieces.now)) l.right;
  left_room : HasPieceRoom (length (left_parts l.lines l.partition l.list.pieces.now)) l.left;
  right_notes : HasNotes l.n (length l.right.pieces.items) l.right_notes;
  left_notes : HasNotes l.n (length l.left.pieces.items) l.left_notes;
  right_space : length l.list.pieces.now ≤ vec_capacity l.right_notes;
  left_space : length l.list.pieces.now ≤ vec_capacity l.left_notes;
}
