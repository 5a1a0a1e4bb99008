use Rattle.std.proofs.Common.{◌≡◌, ◌++◌, drop, length}
use Rattle.tree_pieces.specs.Division.{right_parts, left_parts}
use Rattle.tree_choice.specs.Columns.{IsEnded}
use Rattle.tree_nodes.specs.Placed.{HasPieceRoom}
use Rattle.tree_nodes.proofs.parting.part_list.Given as goal

-- what is listed with its ends, and what the pieces from here on will add; and there is room for all
abbrev pub invariant-loop-n : goal.invariant-loop-n
invariant-loop-n l = record {
  right : l.right.pieces.items ++ right_parts l.lines l.partition (drop l.n l.list.pieces.now) ≡ right_parts l.lines l.partition l.list.pieces.now;
  left : l.left.pieces.items ++ left_parts l.lines l.partition (drop l.n l.list.pieces.now) ≡ left_parts l.lines l.partition l.list.pieces.now;
  right_ended : IsEnded l.lines l.right;
  left_ended : IsEnded l.lines l.left;
  right_room : HasPieceRoom (length (right_parts l.lines l.partition l.list.pieces.now)) l.right;
  left_room : HasPieceRoom (length (left_parts l.lines l.partition l.list.pieces.now)) l.left;
}
