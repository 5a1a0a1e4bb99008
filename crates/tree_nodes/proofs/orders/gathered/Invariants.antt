use Rattle.std.proofs.Common.{◌≡◌, ◌++◌, List, map, get_or, drop, length}
use Rattle.tree_pieces.specs.declared.edge.Edge.{Edge}
use Rattle.tree_choice.specs.Columns.{AreEnds, IsEnded}
use Rattle.tree_choice.proofs.BoxLemmas.{no_piece}
use Rattle.tree_nodes.specs.Placed.{HasPieceRoom}
use Rattle.tree_nodes.proofs.orders.gathered.Given as goal

-- the pieces so far and those from here on, and the ends so far; and there is room for all
abbrev pub invariant-loop-number : goal.invariant-loop-number
invariant-loop-number l = record {
  pieces : l.placed.pieces.items ++ map (λ k. get_or l.list.pieces.now k no_piece) (drop l.number-index l.order) ≡ map (λ k. get_or l.list.pieces.now k no_piece) l.order;
  ended : (lines : List Edge) → AreEnds lines l.list.pieces.now l.list.firsts.now l.list.lasts.now → IsEnded lines l.placed;
  many : length l.placed.pieces.items ≡ l.number-index;
  many_firsts : length l.placed.firsts.items ≡ l.number-index;
  many_lasts : length l.placed.lasts.items ≡ l.number-index;
  room : HasPieceRoom (length l.order) l.placed;
}
