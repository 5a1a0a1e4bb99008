use Rattle.std.proofs.Common.{◌≡◌, List, length}
use Rattle.tree_pieces.specs.declared.piece.Piece.{Piece}
use Rattle.tree_choice.specs.Floors.{AreFloors, IsExchanged}
use Rattle.tree_choice.specs.Losses.{wholes, rests, losses_in}
use Rattle.tree_choice.proofs.exchange.known_in_all.Given as goal

abbrev pub invariant-loop-n : goal.invariant-loop-n
invariant-loop-n l = record {
  size : length l.all.items ≡ l.n;
  known : (ps : List Piece) → IsExchanged ps l.part (wholes (losses_in l.blocks)) (rests (losses_in l.blocks)) → AreFloors l.lines ps l.part l.floors → AreFloors l.lines l.part l.part l.all.items;
}
