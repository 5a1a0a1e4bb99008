use Rattle.std.proofs.Common.{◌≤◌, List, length}
use Rattle.tree_pieces.specs.declared.edge.Edge.{Edge}
use Rattle.tree_choice.specs.Exchanges.{IsUnderWay}
use Rattle.tree_choice.proofs.exchange.exchange_of.Given as goal

abbrev pub invariant-loop-n : goal.invariant-loop-n
invariant-loop-n l = record {
  within : length l.exchange.floors.items ≤ length l.part;
  under_way : (lines : List Edge) → IsUnderWay lines l.pieces l.floors l.part l.n l.exchange;
}
