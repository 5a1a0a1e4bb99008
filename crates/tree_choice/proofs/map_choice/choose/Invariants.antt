use Rattle.tree_pieces.specs.Edges.{edges_of}
use Rattle.tree_choice.specs.SoFar.{SoFar, no_bound}
use Rattle.tree_choice.proofs.map_choice.choose.Given as goal

abbrev pub invariant-loop-at : goal.invariant-loop-at
invariant-loop-at l = SoFar (edges_of l.map.tables) l.pieces l.used no_bound l.at l.best
