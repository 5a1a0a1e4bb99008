use Rattle.tree_pieces.specs.Nodes.{IsLeastBox}
use Rattle.tree_nodes.specs.Corners.{StandsBefore}
use Rattle.tree_nodes.proofs.corners.bounds_of.Given as goal

-- the least box of the first two places and of those so far
abbrev pub invariant-loop-n : goal.invariant-loop-n
invariant-loop-n l = IsLeastBox l.bounds (StandsBefore l.firsts l.lasts l.n)
