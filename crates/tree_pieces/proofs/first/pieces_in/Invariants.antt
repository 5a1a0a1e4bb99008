use Rattle.std.proofs.Common.{◌≡◌, ◌++◌, drop}
use Rattle.tree_pieces.specs.First.{first_pieces, pieces_from}
use Rattle.tree_pieces.proofs.first.pieces_in.Given as goal

-- what is listed, and what the lines from here on will add
abbrev pub invariant-loop-line : goal.invariant-loop-line
invariant-loop-line l = l.pieces.items ++ pieces_from l.line (drop l.line l.edges) ≡ first_pieces l.edges
