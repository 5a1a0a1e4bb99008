use Rattle.std.proofs.Common.{◌≡◌, ◌≤◌, length, take, drop}
use Rattle.tree_pieces.proofs.Stops.{Counted}
use Rattle.tree_choice.specs.Sorting.{pieces_in}
use Rattle.tree_choice.proofs.walk.count_open.Given as goal

-- the open blocks before the n-th are counted
abbrev pub invariant-loop-n : goal.invariant-loop-n
invariant-loop-n l = record {
  counted : Counted l.by.lines.now l.by.piece.now l.pieces (pieces_in l.pieces (drop l.n (take l.fn.sorted.count l.noted))) l.counts.right l.counts.left l.counts.splits;
  rest : l.rest ≡ length (pieces_in l.pieces (drop l.n (take l.fn.sorted.count l.noted)));
  most : l.rest ≤ length l.pieces;
}
