use Rattle.std.proofs.Common.{◌≤◌, drop}
use Rattle.tree_pieces.proofs.Stops.{Counted}
use Rattle.tree_choice.proofs.counts.count_below.Given as goal

-- the pieces before the n-th are counted
abbrev pub invariant-loop-n : goal.invariant-loop-n
invariant-loop-n l = record {
  counted : Counted l.lines l.partition l.pieces (drop l.n l.pieces) l.counts.right l.counts.left l.counts.splits;
  right : l.counts.right ≤ l.n;
  left : l.counts.left ≤ l.n;
  splits : l.counts.splits ≤ l.n;
}
