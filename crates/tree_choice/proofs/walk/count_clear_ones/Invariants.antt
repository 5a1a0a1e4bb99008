use Rattle.std.proofs.Common.{◌≡◌, ◌+◌, length, take}
use Rattle.tree_pieces.proofs.Stops.{Counted}
use Rattle.tree_choice.specs.Clear.{flagged}
use Rattle.tree_choice.proofs.ClearLemmas.{uncounted}
use Rattle.tree_choice.proofs.walk.count_clear_ones.Given as goal

-- the pieces before the n-th are counted or flagged
abbrev pub invariant-loop-n : goal.invariant-loop-n
invariant-loop-n l = record {
  counted : Counted l.candidate.lines.now l.candidate.piece.now l.pieces (uncounted l.flags l.pieces l.n) l.counts.right l.counts.left l.counts.splits;
  flags : l.n + l.counts.splits ≡ l.counts.right + l.counts.left + length (flagged (take l.n l.flags) (take l.n l.pieces));
}
