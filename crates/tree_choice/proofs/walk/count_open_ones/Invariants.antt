use Rattle.std.proofs.Common.{drop}
use Rattle.tree_pieces.proofs.Stops.{Counted}
use Rattle.tree_choice.specs.Clear.{pieces_at}
use Rattle.tree_choice.proofs.walk.count_open_ones.Given as goal

-- the pieces at the places before this one are counted
abbrev pub invariant-loop-place : goal.invariant-loop-place
invariant-loop-place l = Counted l.by.lines.now l.by.piece.now l.pieces (pieces_at l.pieces (drop l.place-index l.places)) l.counts.right l.counts.left l.counts.splits
