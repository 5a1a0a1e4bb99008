use Rattle.std.proofs.Common.{◌≡◌, length}
use Rattle.tree_nodes.specs.Numbers.{AreNumbered}
use Rattle.tree_nodes.proofs.segs.segs_of.Given as goal

-- the segs of the pieces so far
abbrev pub invariant-loop-piece : goal.invariant-loop-piece
invariant-loop-piece l = record {
  numbered : AreNumbered l.lines l.fn.points l.points l.pieces l.segs.items;
  many : length l.segs.items ≡ l.piece-index;
}
