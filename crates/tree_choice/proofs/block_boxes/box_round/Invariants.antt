use Rattle.std.proofs.Common.{take, All}
use Rattle.tree_choice.specs.Blocks.{IsInnerBox}
use Rattle.tree_choice.proofs.BoxLemmas.{HoldsEnds}
use Rattle.tree_choice.proofs.block_boxes.box_round.Given as goal

-- the box holds the ends of the pieces before this one
abbrev pub invariant-loop-n : goal.invariant-loop-n
invariant-loop-n l = record {
  inner : IsInnerBox l.bounds;
  holds : All (HoldsEnds l.lines l.bounds) (take l.n l.list.pieces.now);
}
