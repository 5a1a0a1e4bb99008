use Rattle.std.proofs.Common.{take, All}
use Rattle.tree_choice.specs.Blocks.{IsInnerBox}
use Rattle.tree_choice.proofs.EndBoxes.{HoldPlaces}
use Rattle.tree_choice.proofs.end_boxes.boxes_of_ends.Given as goal

-- the boxes hold the ends of the pieces before this one
abbrev pub invariant-loop-n : goal.invariant-loop-n
invariant-loop-n l = record {
  west : IsInnerBox l.west;
  east : IsInnerBox l.east;
  holds : All (HoldPlaces l.lines l.west l.east) (take l.n l.list.pieces.now);
}
