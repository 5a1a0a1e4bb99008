use Rattle.std.proofs.Common.{take, All}
use Rattle.tree_choice.specs.Blocks.{IsWithinBox}
use Rattle.tree_choice.proofs.block_boxes.joined_all.Given as goal

-- the boxes before this one lie in the box
abbrev pub invariant-loop-bounds : goal.invariant-loop-bounds
invariant-loop-bounds l = All (λ bounds. IsWithinBox bounds l.all) (take l.bounds-index l.boxes)
