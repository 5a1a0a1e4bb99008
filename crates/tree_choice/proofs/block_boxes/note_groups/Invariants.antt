use Rattle.std.proofs.Common.{◌≡◌, length}
use Rattle.tree_choice.specs.Blocks.{AreGroups}
use Rattle.tree_choice.proofs.block_boxes.note_groups.Given as goal

-- the boxes of the groups before the g-th are made
abbrev pub invariant-loop-g : goal.invariant-loop-g
invariant-loop-g l = record {
  made : length l.groups.items ≡ l.g;
  groups : AreGroups l.lines l.pieces l.groups.items;
}
