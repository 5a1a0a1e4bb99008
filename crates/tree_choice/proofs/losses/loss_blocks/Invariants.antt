use Rattle.std.proofs.Common.{◌≡◌, ◌-◌, ◌≤◌, length, take, All}
use Rattle.tree_choice.specs.Losses.{IsLossBlock, losses_in}
use Rattle.tree_choice.proofs.losses.loss_blocks.Given as goal

-- the losses in front are in blocks
abbrev pub invariant-loop-from : goal.invariant-loop-from
invariant-loop-from l = record {
  blocks : All (IsLossBlock l.lines) l.blocks.items;
  made : losses_in l.blocks.items ≡ take l.from l.losses.items;
  within : l.from ≤ length l.losses.items;
}

abbrev pub decreases-loop-from : goal.decreases-loop-from
decreases-loop-from l = length l.losses.items - l.from
