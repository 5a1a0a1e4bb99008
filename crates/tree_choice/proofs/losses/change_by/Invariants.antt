use Rattle.std.proofs.Common.{length, take}
use Rattle.tree_choice.specs.Counts.{AreAtMost}
use Rattle.tree_choice.specs.Losses.{IsChange, wholes, rests, losses_in}
use Rattle.tree_choice.proofs.losses.change_by.Given as goal

-- the blocks before this one are counted
abbrev pub invariant-loop-block : goal.invariant-loop-block
invariant-loop-block l = record {
  change : IsChange l.by.lines.now l.by.piece.now (wholes (losses_in (take l.block-index l.blocks))) (rests (losses_in (take l.block-index l.blocks))) l.change;
  lost : AreAtMost l.change.lost (length (losses_in (take l.block-index l.blocks)));
  gained : AreAtMost l.change.gained (length (losses_in (take l.block-index l.blocks)));
}
