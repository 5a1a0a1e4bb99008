use Rattle.std.proofs.Common.{◌≡◌, ◌+◌, length, take, All}
use Rattle.tree_choice.specs.Blocks.{IsInnerBox, HoldsPlace}
use Rattle.tree_choice.specs.Losses.{HoldsGone, wholes, rests}
use Rattle.tree_choice.proofs.losses.block_of.Given as goal

-- the losses before this one are in the box and in both lists
abbrev pub invariant-loop-loss : goal.invariant-loop-loss
invariant-loop-loss l = record {
  list : l.list.items ≡ take l.loss-index l.losses;
  inner : IsInnerBox l.bounds;
  held : All (λ x. HoldsGone (HoldsPlace l.bounds) l.lines x.piece x.rest) (take l.loss-index l.losses);
  lost : l.lost.items ≡ wholes (take l.loss-index l.losses);
  gained : l.gained.items ≡ rests (take l.loss-index l.losses);
  gone : l.gone + length (rests (take l.loss-index l.losses)) ≡ length (take l.loss-index l.losses);
}
