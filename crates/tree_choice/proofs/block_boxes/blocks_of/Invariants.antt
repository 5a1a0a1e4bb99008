use Rattle.tree_choice.proofs.BoxLemmas.{AreFirstBlocks}
use Rattle.tree_choice.proofs.block_boxes.blocks_of.Given as goal

-- the boxes of the blocks before the k-th are made
abbrev pub invariant-loop-k : goal.invariant-loop-k
invariant-loop-k l = AreFirstBlocks l.lines l.list.pieces.now l.blocks.items l.k
