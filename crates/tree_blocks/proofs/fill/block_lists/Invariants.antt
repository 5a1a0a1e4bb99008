-- The lines so far are in the lists.
use Rattle.tree_blocks.proofs.FillLemmas.{AreFiled}
use Rattle.tree_blocks.proofs.fill.block_lists.Given as goal

abbrev pub invariant-loop-number : goal.invariant-loop-number
invariant-loop-number l = AreFiled l.lines l.grid l.number l.lists.items
