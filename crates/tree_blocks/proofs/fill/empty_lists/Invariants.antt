use Rattle.std.specs.Prelude.{◌≡◌, replicate, []}
use Rattle.tree_blocks.proofs.fill.empty_lists.Given as goal

abbrev pub invariant-loop-block : goal.invariant-loop-block
invariant-loop-block l = l.lists.items ≡ replicate l.block []
