-- The starts so far are known, and they fit.
use Rattle.std.specs.Prelude.{map}
use Rattle.tree_blocks.proofs.OffsetLemmas.{StartsSoFar}
use Rattle.tree_blocks.proofs.layout.starts_of.Given as goal

abbrev pub invariant-loop-list : goal.invariant-loop-list
invariant-loop-list l = StartsSoFar (map (λ k. k.now) l.lists) l.first l.list-index l.at l.starts.items
