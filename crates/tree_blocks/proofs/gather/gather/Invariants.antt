-- The lists so far are gathered.
use Rattle.std.specs.Prelude.{map}
use Rattle.tree_blocks.proofs.GatherLemmas.{SoFar}
use Rattle.tree_blocks.proofs.gather.gather.Given as goal

abbrev pub invariant-loop-n : goal.invariant-loop-n
invariant-loop-n l = SoFar l.lists (map (λ k. k.now) l.written.keys) l.places.items l.n
