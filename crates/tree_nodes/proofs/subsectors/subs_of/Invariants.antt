use Rattle.tree_nodes.specs.Tiling.{IsTiledTo}
use Rattle.tree_nodes.proofs.subsectors.subs_of.Given as goal

-- the subsectors of the counts so far
abbrev pub invariant-loop-count : goal.invariant-loop-count
invariant-loop-count l = IsTiledTo l.counts l.count-index l.first l.subs.items
