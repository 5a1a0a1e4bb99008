use Rattle.map_lint.specs.Tallies.{AreSums}
use Rattle.map_lint.proofs.areas.areas_of.Given as goal

abbrev pub invariant-loop-n : goal.invariant-loop-n
invariant-loop-n l = AreSums l.map.tables l.n l.areas.items
