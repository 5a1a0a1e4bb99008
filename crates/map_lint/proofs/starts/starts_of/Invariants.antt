use Rattle.map_lint.specs.Tallies.{AreStarts}
use Rattle.map_lint.proofs.starts.starts_of.Given as goal

-- the counts so far
abbrev pub invariant-loop-kind : goal.invariant-loop-kind
invariant-loop-kind l = AreStarts l.map.tables l.kind l.starts.items
