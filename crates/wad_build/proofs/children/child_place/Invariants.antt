-- The nodes so far have their children in range.
use Rattle.std.specs.List.{enumerate_from}
use Rattle.wad_build.specs.Audit.{node_children}
use Rattle.wad_levels.specs.Views.{view}
use Rattle.wad_build.proofs.FirstLemmas.{IsBelow}
use Rattle.wad_build.proofs.children.child_place.Given as goal

abbrev pub invariant-loop-n : goal.invariant-loop-n
invariant-loop-n l = IsBelow (node_children (view l.level)) (enumerate_from 0 l.level.nodes.items) l.n
