-- The children of the nodes so far.
use Rattle.std.specs.Prelude.{◌≡◌, flat_map, take}
use Rattle.wad_build.proofs.FirstLemmas.{both}
use Rattle.wad_build.proofs.children.children_of.Given as goal

abbrev pub invariant-loop-node : goal.invariant-loop-node
invariant-loop-node l = l.all.items ≡ flat_map both (take l.node-index l.nodes)
