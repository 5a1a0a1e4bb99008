-- The children so far are counted.
use Rattle.std.specs.Prelude.{◌≡◌, take, length}
use Rattle.wad_build.specs.Counts.{AreChildCounts}
use Rattle.wad_build.proofs.counts.count_children.Given as goal

abbrev pub invariant-loop-child : goal.invariant-loop-child
invariant-loop-child l = AreChildCounts l.base l.end (take l.child-index l.children) l.counts.items × (length l.counts.items ≡ l.len)
