-- The ends of the lines so far.
use Rattle.std.specs.Prelude.{◌≡◌, map, take}
use Rattle.tree_blocks.specs.Blocks.{ends_in}
use Rattle.tree_blocks.proofs.line_ends.ends_of.Given as goal

abbrev pub invariant-loop-n : goal.invariant-loop-n
invariant-loop-n l = l.ends.items ≡ map (ends_in l.map.tables.vertices) (take l.n l.map.tables.lines)
