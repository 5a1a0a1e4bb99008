-- The ends of the lines so far.
use Rattle.std.specs.Prelude.{◌≡◌, map, take}
use Rattle.tree_blocks.specs.Blocks.{ends_in}
use Rattle.tree_blocks.proofs.line_ends.ends_over.Given as goal

abbrev pub invariant-loop-line : goal.invariant-loop-line
invariant-loop-line l = l.ends.items ≡ map (ends_in l.vertices) (take l.line-index l.lines)
