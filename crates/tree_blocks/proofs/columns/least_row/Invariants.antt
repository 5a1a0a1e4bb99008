-- The row is touched, and the search goes down.
use Rattle.std.specs.Prelude.{◌≤◌}
use Rattle.tree_blocks.specs.Rows.{TouchesRow}
use Rattle.tree_blocks.proofs.columns.least_row.Given as goal

abbrev pub invariant-loop-low : goal.invariant-loop-low
invariant-loop-low l = (l.low ≤ l.high) × TouchesRow l.line.start l.line.end l.left l.bottom l.low

abbrev pub decreases-loop-low : goal.decreases-loop-low
decreases-loop-low l = l.low
