-- The row before is touched, and is the greatest so far.
use Rattle.std.specs.Prelude.{◌≡◌, ◌≤◌, ◌<◌, ◌+◌}
use Rattle.tree_blocks.specs.Rows.{TouchesRow}
use Rattle.tree_blocks.proofs.columns.greatest_row.Given as goal

abbrev pub invariant-loop-row : goal.invariant-loop-row
invariant-loop-row l = (l.row ≡ l.high + 1) × (l.low ≤ l.high) × (l.high < l.rows) × TouchesRow l.line.start l.line.end l.left l.bottom l.high
