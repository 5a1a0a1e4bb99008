-- No row so far is touched.
use Rattle.tree_blocks.specs.Rows.{NoRowBelow}
use Rattle.tree_blocks.proofs.columns.first_row.Given as goal

abbrev pub invariant-loop-row : goal.invariant-loop-row
invariant-loop-row l = NoRowBelow l.line.start l.line.end l.left l.bottom l.row
