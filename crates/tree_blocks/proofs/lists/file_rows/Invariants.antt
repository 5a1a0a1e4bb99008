-- The line was appended to the lists of the rows so far.
use Rattle.tree_blocks.specs.Filing.{Files, InColumn}
use Rattle.tree_blocks.proofs.lists.file_rows.Given as goal

abbrev pub invariant-loop-row : goal.invariant-loop-row
invariant-loop-row l = Files (InColumn l.columns l.column l.low l.row) l.line l.initial.lists l.lists
