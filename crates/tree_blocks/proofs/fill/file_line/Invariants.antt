-- The line was appended in the columns so far.
use Rattle.tree_blocks.specs.Filing.{Files}
use Rattle.tree_blocks.proofs.FillLemmas.{Before}
use Rattle.tree_blocks.proofs.fill.file_line.Given as goal

abbrev pub invariant-loop-column : goal.invariant-loop-column
invariant-loop-column l = Files (Before l.line l.grid l.column) l.number l.initial.lists l.lists
