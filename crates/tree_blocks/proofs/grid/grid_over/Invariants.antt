use Rattle.std.specs.Prelude.{slice_index_or, pos}
use Rattle.tree_blocks.specs.declared.line_ends.LineEnds.{LineEnds}
use Rattle.tree_blocks.proofs.GridLemmas.{CornersSoFar}
use Rattle.tree_blocks.proofs.grid.grid_over.Given as goal

abbrev no_line : LineEnds
no_line = record { start = record { x = pos 0; y = pos 0 }; end = record { x = pos 0; y = pos 0 } }

abbrev pub invariant-loop-line : goal.invariant-loop-line
invariant-loop-line l = CornersSoFar l.lines (slice_index_or l.lines 0 no_line) l.line-index l.low l.high
