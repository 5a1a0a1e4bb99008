use Rattle.std.proofs.Common.{ℕ, List, length}
use Rattle.map_script.specs.Known.{scope_of}
use Rattle.map_blocks.specs.Blocks.{with_places}
use Rattle.run_script.specs.Drawn.{ComesTo, at_first, line_limit}
use Rattle.run_script.specs.Places.{IsWithinLines, progress_of}
use Rattle.run_script.proofs.Grouped.{IsLostFrom}
use Rattle.map_blocks.specs.ShapePlaces.{shapes_among}
use Rattle.run_script.proofs.drawing.draw_all.Given as goal

-- so many lines were drawn and turns ended, and where the first stands of those that wait
abbrev pub invariant-loop-count : goal.invariant-loop-count
invariant-loop-count g l = record {
  reached : ComesTo g.C.Canvas l.is_verbose (shapes_among (with_places l.lines) l.shapes) (at_first l.fn.canvas (g.W.Write.contents l.fn.writer) l.lines) l._count
      (progress_of (with_places l.lines) l.canvas (scope_of l.names) (g.W.Write.contents l.writer) l.reading);
  within : IsWithinLines (length l.lines) l.reading;
  lost : IsLostFrom g.C.Canvas l.is_verbose (shapes_among (with_places l.lines) l.shapes) (at_first l.fn.canvas (g.W.Write.contents l.fn.writer) l.lines) (line_limit l.lines)
      (length l.lines) l.first (g.W.Write.contents l.writer) l.canvas;
}
