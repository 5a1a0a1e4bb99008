use Rattle.std.proofs.Common.{◌≡◌, ◌++◌, length}
use Rattle.map_blocks.specs.Blocks.{lines_between, with_places}
use Rattle.map_blocks.specs.Defined.{shapes_in}
use Rattle.map_blocks.specs.ShapePlaces.{AreShapesWithin, shapes_among}
use Rattle.map_blocks.proofs.defined.shapes_in.Given as goal

-- the shapes so far, and those of the lines left
abbrev pub invariant-loop-place : goal.invariant-loop-place
invariant-loop-place l = record {
  so_far : shapes_among (with_places l.lines) l.shapes.items ++ shapes_in (lines_between (with_places l.lines) l.place (length l.lines))
      ≡ shapes_in (with_places l.lines);
  within : AreShapesWithin (length l.lines) l.shapes.items;
}
