use Rattle.std.proofs.Common.{◌≡◌, List, ℕ, take}
use Rattle.std.specs.Option.{option_map}
use Rattle.std.specs.Prelude.{IfSome, option_copied}
use Rattle.map_blocks.specs.Defined.{shape_known}
use Rattle.map_blocks.specs.ShapePlaces.{AreShapesWithin, IsShapeWithin, shape_among, shapes_among}
use Rattle.map_blocks.proofs.defined.shape_known.Given as goal

-- the last one of the shapes so far
abbrev pub invariant-loop-shape : goal.invariant-loop-shape
invariant-loop-shape l = record {
  known : (all : List (ℕ × (ℕ × List ℕ))) → option_map (shape_among all) (option_copied l.found) ≡ shape_known (shapes_among all (take l.shape-index l.shapes)) l.place l.name;
  within : (count : ℕ) → AreShapesWithin count l.shapes → IfSome l.found (λ shape. IsShapeWithin count shape.now);
}
