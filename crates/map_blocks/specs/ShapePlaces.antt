-- The shapes of a script, by the places of their lines.
use Rattle.std.specs.Prelude.{ℕ, ◌≤◌, All, List, map}
use Rattle.map_script.specs.Words.{text_words}
use Rattle.map_blocks.specs.Blocks.{lines_between}
use Rattle.map_blocks.specs.Defined as spec
use Rattle.map_blocks.specs.declared.defined.Shape.{Shape}

-- a shape, among these lines
abbrev pub shape_among : List (ℕ × (ℕ × List ℕ)) → Shape → spec.Shape
shape_among lines s = record {
  name = s.name.items;
  parameters = text_words s.parameters.items;
  end = s.end;
  body = lines_between lines s.from s.end;
}

-- shapes, among these lines
abbrev pub shapes_among : List (ℕ × (ℕ × List ℕ)) → List Shape → List spec.Shape
shapes_among lines shapes = map (shape_among lines) shapes

-- a shape ends within so many lines
abbrev pub IsShapeWithin : ℕ → Shape → Type 0
IsShapeWithin count s = s.end ≤ count

-- each shape does
abbrev pub AreShapesWithin : ℕ → List Shape → Type 0
AreShapesWithin count shapes = All (IsShapeWithin count) shapes
