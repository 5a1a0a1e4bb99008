-- The shapes that a script defines, and which of them a line draws (docs/COMMANDS.md, "Shapes that a
-- script defines").
use Rattle.std.specs.Prelude.{ℕ, Bool, ◌+◌, ◌&&◌, nat_lt, if◌then◌else◌, List, [], ◌∷◌, drop, Option, Some, None, bytes_eq}
use Rattle.map_script.specs.Defines.{define_words}
use Rattle.map_script.specs.Lines.{command_words}
use Rattle.map_script.specs.Words.{first_word, text_words}
use Rattle.map_blocks.specs.Blocks.{block_len, block_lines}

-- a shape: its name and its parameters, the place of its `end`, and its lines
pub record Shape : Type 0 where
  pub name : List ℕ
  pub parameters : List (List ℕ)
  pub end : ℕ
  pub body : List (ℕ × (ℕ × List ℕ))

-- the shape NAME PARAM .. that a line at a place defines before these lines
abbrev pub shape_at : ℕ → List (ℕ × (ℕ × List ℕ)) → List (List ℕ) → Shape
shape_at place lines words = record {
  name = first_word words;
  parameters = drop 1 words;
  end = place + 1 + block_len 0 lines;
  body = block_lines lines;
}

-- a shape in front of others, if a line defines one
abbrev pub in_front_of_shapes : ℕ → List (ℕ × (ℕ × List ℕ)) → Option (List (List ℕ)) → List Shape
    → List Shape
in_front_of_shapes place lines None others = others
in_front_of_shapes place lines (Some words) others = shape_at place lines words ∷ others

-- the shapes that lines define, in their order
abbrev pub shapes_in : List (ℕ × (ℕ × List ℕ)) → List Shape
shapes_in [] = []
shapes_in (l ∷ ls) =
    in_front_of_shapes l.0 ls (define_words (text_words l.1.1)) (shapes_in ls)

-- the later one, or else this shape, if it is the one
abbrev pub or_this : Bool → Shape → Option Shape → Option Shape
or_this is shape (Some later) = Some later
or_this is shape None = if is then Some shape else None

-- the shape of a name that is known at a place: the last one whose `end` stands before it
abbrev pub shape_known : List Shape → ℕ → List ℕ → Option Shape
shape_known [] place name = None
shape_known (s ∷ ss) place name =
    or_this (nat_lt s.end place && bytes_eq s.name name) s (shape_known ss place name)

-- the shape that a line at a place draws, if the first word of its command is the name of one
abbrev pub shape_called : List Shape → ℕ → List (List ℕ) → Option Shape
shape_called shapes place words = shape_known shapes place (first_word (command_words words))
