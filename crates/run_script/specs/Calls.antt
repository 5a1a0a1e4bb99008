-- Lines that define shapes, and lines that draw them (docs/COMMANDS.md, "Shapes that a script
-- defines").
use Rattle.std.specs.Prelude.{ℕ, nat_le, if◌then◌else◌, List, [], ◌∷◌, ◌++◌, length, Option, Some, None, Result, Ok, Err}
use Rattle.map_tables.specs.Tables.{Tables}
use Rattle.map_script.specs.Defines.{call_words, with_parameters}
use Rattle.map_script.specs.Lines.{name_in}
use Rattle.map_script.specs.Scopes.{Scope, mark_of, with_block, with_shape}
use Rattle.map_script.specs.declared.error.DrawError.{DrawError}
use Rattle.map_script.specs.declared.error.DrawError.TheVariants.{OpenBlock}
use Rattle.map_blocks.specs.Blocks.{behind_block}
use Rattle.map_blocks.specs.Defined.{Shape}
use Rattle.run_script.specs.Opened.{Naming, Position, Turn, line_naming}

-- behind the line of a `define`, before these lines: behind its block
abbrev pub after_define : Scope → List (ℕ × (ℕ × List ℕ)) → List Turn → Option DrawError
    → Result Position DrawError
after_define names lines turns (Some fault) = Err fault
after_define names lines turns None =
    Ok (record { names = names; lines = behind_block lines; turns = turns })

-- the turn of a shape that a line at a place draws and may name, before these lines
abbrev pub turn_of_shape : Scope → ℕ → List (ℕ × (ℕ × List ℕ)) → Option Naming → Shape → Turn
turn_of_shape names place lines naming shape = record {
  place = place;
  count = None;
  naming = naming;
  body = shape.body;
  behind = lines;
  before = mark_of names;
}

-- the drawing of a shape has begun: its parameters stand for these words, and its lines are to come
abbrev pub in_shape : Scope → List Turn → Turn → List (List ℕ) → List (List ℕ) → Position
in_shape names turns t params words = record {
  names = with_parameters (with_block (with_shape names) names.placing) params words;
  lines = t.body;
  turns = turns ++ t ∷ [];
}

-- behind a line that draws a shape, before these lines: in the shape, if fewer than 64 blocks are open
abbrev pub after_drawing : Scope → ℕ → List (ℕ × (ℕ × List ℕ)) → List Turn → Option Naming → Shape
    → Result (List (List ℕ)) DrawError → Result Position DrawError
after_drawing names place lines turns naming shape (Err e) = Err e
after_drawing names place lines turns naming shape (Ok words) =
    if nat_le 64 (length turns) then Err OpenBlock
    else Ok (in_shape names turns (turn_of_shape names place lines naming shape) shape.parameters
    words)

-- behind a line by the shape that it draws, if it draws one
abbrev pub after_shape : Scope → Tables → ℕ → List (ℕ × (ℕ × List ℕ)) → List Turn
    → List (List ℕ) → Option Shape → Option (Result Position DrawError)
after_shape names m place lines turns words None = None
after_shape names m place lines turns words (Some shape) =
    Some (after_drawing names place lines turns (line_naming m (name_in words)) shape
    (call_words names m shape.parameters words))
