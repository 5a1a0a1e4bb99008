-- How a script goes on, a line or the end of a turn at a time (docs/COMMANDS.md, "Scripts").
use Rattle.std.specs.Prelude.{◌≡◌, ℕ, Bool, List, [], ◌∷◌, ◌++◌, Option, Result, MatchOption}
use Rattle.map_tables.specs.Projects.{current_map}
use Rattle.map_script.specs.Words.{text_words}
use Rattle.map_blocks.specs.Defined.{Shape}
use Rattle.run_script.specs.Lines.{DrawsLine, Sketch, sketch_of}
use Rattle.run_script.specs.Turns.{EndsTurn, OpensBlock, Position, Turn, after_opening}
use Rattle.map_script.specs.declared.error.DrawError.{DrawError}
use Rattle.run_canvas.specs.declared.canvas.Canvas.{Ghosts}

-- how far a script has been drawn: the sketch, the lines to come in the innermost block, and the open
-- blocks, the outermost first
pub record Progress (S : Type 0) : Type 0 where
  pub sketch : Sketch S
  pub lines : List (ℕ × (ℕ × List ℕ))
  pub turns : List Turn

-- a script has come to a position, with nothing drawn or written since a sketch
abbrev pub at_position : {S : Type 0} → Sketch S → Position → Progress S
at_position s at = record {
  sketch = record { canvas = s.canvas; names = at.names; written = s.written };
  lines = at.lines;
  turns = at.turns;
}

-- the place of the next line, if these are to come, or else of the line whose block ends next
abbrev pub IsAtPlace : List (ℕ × (ℕ × List ℕ)) → List Turn → ℕ → Type 0
IsAtPlace [] turns place =
    (outer : List Turn) × (turn : Turn) × (turns ≡ outer ++ turn ∷ []) × (place ≡ turn.place)
IsAtPlace (l ∷ ls) turns place = place ≡ l.0

-- ---- A line or the end of a turn

-- another line was drawn before these lines, or refused with this code
abbrev pub DrawsNext : {S : Type 0} → Ghosts S → Bool → ℕ × List ℕ → List (ℕ × (ℕ × List ℕ))
    → Progress S → Option ℕ → Progress S → Type 0
DrawsNext facts verbose line lines old refusal new =
    DrawsLine facts verbose line old.sketch refusal new.sketch
    × (new.lines ≡ lines) × (new.turns ≡ old.turns)

-- where a line leads before these lines, if it opens a block
abbrev pub opened_by : {S : Type 0} → Ghosts S → List Shape → ℕ × (ℕ × List ℕ)
    → List (ℕ × (ℕ × List ℕ)) → Progress S → Option (Result Position DrawError)
opened_by facts shapes l ls old =
    after_opening old.sketch.names (current_map (facts.maps_in old.sketch.canvas)) shapes l.0 ls
    old.turns (text_words l.1.1)

-- the same where these lines are to come in the turn: the first of them, which may open a block, or
-- else its end
abbrev pub AdvancesOver : {S : Type 0} → Ghosts S → Bool → List Shape
    → List (ℕ × (ℕ × List ℕ)) → Progress S → Option ℕ → Progress S → Type 0
AdvancesOver facts verbose shapes [] old refusal new =
    (at : Position) × EndsTurn old.sketch.names (current_map (facts.maps_in old.sketch.canvas))
    old.turns refusal at
    × (new ≡ at_position old.sketch at)
AdvancesOver facts verbose shapes (l ∷ ls) old refusal new =
    MatchOption (opened_by facts shapes l ls old) (DrawsNext facts verbose l.1 ls old refusal new)
    (λ outcome. (at : Position) × OpensBlock outcome old.sketch.names refusal at
    × (new ≡ at_position old.sketch at))

-- one line more was drawn, or one turn more ended; or it was refused with this code
abbrev pub Advances : {S : Type 0} → Ghosts S → Bool → List Shape → Progress S
    → Option ℕ → Progress S → Type 0
Advances facts verbose shapes old refusal new = AdvancesOver facts verbose shapes old.lines
    old refusal new

-- the same with another canvas
abbrev pub on_canvas : {S : Type 0} → S → Progress S → Progress S
on_canvas canvas p = record {
  sketch = sketch_of canvas p.sketch.names p.sketch.written;
  lines = p.lines;
  turns = p.turns;
}

-- the same after the canvas has begun the line at hand: where answers are written, each command is
-- put by itself, and else what waits may be put first
abbrev pub Steps : {S : Type 0} → Ghosts S → Bool → List Shape → Progress S → Option ℕ
    → Progress S → Type 0
Steps {S = S} facts verbose shapes old refusal new =
    (place : ℕ) × IsAtPlace old.lines old.turns place
    × (canvas : S) × facts.begins old.sketch.canvas place verbose canvas
    × Advances facts verbose shapes (on_canvas canvas old) refusal new
