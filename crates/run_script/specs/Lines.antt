-- What a line of a script draws, one that opens no block (docs/COMMANDS.md, "Scripts").
use Rattle.std.specs.Prelude.{◌≡◌, ◌⊎◌, ℕ, Bool, true, false, ◌&&◌, not, is_some, List, Option, Some, None, Result, Ok, Err, MatchOption, MatchResult}
use Rattle.std.specs.Io.KnownBytes.{Appends, Keeps}
use Rattle.map_tables.specs.Projects.{ProjectMaps, current_map}
use Rattle.map_script.specs.Errors.{code_of}
use Rattle.map_script.specs.Firsts.{counts_of, firsts_since}
use Rattle.map_script.specs.Lines.{let_words, line_for, name_in}
use Rattle.map_script.specs.Referents.{referent_of}
use Rattle.map_script.specs.Scopes.{Scope}
use Rattle.map_script.specs.Words.{text_words}
use Rattle.map_script.specs.declared.firsts.Firsts.{Firsts}
use Rattle.map_script.specs.declared.firsts.Numbers.{Numbers}
use Rattle.map_shapes.specs.Shapes.{is_shape_line}
use Rattle.run_canvas.specs.Canvases.{OneOf}
use Rattle.run_script.specs.Given.{AddsFirst, GivesWords, noted_text, with_given_name}
use Rattle.run_script.specs.Shaped.{DrawsShape}
use Rattle.run_canvas.specs.declared.canvas.Canvas.{Ghosts}

-- the state while a script is drawn: what it is drawn onto, the names so far, and what the writer
-- holds
pub record Sketch (S : Type 0) : Type 0 where
  pub canvas : S
  pub names : Scope
  pub written : Option (List ℕ)

-- the sketch with this canvas, these names, and a writer that holds this
abbrev pub sketch_of : {S : Type 0} → S → Scope → Option (List ℕ) → Sketch S
sketch_of canvas names written = record { canvas = canvas; names = names; written = written }

-- nothing has changed
pub record Stays {S : Type 0} (old new : Sketch S) : Type 0 where
  pub canvas : new.canvas ≡ old.canvas
  pub names : new.names ≡ old.names
  pub written : Keeps old.written new.written

-- ---- A command or a shape

-- what a line does that is no query: a shape, or else a command
abbrev pub Does : {S : Type 0} → Ghosts S → List ℕ → S → Result ℕ ℕ → S → Type 0
Does facts text old outcome new =
    OneOf (is_shape_line text) (DrawsShape facts text old outcome new)
    (facts.changes old text outcome new)

-- the first items that it added: what the current map gained by a shape, or what a command adds
abbrev pub Added : List ℕ → ProjectMaps → ProjectMaps → Firsts → Type 0
Added text p q firsts =
    OneOf (is_shape_line text)
    (firsts ≡ firsts_since (counts_of (current_map p)) (current_map q)) (AddsFirst text p firsts)

-- how a line ends that had this outcome: refused with the code; or its name keeps the numbers and of
-- what its answer is the number, and its answer is written if wanted
abbrev pub EndsChange : {S : Type 0} → Bool → ℕ × List ℕ → List ℕ → ProjectMaps → ProjectMaps
    → Result ℕ ℕ → Sketch S → Option ℕ → Sketch S → Type 0
EndsChange verbose line text p q (Err code) old refusal new =
    (refusal ≡ Some code) × (new.names ≡ old.names) × Keeps old.written new.written
EndsChange verbose line text p q (Ok n) old refusal new =
    (refusal ≡ None) × Appends old.written new.written (noted_text verbose line.0 n)
    × ((firsts : Firsts) × Added text p q firsts
    × (new.names ≡ with_given_name (name_in (text_words line.1))
    (record { answer = n; firsts = firsts }) (referent_of (text_words text)) old.names))

-- a line that is no query was tried, and it ended so
abbrev pub IsTried : {S : Type 0} → Ghosts S → Bool → ℕ × List ℕ → List ℕ → Sketch S → Option ℕ
    → Sketch S → Type 0
IsTried facts verbose line text old refusal new =
    (outcome : Result ℕ ℕ) × Does facts text old.canvas outcome new.canvas
    × EndsChange verbose line text (facts.maps_in old.canvas) (facts.maps_in new.canvas) outcome
    old refusal new

-- ---- A line

-- whether a line of a script, with this text once its names are resolved, is a query: it gives no
-- name
abbrev pub asks : {S : Type 0} → Ghosts S → List ℕ → List ℕ → Bool
asks facts line text = not (is_some (name_in (text_words line))) && facts.is_query text

-- a query was answered or refused, and the names stay
abbrev pub IsQueryTold : {S : Type 0} → Ghosts S → List ℕ → Sketch S → Option ℕ → Sketch S → Type 0
IsQueryTold facts text old refusal new =
    facts.tells old.canvas text refusal new.canvas old.written new.written
    × (new.names ≡ old.names)

-- a line, with this text once its names are resolved, was drawn, or refused with this code
abbrev pub DrawsText : {S : Type 0} → Ghosts S → Bool → ℕ × List ℕ → Sketch S → Option ℕ → Sketch S
    → List ℕ → Type 0
DrawsText facts verbose line old refusal new text =
    OneOf (asks facts line.1 text) (IsQueryTold facts text old refusal new)
    (IsTried facts verbose line text old refusal new)

-- A line that gives no words a name was drawn, or refused with this code: for its text, because its
-- names can't be resolved, or for lack of memory.
abbrev pub DrawsOther : {S : Type 0} → Ghosts S → Bool → ℕ × List ℕ → Sketch S → Option ℕ → Sketch S
    → Type 0
DrawsOther facts verbose line old refusal new =
    MatchResult (line_for old.names (current_map (facts.maps_in old.canvas)) line.1)
    (DrawsText facts verbose line old refusal new)
    (λ fault. (refusal ≡ Some (code_of fault)) × Stays old new)
    ⊎ ((refusal ≡ Some 31) × Stays old new)

-- words were given a name, or refused with this code; all else stays
abbrev pub DrawsLet : {S : Type 0} → Ghosts S → List (List ℕ) → Sketch S → Option ℕ → Sketch S
    → Type 0
DrawsLet facts words old refusal new =
    GivesWords facts words old.canvas old.names refusal new.names
    × (new.canvas ≡ old.canvas) × Keeps old.written new.written

-- a line of a script was drawn, or refused with this code
abbrev pub DrawsLine : {S : Type 0} → Ghosts S → Bool → ℕ × List ℕ → Sketch S → Option ℕ → Sketch S
    → Type 0
DrawsLine facts verbose line old refusal new =
    MatchOption (let_words (text_words line.1)) (DrawsOther facts verbose line old refusal new)
    (λ words. DrawsLet facts words old refusal new)
