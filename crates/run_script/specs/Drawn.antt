-- What a script draws, line by line and turn by turn (docs/COMMANDS.md, "Scripts").
use Rattle.std.specs.Prelude.{◌≡◌, ◌⊎◌, ℕ, zero, suc, ◌+◌, ◌==◌, ◌<◌, ◌≤◌, Bool, false, List, [], ◌∷◌, ◌++◌, Option, Some, None, Result, Ok, Err, MatchOption, length}
use Rattle.map_script.specs.Scopes.{first_scope}
use Rattle.map_blocks.specs.Blocks.{order_fault, with_places}
use Rattle.map_blocks.specs.Defined.{Shape, shapes_in}
use Rattle.run_script.specs.Lines.{sketch_of}
use Rattle.run_script.specs.Opened.{Turn, open_blocks}
use Rattle.run_script.specs.Orders.{IsOutOfOrder}
pub use Rattle.run_script.specs.Progress.{Advances, AdvancesOver, DrawsNext, IsAtPlace, Progress, Steps, at_position, on_canvas, opened_by}
use Rattle.run_canvas.specs.Canvases.{OneOf}
use Rattle.run_canvas.specs.declared.canvas.Canvas.{Ghosts}
use Rattle.map_blocks.specs.declared.stop.Stop.{Stop}
use Rattle.run_canvas.specs.declared.error.ScriptError.{ScriptError}
use Rattle.run_canvas.specs.declared.error.ScriptError.TheVariants.{OutOfMemory, WriterFailed}

-- ---- A script

-- so many lines were drawn and turns ended, one after the other, and none was refused
abbrev pub ComesTo : {S : Type 0} → Ghosts S → Bool → List Shape → Progress S → ℕ
    → Progress S → Type 0
ComesTo facts verbose shapes first zero new = new ≡ first
ComesTo {S = S} facts verbose shapes first (suc n) new =
    (mid : Progress S) × ComesTo facts verbose shapes first n mid
    × Steps facts verbose shapes mid None new

-- no line is to come, and no block is open
abbrev pub IsOver : {S : Type 0} → Progress S → Type 0
IsOver p = (p.lines ≡ []) × (p.turns ≡ [])

-- how many lines a script may draw, each end of a block's turn counted as one: a million more than it
-- has
abbrev pub line_limit : List (ℕ × List ℕ) → ℕ
line_limit lines = 1000000 + length lines

-- before the first of these lines: no name yet
abbrev pub at_first : {S : Type 0} → S → Option (List ℕ) → List (ℕ × List ℕ) → Progress S
at_first canvas written lines = record {
  sketch = sketch_of canvas first_scope written;
  lines = with_places lines;
  turns = [];
}

-- after so many lines one was refused with this code, or the limit was met, and it is 48
abbrev pub Refuses : {S : Type 0} → Ghosts S → Bool → List Shape → ℕ → ℕ → Progress S
    → ℕ → Progress S → Type 0
Refuses facts verbose shapes limit n old code new =
    ((n < limit) × Steps facts verbose shapes old (Some code) new)
    ⊎ ((n ≡ limit) × (code ≡ 48) × (new ≡ old))

-- ---- How a call ended

-- all lines were drawn, and what waited was put
pub record IsAllDrawn {S : Type 0} (facts : Ghosts S) (verbose : Bool) (shapes : List Shape)
    (first : Progress S) (limit : ℕ) (canvas : S) (written : Option (List ℕ)) : Type 0 where
  pub count : ℕ
  pub last : Progress S
  pub within : count ≤ limit
  pub reached : ComesTo facts verbose shapes first count last
  pub over : IsOver last
  pub put : facts.settles last.sketch.canvas canvas
  pub has : written ≡ last.sketch.written

-- a drawing ended because memory ran out
abbrev pub is_spent : Option Stop → Bool
is_spent None = false
is_spent (Some stop) = stop.code == 31

-- What waited was put; but where memory ran out it is left, and goes with the canvas: a part of a
-- shape's commands may wait there.
abbrev pub PutsAtEnd : {S : Type 0} → Ghosts S → Option Stop → S → S → Type 0
PutsAtEnd facts ended old new = OneOf (is_spent ended) (new ≡ old) (facts.settles old new)

-- The lines before one were drawn, and the one at the stop's place was refused with its code, in the
-- stop's blocks. With 30 it may be the first of those that were to be put together; with 31 nothing
-- that waited was put.
pub record IsStoppedAt {S : Type 0} (facts : Ghosts S) (verbose : Bool) (shapes : List Shape)
    (first : Progress S) (limit : ℕ) (stop : Stop) (canvas : S) (written : Option (List ℕ))
    : Type 0 where
  pub count : ℕ
  pub before : Progress S
  pub after : Progress S
  pub reached : ComesTo facts verbose shapes first count before
  pub at_place : IsAtPlace before.lines before.turns stop.place
  pub refused : Refuses facts verbose shapes limit count before stop.code after
  pub blocks : stop.open.items ≡ open_blocks stop.code before.lines before.turns
  pub put : PutsAtEnd facts (Some stop) after.sketch.canvas canvas
  pub has : written ≡ after.sketch.written

-- this is the canvas after the lines that were drawn before memory ran out or the writer failed; what
-- waited was put then, or is lost
pub record IsCutOff {S : Type 0} (facts : Ghosts S) (verbose : Bool) (shapes : List Shape)
    (first : Progress S) (canvas : S) : Type 0 where
  pub count : ℕ
  pub last : Progress S
  pub reached : ComesTo facts verbose shapes first count last
  pub left : S
  pub settled : (left ≡ last.sketch.canvas) ⊎ ((place : ℕ) × IsAtPlace last.lines last.turns place
      × (begun : S) × facts.begins last.sketch.canvas place verbose begun
      × facts.settles begun left)
  pub leaves : facts.settles left canvas ⊎ facts.loses left canvas

-- how a call ended that began before the first line: all were drawn; or those before a refused one;
-- or those before memory ran out or the writer failed
abbrev pub EndsFrom : {S : Type 0} → Ghosts S → Bool → List Shape → Progress S → ℕ
    → Result (Option Stop) ScriptError → S → Option (List ℕ) → Type 0
EndsFrom facts verbose shapes first limit (Ok None) canvas written =
    IsAllDrawn facts verbose shapes first limit canvas written
EndsFrom facts verbose shapes first limit (Ok (Some stop)) canvas written =
    IsStoppedAt facts verbose shapes first limit stop canvas written
EndsFrom facts verbose shapes first limit (Err error) canvas written =
    ((error ≡ OutOfMemory) ⊎ (error ≡ WriterFailed)) × IsCutOff facts verbose shapes first canvas

-- how a call ended that should draw these lines
abbrev pub IsScriptDrawn : {S : Type 0} → Ghosts S → Bool → List (ℕ × List ℕ)
    → Result (Option Stop) ScriptError → S → Option (List ℕ) → S → Option (List ℕ) → Type 0
IsScriptDrawn facts verbose lines result canvas-old writer-old canvas-new writer-new =
    MatchOption (order_fault lines)
    (EndsFrom facts verbose (shapes_in (with_places lines))
    (at_first canvas-old writer-old lines) (line_limit lines) result canvas-new writer-new)
    (λ place. IsOutOfOrder place result canvas-old writer-old canvas-new writer-new)
