-- What the request `draw` does (docs/COMMANDS.md, "Scripts").
use Rattle.std.specs.Prelude.{◌≡◌, ◌⊎◌, ℕ, Bool, false, List, Option, Some, None, Result, Ok, Err, slice_get}
use Rattle.std.specs.Io.KnownBytes.{Keeps}
use Rattle.run_canvas.specs.Canvases.{Drafted, draft_canvas, first_draft}
use Rattle.run_script.specs.Drawn.{IsScriptDrawn}
use Rattle.run_reasons.specs.Refused.{blocks_text}
use Rattle.run_stops.specs.ToldStops.{AreFurtherTold, IsStopTold}
use Rattle.run_canvas.specs.declared.canvas.Canvas as canvas
use Rattle.map_blocks.specs.declared.stop.Stop.{Stop}
use Rattle.run_canvas.specs.declared.error.ScriptError.{ScriptError}
use Rattle.run_canvas.specs.declared.error.ScriptError.TheVariants as cut
use Rattle.run_edit.specs.declared.error.EditorError.TheVariants.{OutOfMemory, WriterFailed}
use Rattle.cli_scripts.specs.Including.{ShowsTold}
use Rattle.cli_refusals.specs.declared.refusal.Refusal.{Refusal}
use Rattle.cli_refusals.specs.declared.refusal.Refusal.TheVariants as of

-- ---- Any canvas

-- the status 0 where no line was refused, 3 where one was
abbrev pub stop_status : Option Stop → ℕ
stop_status None = 0
stop_status (Some stop) = 3

-- how it ends: with the status, or as it was cut off
abbrev pub draw_end : Result (Option Stop) ScriptError → Result ℕ Refusal
draw_end (Ok stop) = Ok (stop_status stop)
draw_end (Err cut.OutOfMemory) = Err (of.Lines OutOfMemory)
draw_end (Err cut.WriterFailed) = Err (of.Lines WriterFailed)

-- it ended so, with what was written handed on, or the writer failed
abbrev pub IsHandedOn : Result (Option Stop) ScriptError → Result ℕ Refusal → Option (List ℕ)
    → Option (List ℕ) → Type 0
IsHandedOn drawn how writer-old writer-new =
    ((how ≡ draw_end drawn) × Keeps writer-old writer-new) ⊎ (how ≡ Err (of.Lines WriterFailed))

-- the lines of a script were drawn onto a canvas, as a script is drawn, with this result
abbrev pub IsDrawnWith : {S : Type 0} → canvas.Ghosts S → Bool → List (ℕ × List ℕ)
    → Result (Option Stop) ScriptError → Result ℕ Refusal → S → S → Option (List ℕ)
    → Option (List ℕ) → Type 0
IsDrawnWith facts verbose lines result how old new writer-old writer-new =
    (told : Option (List ℕ)) × IsScriptDrawn facts verbose lines result old writer-old new told
    × IsHandedOn result how told writer-new

-- the same with some result
pub record IsScriptDone {S : Type 0} (facts : canvas.Ghosts S) (verbose : Bool)
    (lines : List (ℕ × List ℕ)) (how : Result ℕ Refusal) (old new : S)
    (writer-old writer-new : Option (List ℕ)) : Type 0 where
  pub result : Result (Option Stop) ScriptError
  pub told : Option (List ℕ)
  pub drawn : IsScriptDrawn facts verbose lines result old writer-old new told
  pub handed : IsHandedOn result how told writer-new

-- there was no memory for the maps, and nothing was done
pub record IsUndone {S : Type 0} (how : Result ℕ Refusal) (old new : S)
    (writer-old writer-new : Option (List ℕ)) : Type 0 where
  pub memory : how ≡ Err (of.Lines OutOfMemory)
  pub stays : new ≡ old
  pub unwritten : Keeps writer-old writer-new

-- either of these
abbrev pub IsDrawnOnto : {S : Type 0} → canvas.Ghosts S → Bool → List (ℕ × List ℕ)
    → Result ℕ Refusal → S → S → Option (List ℕ) → Option (List ℕ) → Type 0
IsDrawnOnto facts verbose lines how old new writer-old writer-new =
    IsUndone how old new writer-old writer-new
    ⊎ IsScriptDone facts verbose lines how old new writer-old writer-new

-- this was told of the lines of a script that were drawn so: which one was refused, in which file,
-- and why; and nothing where none was
abbrev pub TellsRefused : {U : Type 0} → Result U ScriptError → List (ℕ × List ℕ) → List (List ℕ)
    → Result (Option Stop) ScriptError → Option (List ℕ) → Option (List ℕ) → Type 0
TellsRefused told lines files (Ok (Some stop)) faults-old faults-new =
    (line : ℕ × List ℕ) × (file : List ℕ) × (slice_get lines stop.place ≡ Some line)
    × (slice_get files stop.place ≡ Some file)
    × ShowsTold told (IsStopTold file line stop.code (blocks_text lines files stop.«open».items))
    faults-old faults-new
TellsRefused told lines files (Ok None) faults-old faults-new = Keeps faults-old faults-new
TellsRefused told lines files (Err e) faults-old faults-new = Keeps faults-old faults-new

-- ---- Memory

-- behind such a stop that was told, it was told at which further lines the script stops, drawn from
-- these maps on without those before; and else nothing
abbrev pub TellsOthers : {U : Type 0} → Drafted → List (ℕ × List ℕ) → List (List ℕ)
    → Result (Option Stop) ScriptError → Result U ScriptError → Option (List ℕ) → Option (List ℕ)
    → Type 0
TellsOthers first lines files (Ok (Some stop)) (Ok u) faults-old faults-new =
    (result : Result (Unit {0}) ScriptError)
    × ShowsTold result (AreFurtherTold first lines files stop) faults-old faults-new
TellsOthers first lines files (Ok (Some stop)) (Err e) faults-old faults-new =
    Keeps faults-old faults-new
TellsOthers first lines files (Ok None) told faults-old faults-new = Keeps faults-old faults-new
TellsOthers first lines files (Err e) told faults-old faults-new = Keeps faults-old faults-new

-- the maps of a canvas in memory, and how long their body may be
abbrev pub maps_on : {S : Type 0} → canvas.Ghosts S → S → Drafted
maps_on facts s = record { maps = facts.maps_in s; cap = facts.cap_in s }

-- a line of a script was refused, drawn from this canvas on, and it was told which one and why; and so
-- of further ones, drawn from its maps on
abbrev pub TellsStops : {S : Type 0} → canvas.Ghosts S → Bool → S → List (ℕ × List ℕ)
    → List (List ℕ) → Option (List ℕ) → Option (List ℕ) → Option (List ℕ) → Type 0
TellsStops {S = S} facts verbose first lines files writer-old faults-old faults-new =
    (stop : Stop) × (new : S) × (writer-new : Option (List ℕ))
    × IsScriptDrawn facts verbose lines (Ok (Some stop)) first writer-old new writer-new
    × (told : Result (Unit {0}) ScriptError) × (faults-mid : Option (List ℕ))
    × TellsRefused told lines files (Ok (Some stop)) faults-old faults-mid
    × TellsOthers (maps_on facts first) lines files (Ok (Some stop)) told faults-mid faults-new

-- the lines of a script were tried over these maps
abbrev pub IsTriedOver : Drafted → Bool → List (ℕ × List ℕ) → Result ℕ Refusal → Option (List ℕ)
    → Option (List ℕ) → Type 0
IsTriedOver first verbose lines how writer-old writer-new =
    (last : Drafted) × IsDrawnOnto draft_canvas verbose lines how first last writer-old writer-new

-- the same over the empty project
abbrev pub IsTriedOn : Bool → List (ℕ × List ℕ) → Result ℕ Refusal → Option (List ℕ)
    → Option (List ℕ) → Type 0
IsTriedOn = IsTriedOver first_draft

-- all lines were drawn from this canvas on to that one, whatever their queries answered
abbrev pub DrawsWhole : {S : Type 0} → canvas.Ghosts S → List (ℕ × List ℕ) → S → S → Type 0
DrawsWhole facts lines old new =
    (answers : Option (List ℕ))
    × IsScriptDrawn facts false lines (Ok None) old None new answers

-- a line is refused if these are drawn from these maps on
abbrev pub IsRefusedFrom : Drafted → List (ℕ × List ℕ) → Type 0
IsRefusedFrom old lines =
    (stop : Stop) × (new : Drafted) × (answers : Option (List ℕ))
    × IsScriptDrawn draft_canvas false lines (Ok (Some stop)) old None new answers

-- how it ends where not all lines can be drawn from these maps on: one is refused, or memory is
-- lacking
abbrev pub IsHeldBack : Drafted → List (ℕ × List ℕ) → Result ℕ Refusal → Type 0
IsHeldBack old lines (Ok status) = (status ≡ 3) × IsRefusedFrom old lines
IsHeldBack old lines (Err refusal) = refusal ≡ of.Lines OutOfMemory
