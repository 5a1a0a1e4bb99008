-- The maps that a script draws where it stands in place of a project (docs/COMMANDS.md, "Scripts in
-- place of a project").
use Rattle.std.specs.Prelude.{◌≡◌, ◌⊎◌, ◌==◌, ◌&&◌, ◌+◌, ℕ, Bool, false, List, Option, None, Result, Ok, Err, codes, option_map, slice_get, unwrap_or}
use Rattle.std.specs.Io.KnownBytes.{Keeps}
use Rattle.map_tables.specs.Projects.{MapsView, ProjectMaps, project_of}
use Rattle.map_tables.specs.Tables.{Tables, count_of}
use Rattle.map_tables.specs.declared.kind.Kind.TheVariants.{Vertex, Sector, Side, Line, Thing}
use Rattle.map_script.specs.Scripts.{script_lines}
use Rattle.run_edit.specs.declared.error.EditorError.TheVariants.{OutOfMemory}
use Rattle.store_project.specs.declared.error.ProjectError.TheVariants.{NotAProject}
use Rattle.run_canvas.specs.Canvases.{OneOf}
use Rattle.run_canvas.specs.declared.canvas.Canvas as canvas
use Rattle.cli_print.specs.Called.{is_called}
use Rattle.cli_print.specs.Reading.{ReadsAll}
use Rattle.cli_scripts.specs.Drawing.{DrawsWhole, TellsStops}
use Rattle.cli_sources.specs.Unread.{IsRefusedFor, IsUnreadOf}
use Rattle.cli_scripts.specs.Including.{IsScriptJoined, IsUnjoined}
use Rattle.cli_scripts.specs.ScriptCanvases.{ItemOrigin, ScriptCanvas}
use Rattle.cli_refusals.specs.declared.refusal.Refusal.{Refusal}
use Rattle.cli_refusals.specs.declared.refusal.Refusal.TheVariants as of

-- ---- Which maps

-- how many items a map has
abbrev pub item_count : Tables → ℕ
item_count m =
    count_of m Vertex + count_of m Sector + count_of m Side + count_of m Line + count_of m Thing

-- the map is MAP01, and empty
abbrev pub is_untouched : Tables → Bool
is_untouched m = is_called (codes "MAP01") m && (item_count m == 0)

-- the first map is the empty MAP01
abbrev pub begins_untouched : ProjectMaps → Bool
begins_untouched p = unwrap_or (option_map is_untouched (slice_get p.maps 0)) false

-- the same maps; but an empty MAP01 before them is dropped, by the command that refuses to drop the
-- current map
abbrev pub IsWithoutUntouched : {S : Type 0} → canvas.Ghosts S → S → S → Type 0
IsWithoutUntouched facts old new =
    OneOf (begins_untouched (facts.maps_in old))
    ((outcome : Result ℕ ℕ) × facts.changes old (codes "drop-map MAP01") outcome new)
    (new ≡ old)

-- all lines were drawn from this canvas on, and an empty MAP01 was left out
abbrev pub DrawsLeaving : {S : Type 0} → canvas.Ghosts S → S → List (ℕ × List ℕ) → S → Type 0
DrawsLeaving {S = S} facts first lines left =
    (last : S) × DrawsWhole facts lines first last × IsWithoutUntouched facts last left

-- the maps are those that the script at a path, of this text, draws over the empty project with the
-- files that it includes, and their items come from there
abbrev pub AreDrawnBy : {S : Type 0} → ScriptCanvas S → List ℕ → List ℕ → ItemOrigin → ProjectMaps
    → Type 0
AreDrawnBy {S = S} on path text origin p =
    (lines : List (ℕ × List ℕ)) × (files : List (List ℕ))
    × IsScriptJoined path (script_lines text) lines files
    × (left : S) × DrawsLeaving on.facts on.first lines left
    × (p ≡ on.facts.maps_in left) × (origin ≡ on.origin lines files left)

-- ---- How it ends

-- not all lines were drawn from this canvas on: one was refused and told, with further ones; or there
-- was no memory
abbrev pub IsStoppedFrom : {S : Type 0} → canvas.Ghosts S → S → List (ℕ × List ℕ)
    → List (List ℕ) → Result ℕ Refusal → Option (List ℕ) → Option (List ℕ) → Type 0
IsStoppedFrom facts old lines files (Ok status) faults-old faults-new =
    (status ≡ 3) × TellsStops facts false old lines files None faults-old faults-new
IsStoppedFrom facts old lines files (Err refusal) faults-old faults-new =
    refusal ≡ of.Lines OutOfMemory

-- the script at a path, of this text, can't be joined; or not all of its lines can be drawn from this
-- canvas on
abbrev pub IsStopped : {S : Type 0} → canvas.Ghosts S → S → List ℕ → List ℕ → Result ℕ Refusal
    → Option (List ℕ) → Option (List ℕ) → Type 0
IsStopped facts first path text how faults-old faults-new =
    IsUnjoined path (script_lines text) how faults-old faults-new
    ⊎ ((lines : List (ℕ × List ℕ)) × (files : List (List ℕ))
    × IsScriptJoined path (script_lines text) lines files
    × IsStoppedFrom facts first lines files how faults-old faults-new)

-- a script isn't read to its end, or what was read is none (42)
abbrev pub IsUnscripted : Option (List ℕ) → Option (List ℕ) → Refusal → Type 0
IsUnscripted reader-old reader-new refusal =
    IsUnreadOf reader-old reader-new refusal ⊎ (refusal ≡ of.Project NotAProject)

-- the maps and the origins are those that all that the reader gave draws, and nothing was told
abbrev pub IsReadDrawn : {S : Type 0} → ScriptCanvas S → List ℕ → Option (List ℕ)
    → Option (List ℕ) → ItemOrigin → ProjectMaps → Option (List ℕ) → Option (List ℕ) → Type 0
IsReadDrawn on path reader-old reader-new origin p faults-old faults-new =
    (text : List ℕ) × ReadsAll reader-old reader-new text × AreDrawnBy on path text origin p
    × Keeps faults-old faults-new

-- the script can't be read, or not all of its lines were drawn
abbrev pub NotReadDrawn : {S : Type 0} → canvas.Ghosts S → S → List ℕ → Option (List ℕ)
    → Option (List ℕ) → Result ℕ Refusal → Option (List ℕ) → Option (List ℕ) → Type 0
NotReadDrawn facts first path reader-old reader-new how faults-old faults-new =
    IsRefusedFor (IsUnscripted reader-old reader-new) how faults-old faults-new
    ⊎ ((text : List ℕ) × ReadsAll reader-old reader-new text
    × IsStopped facts first path text how faults-old faults-new)

-- ---- What was done

-- there are no maps of the script, and nothing was written; or this was done with those that all
-- that the reader gave draws, and with the origins of their items
abbrev pub OverScript : {S : Type 0} → ScriptCanvas S → List ℕ → Option (List ℕ)
    → Option (List ℕ) → Result ℕ Refusal → Option (List ℕ) → Option (List ℕ) → Option (List ℕ)
    → Option (List ℕ) → (ItemOrigin → MapsView → Type 0) → Type 0
OverScript on path reader-old reader-new how writer-old writer-new faults-old faults-new does =
    (NotReadDrawn on.facts on.first path reader-old reader-new how faults-old faults-new
    × Keeps writer-old writer-new)
    ⊎ ((maps : MapsView) × (origin : ItemOrigin)
    × IsReadDrawn on path reader-old reader-new origin (project_of maps) faults-old faults-new
    × does origin maps)

-- the same with some text, since a file tells none
abbrev pub OverSomeScript : {S : Type 0} → ScriptCanvas S → List ℕ → Result ℕ Refusal
    → Option (List ℕ) → Option (List ℕ) → Option (List ℕ) → Option (List ℕ)
    → (ItemOrigin → MapsView → Type 0) → Type 0
OverSomeScript on path how writer-old writer-new faults-old faults-new does =
    (text : List ℕ)
    × ((IsStopped on.facts on.first path text how faults-old faults-new
    × Keeps writer-old writer-new)
    ⊎ ((maps : MapsView) × (origin : ItemOrigin)
    × AreDrawnBy on path text origin (project_of maps) × Keeps faults-old faults-new
    × does origin maps))
