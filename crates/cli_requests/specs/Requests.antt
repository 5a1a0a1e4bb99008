-- What was done for a request over a disk, or over a reader that gives a WAD (docs/COMMANDS.md, "The
-- program"). A real file tells no bytes, so of one it is left open whose maps or level it was.
use Rattle.std.specs.Prelude.{◌≡◌, ◌⊎◌, ℕ, Bool, Option, None, Result, Ok, Err, List, [], ◌∷◌, ◌++◌, codes}
use Rattle.std.specs.Io.KnownBytes.{Appends, Keeps}
use Rattle.store_disk.specs.Reading.{OnlyReads}
use Rattle.store_disk.specs.Stops.{Each}
use Rattle.store_disk.specs.declared.disk.Disk.{Ghosts}
use Rattle.map_tables.specs.Projects.{MapsView, empty_project, project_of}
use Rattle.store_project.specs.Opening.{RefusesCreate}
use Rattle.store_project.specs.Places.{cap_of, IsAllowed}
use Rattle.store_project.specs.Stands.{Stands, TellsLengths}
use Rattle.store_project.specs.States.{State}
use Rattle.store_project.specs.declared.error.ProjectError.TheVariants.{Device}
use Rattle.store_project.specs.declared.geometry.Geometry.{Geometry}
use Rattle.wad_build.specs.Counted.{IsBuildCounted}
use Rattle.wad_levels.specs.Listing.{listing_refusal}
use Rattle.run_edit.specs.Building.{built_text}
use Rattle.cli_print.specs.Reading.{ReadsAll, turns}
use Rattle.run_edit.specs.Editing.{told_of}
use Rattle.run_edit.specs.Inspections.{IsInspected, RefusesInspection}
use Rattle.run_edit.specs.Recovery.{IsOnlyRead}
use Rattle.cli_requests.specs.LevelNames.{RefusesNames, levels_text}
use Rattle.cli_refusals.specs.Refusals.{RefusesFile, NotCreated, NotExamined}
use Rattle.run_edit.specs.Runs.{Exchange, IsTrace, Ran}
use Rattle.run_edit.specs.Sessions.{RunsOver}
use Rattle.run_edit.specs.Told.{RepliesTold}
use Rattle.cli_refusals.specs.Statuses.{run_end, status_told}
use Rattle.wad_build.specs.declared.counted.BuildCounts.{BuildCounts}
use Rattle.run_edit.specs.declared.error.EditorError.{EditorError}
use Rattle.run_edit.specs.declared.error.EditorError.TheVariants.{WriterFailed}
use Rattle.cli_refusals.specs.declared.refusal.Refusal.{Refusal}
use Rattle.cli_refusals.specs.declared.refusal.Refusal.TheVariants as of
use Rattle.cli_sources.specs.Opened.{NotOpened, IsFaultCounted, IsOpenedFrom}

-- ---- A disk

-- `created` was written, and the lengths that were asked for are allowed; or it was refused
abbrev pub IsCreated : ℕ → ℕ → Result ℕ Refusal → Option (List ℕ) → Option (List ℕ) → Type 0
IsCreated slot journal (Ok status) writer-old writer-new =
    (status ≡ 0) × IsAllowed slot journal
    × Appends writer-old writer-new (codes "created" ++ 10 ∷ [])
IsCreated slot journal (Err refusal) writer-old writer-new =
    NotCreated slot journal refusal writer-old writer-new

-- `created` was written or the writer failed, and each image is the empty project's, with the lengths
-- that were asked for; or none was made, and the disk was only read where it was no fault
abbrev pub IsMade : {D : Type 0} → Ghosts D → Geometry → D → D → Result ℕ Refusal → Type 0
IsMade facts geometry before after (Err (of.Project e)) =
    RefusesCreate (facts.reads before) geometry e × ((e ≡ Device) ⊎ OnlyReads facts before after)
    × IsFaultCounted facts before after e
IsMade facts geometry before after _ =
    Each (facts.may_leave after) (Stands (cap_of geometry) empty_project 1)
    × Each (facts.may_leave after) (TellsLengths geometry)

-- No project was opened, and nothing read or written; or the lines of the input were answered over
-- the one that the disk's bytes stand for, and the disk is as the run left it.
abbrev pub IsEditedOver : {D : Type 0} → Ghosts D → D → D → Result ℕ Refusal → Option (List ℕ)
    → Option (List ℕ) → Option (List ℕ) → Option (List ℕ) → Type 0
IsEditedOver {D = D} facts before after how reader-old reader-new writer-old writer-new =
    (NotOpened facts before after how × IsOnlyRead facts before after
    × Keeps reader-old reader-new × Keeps writer-old writer-new)
    ⊎ ((result : Result ℕ EditorError) × (first : State D) × (last : State D)
    × (trace : List Exchange)
    × IsOpenedFrom facts before first × (after ≡ last.disk) × (how ≡ run_end result)
    × Ran (IsTrace RepliesTold) (told_of first) (told_of last) trace turns result
    reader-old reader-new writer-old writer-new
    × RunsOver facts first last trace)

-- the counts of a sound build of these maps were told; or they were not built into the file and
-- nothing was told; or the file to be made can't be opened or holds a project, or the writer failed
abbrev pub IsBuiltFrom : MapsView → Result ℕ Refusal → Option (List ℕ) → Option (List ℕ) → Type 0
IsBuiltFrom maps (Ok status) writer-old writer-new =
    (wad : List ℕ) × (c : BuildCounts) × (status ≡ 0) × IsBuildCounted (project_of maps).maps wad c
    × Appends writer-old writer-new (built_text c)
IsBuiltFrom maps (Err (of.Build e)) writer-old writer-new =
    RefusesFile (project_of maps).maps (of.Build e) × Keeps writer-old writer-new
IsBuiltFrom maps (Err (of.Lines e)) writer-old writer-new = e ≡ WriterFailed
IsBuiltFrom maps _ writer-old writer-new = ⊥

-- ---- A WAD

-- the level of the name in all that the reader gave was inspected, and the status tells whether it
-- is sound; or it was refused
abbrev pub IsExaminedOf : List ℕ → Result ℕ Refusal → Option (List ℕ) → Option (List ℕ)
    → Option (List ℕ) → Option (List ℕ) → Type 0
IsExaminedOf name (Ok status) reader-old reader-new writer-old writer-new =
    (wad : List ℕ) × ReadsAll reader-old reader-new wad
    × (sound : Bool) × (status ≡ status_told sound)
    × IsInspected wad name sound writer-old writer-new
IsExaminedOf name (Err (of.Level e)) reader-old reader-new writer-old writer-new =
    (wad : List ℕ) × ReadsAll reader-old reader-new wad
    × RefusesInspection wad name e writer-old writer-new
IsExaminedOf name (Err (of.Lines e)) reader-old reader-new writer-old writer-new =
    (e ≡ WriterFailed) ⊎ Keeps writer-old writer-new
IsExaminedOf name _ reader-old reader-new writer-old writer-new = ⊥

-- the level of the name in what was read of a WAD was inspected, and the status tells whether it is
-- sound; or it was refused
abbrev pub IsExamined : List ℕ → Result ℕ Refusal → Option (List ℕ) → Option (List ℕ) → Type 0
IsExamined name (Ok status) writer-old writer-new =
    (wad : List ℕ) × (sound : Bool) × (status ≡ status_told sound)
    × IsInspected wad name sound writer-old writer-new
IsExamined name (Err refusal) writer-old writer-new = NotExamined name refusal writer-old writer-new

-- the names of the levels in all that the reader gave were written; or it was refused
abbrev pub IsListedOf : Result ℕ Refusal → Option (List ℕ) → Option (List ℕ) → Option (List ℕ)
    → Option (List ℕ) → Type 0
IsListedOf (Ok status) reader-old reader-new writer-old writer-new =
    (wad : List ℕ) × ReadsAll reader-old reader-new wad × (status ≡ 0)
    × (listing_refusal wad ≡ None) × Appends writer-old writer-new (levels_text wad)
IsListedOf (Err (of.Level e)) reader-old reader-new writer-old writer-new =
    (wad : List ℕ) × ReadsAll reader-old reader-new wad × RefusesNames wad e writer-old writer-new
IsListedOf (Err (of.Lines e)) reader-old reader-new writer-old writer-new =
    (e ≡ WriterFailed) ⊎ Keeps writer-old writer-new
IsListedOf _ reader-old reader-new writer-old writer-new = ⊥
