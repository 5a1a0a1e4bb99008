-- Why a request was refused (docs/COMMANDS.md, "The program"), and what was written then.
use Rattle.std.specs.Prelude.{◌≡◌, ◌⊎◌, ℕ, Option, List}
use Rattle.std.specs.Io.KnownBytes.{Keeps}
use Rattle.map_tables.specs.Tables.{Tables}
use Rattle.wad_build.specs.Projects.{Blames}
use Rattle.store_project.specs.Places.{IsAllowed}
use Rattle.store_project.specs.declared.error.ProjectError.{ProjectError}
use Rattle.store_project.specs.declared.error.ProjectError.TheVariants.{Device, OutOfMemory, Damaged, Blank, NotAProject, NotEmpty, BadGeometry}
use Rattle.run_edit.specs.Inspections.{RefusesInspection}
use Rattle.run_edit.specs.declared.error.EditorError.{EditorError}
use Rattle.run_edit.specs.declared.error.EditorError.TheVariants.{WriterFailed}
use Rattle.run_edit.specs.declared.error.WriteError.TheVariants as writing
use Rattle.cli_refusals.specs.declared.refusal.Refusal.{Refusal}
use Rattle.cli_refusals.specs.declared.refusal.Refusal.TheVariants as of

-- a refusal that a project file which is opened can have
abbrev pub IsOfOpening : ProjectError → Type 0
IsOfOpening Device = Unit {0}
IsOfOpening OutOfMemory = Unit {0}
IsOfOpening (Damaged place) = Unit {0}
IsOfOpening Blank = Unit {0}
IsOfOpening NotAProject = Unit {0}
IsOfOpening BadGeometry = Unit {0}
IsOfOpening _ = ⊥

-- a refusal that a project file which is made with this slot and this journal can have
abbrev pub IsOfCreating : ℕ → ℕ → ProjectError → Type 0
IsOfCreating slot journal Device = Unit {0}
IsOfCreating slot journal NotEmpty = IsAllowed slot journal
IsOfCreating slot journal BadGeometry = ¬ IsAllowed slot journal
IsOfCreating slot journal _ = ⊥

-- no project was made, and then nothing written; or the writer failed
abbrev pub NotCreated : ℕ → ℕ → Refusal → Option (List ℕ) → Option (List ℕ) → Type 0
NotCreated slot journal (of.Project e) writer-old writer-new =
    IsOfCreating slot journal e × Keeps writer-old writer-new
NotCreated slot journal (of.Lines e) writer-old writer-new = e ≡ WriterFailed
NotCreated slot journal _ writer-old writer-new = ⊥

-- a PWAD of these maps was not written into a file: a map isn't built, and named, or the file can't
-- be written
abbrev pub RefusesFile : List Tables → Refusal → Type 0
RefusesFile ms (of.Build (writing.Build unbuilt)) = Blames ms unbuilt.error unbuilt.map
RefusesFile ms (of.Build writing.WriterFailed) = Unit {0}
RefusesFile ms _ = ⊥

-- the WAD was not read to its end, and then nothing was written; or what was read of it was not
-- inspected; or the writer failed
abbrev pub NotExamined : List ℕ → Refusal → Option (List ℕ) → Option (List ℕ) → Type 0
NotExamined name (of.Lines e) writer-old writer-new =
    (e ≡ WriterFailed) ⊎ Keeps writer-old writer-new
NotExamined name (of.Level e) writer-old writer-new =
    (wad : List ℕ) × RefusesInspection wad name e writer-old writer-new
NotExamined name _ writer-old writer-new = ⊥

-- why a WAD was not read to its end
abbrev pub EndsReading : EditorError → Type 0
EndsReading WriterFailed = ⊥
EndsReading e = Unit {0}
