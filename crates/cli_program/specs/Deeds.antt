-- What was done for a request (docs/COMMANDS.md, "The program"). How it ended is a status, or the
-- refusal. A file tells no bytes, so which project, WAD or script it was is left open.
use Rattle.std.specs.Prelude.{◌≡◌, ◌⊎◌, ℕ, Option, None, Some, Result, Err, List, string_bytes, false, map, option_map}
use Rattle.std.specs.Io.KnownBytes.{Keeps}
use Rattle.store_disk.specs.declared.disk.Disk.{Ghosts}
use Rattle.map_tables.specs.Projects.{ProjectMaps, empty_project}
use Rattle.store_project.specs.States.{State}
use Rattle.store_project.specs.declared.error.ProjectError.{ProjectError}
use Rattle.run_edit.specs.Answers.{RepliesInMemory}
use Rattle.cli_scripts.specs.DrawnInto.{IsDrawnInto, IsScriptTried, IsTriedOntoSome, script_path}
use Rattle.run_edit.specs.Editing.{told_of}
use Rattle.cli_requests.specs.LevelNames.{IsListed}
use Rattle.cli_program.specs.SourceDeeds.{IsDoneWithSome}
use Rattle.cli_print.specs.Reading.{turns}
use Rattle.cli_rebuild.specs.Rebuilding.{IsRebuiltInto}
use Rattle.cli_requests.specs.Salvaging.{IsSalvagedInto}
use Rattle.cli_refusals.specs.Refusals.{IsOfOpening}
use Rattle.run_edit.specs.Runs.{Exchange, IsTrace, Ran}
use Rattle.run_edit.specs.Sessions.{RunsOver}
use Rattle.run_edit.specs.Told.{RepliesTold}
use Rattle.cli_refusals.specs.Statuses.{run_end}
use Rattle.cli_words.specs.declared.asked.Request.{Request}
use Rattle.cli_words.specs.declared.asked.Request.TheVariants.{Scratch, Create, Edit, Check, Lint, Draw, TryScript, Dump, Salvage, Picture, Inspect, Levels, Build, Rebuild}
use Rattle.run_edit.specs.declared.error.EditorError.{EditorError}
use Rattle.cli_refusals.specs.declared.refusal.Refusal.{Refusal}
use Rattle.cli_refusals.specs.declared.refusal.Refusal.TheVariants as of
use Rattle.cli_requests.specs.Requests.{IsCreated, IsExamined}
use Rattle.cli_requests.specs.Typing.{longest_body}

-- the lines of the input were answered over the empty project, and the answers written
abbrev pub IsScratched : Result ℕ Refusal → Option (List ℕ) → Option (List ℕ) → Option (List ℕ)
    → Option (List ℕ) → Type 0
IsScratched how reader-old reader-new writer-old writer-new =
    (result : Result ℕ EditorError) × (last : ProjectMaps) × (trace : List Exchange)
    × (how ≡ run_end result)
    × Ran (IsTrace (RepliesInMemory longest_body)) empty_project last trace turns result
    reader-old reader-new writer-old writer-new

-- no project was opened and nothing read or written, or the lines of the input were answered over
-- one, and the answers written
abbrev pub IsEdited : {D : Type 0} → Ghosts D → Result ℕ Refusal → Option (List ℕ) → Option (List ℕ)
    → Option (List ℕ) → Option (List ℕ) → Type 0
IsEdited {D = D} facts how reader-old reader-new writer-old writer-new =
    ((e : ProjectError) × (how ≡ Err (of.Project e)) × IsOfOpening e × Keeps reader-old reader-new
    × Keeps writer-old writer-new)
    ⊎ ((result : Result ℕ EditorError) × (first : State D) × (last : State D)
    × (trace : List Exchange)
    × (first.must_reopen ≡ false) × (how ≡ run_end result)
    × Ran (IsTrace RepliesTold) (told_of first) (told_of last) trace turns result
    reader-old reader-new writer-old writer-new
    × RunsOver facts first last trace)

-- what was done for a request that ended so; a run reads the input, and so does a script that is `-`
abbrev pub IsPerformed : {D : Type 0} → Ghosts D → Request → Result ℕ Refusal → Option (List ℕ)
    → Option (List ℕ) → Option (List ℕ) → Option (List ℕ) → Type 0
IsPerformed facts Scratch how reader-old reader-new writer-old writer-new =
    IsScratched how reader-old reader-new writer-old writer-new
IsPerformed facts (Create file slot journal) how reader-old reader-new writer-old writer-new =
    IsCreated slot journal how writer-old writer-new × Keeps reader-old reader-new
IsPerformed facts (Edit file) how reader-old reader-new writer-old writer-new =
    IsEdited facts how reader-old reader-new writer-old writer-new
IsPerformed facts (Check file map) how reader-old reader-new writer-old writer-new =
    IsDoneWithSome (Check file map) how reader-old reader-new writer-old writer-new
IsPerformed facts (Lint file map iwad only except) how reader-old reader-new writer-old writer-new =
    IsDoneWithSome (Lint file map iwad only except) how reader-old reader-new writer-old writer-new
IsPerformed facts (Draw file script verbose) how reader-old reader-new writer-old writer-new =
    IsDrawnInto facts (script_path (option_map string_bytes script)) verbose how
    reader-old reader-new writer-old writer-new
IsPerformed facts (TryScript script None verbose) how reader-old reader-new writer-old writer-new =
    IsScriptTried (string_bytes script) verbose how reader-old reader-new writer-old writer-new
IsPerformed facts (TryScript script (Some over) verbose) how reader-old reader-new writer-old
    writer-new =
    IsTriedOntoSome (string_bytes script) verbose how reader-old reader-new writer-old writer-new
IsPerformed facts (Dump file names exact) how reader-old reader-new writer-old writer-new =
    IsDoneWithSome (Dump file names exact) how reader-old reader-new writer-old writer-new
IsPerformed facts (Salvage file) how reader-old reader-new writer-old writer-new =
    IsSalvagedInto how writer-old writer-new × Keeps reader-old reader-new
IsPerformed facts (Picture file map out numbers nodes lint heights grid crop) how reader-old
    reader-new writer-old writer-new =
    IsDoneWithSome (Picture file map out numbers nodes lint heights grid crop) how
    reader-old reader-new writer-old writer-new
IsPerformed facts (Inspect wad name) how reader-old reader-new writer-old writer-new =
    IsExamined (string_bytes name) how writer-old writer-new × Keeps reader-old reader-new
IsPerformed facts (Levels wad) how reader-old reader-new writer-old writer-new =
    IsListed how writer-old writer-new × Keeps reader-old reader-new
IsPerformed facts (Build file out) how reader-old reader-new writer-old writer-new =
    IsDoneWithSome (Build file out) how reader-old reader-new writer-old writer-new
IsPerformed facts (Rebuild wad out maps) how reader-old reader-new writer-old writer-new =
    IsRebuiltInto (map string_bytes maps.items) how writer-old writer-new
    × Keeps reader-old reader-new
