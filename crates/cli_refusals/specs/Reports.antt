-- What is said of a refused request on standard error (docs/COMMANDS.md, "Reasons and statuses").
use Rattle.std.specs.Prelude.{ℕ, List, [], ◌∷◌, ◌++◌, codes, decimal}
use Rattle.store_project.specs.Refusals as projects
use Rattle.store_project.specs.declared.error.ProjectError.{ProjectError}
use Rattle.store_project.specs.declared.error.ProjectError.TheVariants as opening
use Rattle.run_edit.specs.Errors as running
use Rattle.run_edit.specs.declared.error.EditorError.{EditorError}
use Rattle.run_edit.specs.declared.error.EditorError.TheVariants as run
use Rattle.run_edit.specs.declared.error.InspectError.{InspectError}
use Rattle.run_edit.specs.declared.error.InspectError.TheVariants as inspecting
use Rattle.run_edit.specs.declared.error.WriteError.TheVariants as writing
use Rattle.wad_levels.specs.declared.error.ReadError.TheVariants as level
use Rattle.wad_build.specs.declared.error.BuildError.{BuildError}
use Rattle.wad_build.specs.declared.error.BuildError.TheVariants as build
use Rattle.wad_import.specs.Texts.{import_refusal_text}
use Rattle.cli_refusals.specs.Unbuilt.{unbuilt_text}
use Rattle.cli_refusals.specs.declared.refusal.Refusal.{Refusal}
use Rattle.cli_refusals.specs.declared.refusal.Refusal.TheVariants as of

-- the number of a refusal
abbrev pub code_of : Refusal → ℕ
code_of (of.Lines e) = running.code_of e
code_of (of.Project e) = projects.code_of e
code_of (of.Level e) = running.inspect_code_of e
code_of (of.Build e) = running.write_code_of e
code_of of.NoSuchMap = 18
code_of (of.NotAMap e) = 77
code_of of.TreeOutside = 78

-- ---- Names

-- the name of what ended a run
abbrev pub run_name : EditorError → List ℕ
run_name run.OutOfMemory = codes "Memory"
run_name run.InputTooLong = codes "InputTooLong"
run_name run.ReaderFailed = codes "ReaderFailed"
run_name run.WriterFailed = codes "WriterFailed"

-- the name of a project file's refusal
abbrev pub project_name : ProjectError → List ℕ
project_name (opening.Refused e) = codes "Refused"
project_name opening.Device = codes "Device"
project_name opening.OutOfMemory = codes "Memory"
project_name opening.Reopen = codes "Reopen"
project_name opening.GenerationsSpent = codes "GenerationsSpent"
project_name (opening.Damaged place) = codes "Damaged"
project_name opening.Blank = codes "Blank"
project_name opening.NotAProject = codes "NotAProject"
project_name opening.NotEmpty = codes "NotEmpty"
project_name opening.BadGeometry = codes "BadGeometry"

-- the name of a level's refusal
abbrev pub inspect_name : InspectError → List ℕ
inspect_name (inspecting.Level level.LumpLength) = codes "LumpLength"
inspect_name (inspecting.Level level.NotAWad) = codes "NotAWad"
inspect_name (inspecting.Level level.DirectoryOutside) = codes "DirectoryOutside"
inspect_name (inspecting.Level level.NoSuchLevel) = codes "NoSuchLevel"
inspect_name (inspecting.Level level.LumpMissing) = codes "LumpMissing"
inspect_name (inspecting.Level level.LumpOutside) = codes "LumpOutside"
inspect_name (inspecting.Level level.HexenLevel) = codes "HexenLevel"
inspect_name (inspecting.Level level.TextureLump) = codes "TextureLump"
inspect_name (inspecting.Level level.OutOfMemory) = codes "Memory"
inspect_name inspecting.WriterFailed = codes "WriterFailed"

-- the name of a build's refusal
abbrev pub build_name : BuildError → List ℕ
build_name build.NothingToBuild = codes "NothingToBuild"
build_name build.TooManyVertices = codes "TooManyVertices"
build_name build.TooManySegs = codes "TooManySegs"
build_name build.TooManySubsectors = codes "TooManySubsectors"
build_name build.TooDeep = codes "TooDeep"
build_name build.BlockmapTooLarge = codes "BlockmapTooLarge"
build_name build.OutOfMemory = codes "Memory"

-- the name of a refusal
abbrev pub refusal_name : Refusal → List ℕ
refusal_name (of.Lines e) = run_name e
refusal_name (of.Project e) = project_name e
refusal_name (of.Level e) = inspect_name e
refusal_name (of.Build (writing.Build unbuilt)) = build_name unbuilt.error
refusal_name (of.Build writing.WriterFailed) = codes "WriterFailed"
refusal_name of.NoSuchMap = codes "NoSuchMap"
refusal_name (of.NotAMap e) = codes "NotAMap"
refusal_name of.TreeOutside = codes "TreeOutside"

-- ---- Lines

-- where a file is damaged
abbrev pub damage_place : Refusal → List ℕ
damage_place (of.Project (opening.Damaged place)) = codes " at " ++ decimal place
damage_place refusal = []

-- `leveled: CODE NAME`, and where a file is damaged
abbrev pub refusal_line : Refusal → List ℕ
refusal_line refusal =
    codes "leveled: " ++ decimal (code_of refusal) ++ codes " " ++ refusal_name refusal
    ++ damage_place refusal ++ 10 ∷ []

-- the line behind it: which map can't be built, why a level is no map, or what builds one that lacks
-- lumps
abbrev pub why_text : Refusal → List ℕ
why_text (of.Build (writing.Build unbuilt)) = unbuilt_text unbuilt
why_text (of.NotAMap error) = codes "  " ++ import_refusal_text error ++ 10 ∷ []
why_text (of.Level (inspecting.Level level.LumpMissing)) =
    codes "  not all of its lumps are there: `leveled rebuild IN OUT` builds them" ++ 10 ∷ []
why_text refusal = []

-- all that is said of a refused request, without the reasons of the system
abbrev pub refusal_report : Refusal → List ℕ
refusal_report refusal = refusal_line refusal ++ why_text refusal
