-- The numbers of the editor's refusals, as docs/FORMAT.md lists them ("Numbers of the refusals").
use Rattle.std.specs.Prelude.{ℕ}
use Rattle.store_project.specs.Refusals as projects
use Rattle.wad_levels.specs.Errors.{code_of as level_code_of}
use Rattle.wad_build.specs.Errors.{build_code_of}
use Rattle.run_edit.specs.declared.error.EditorError.{EditorError}
use Rattle.run_edit.specs.declared.error.EditorError.TheVariants.{OutOfMemory, InputTooLong, ReaderFailed, WriterFailed}
use Rattle.run_edit.specs.declared.error.InspectError.{InspectError}
use Rattle.run_edit.specs.declared.error.InspectError.TheVariants as inspecting
use Rattle.run_edit.specs.declared.error.InspectError.TheVariants.{Level}
use Rattle.run_edit.specs.declared.error.RecoveryError.{RecoveryError}
use Rattle.run_edit.specs.declared.error.RecoveryError.TheVariants as recovering
use Rattle.run_edit.specs.declared.error.WriteError.{WriteError}
use Rattle.run_edit.specs.declared.error.WriteError.TheVariants as writing
use Rattle.run_edit.specs.declared.error.WriteError.TheVariants.{Build}

-- the number of a refusal of a run
abbrev pub code_of : EditorError → ℕ
code_of OutOfMemory = 31
code_of InputTooLong = 36
code_of ReaderFailed = 37
code_of WriterFailed = 38

-- the number of a refusal to inspect a level
abbrev pub inspect_code_of : InspectError → ℕ
inspect_code_of (Level e) = level_code_of e
inspect_code_of inspecting.WriterFailed = 38

-- the number of a refusal to write a PWAD
abbrev pub write_code_of : WriteError → ℕ
write_code_of (Build unbuilt) = build_code_of unbuilt.error
write_code_of writing.WriterFailed = 38

-- the number of a refusal to build from the disk that a stop left
abbrev pub recovery_code_of : RecoveryError → ℕ
recovery_code_of (recovering.Open e) = projects.code_of e
recovery_code_of (recovering.Build e) = build_code_of e
