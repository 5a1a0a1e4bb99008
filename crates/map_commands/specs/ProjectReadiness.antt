-- When `commit` can do a command of a project, and how a call ends that does one.
use Rattle.std.specs.Prelude.{◌≡◌, ℕ, if◌then◌else◌, Result, Ok, Err, IsOk, None}
use Rattle.map_tables.specs.declared.edit.Need.{Need}
use Rattle.map_tables.specs.Outcomes.{Covers, least}
use Rattle.map_tables.specs.Projects.{MapsView, ProjectMaps, has_map, project_of}
use Rattle.map_commands.specs.Errors.{code_of}
use Rattle.map_commands.specs.ProjectCommands.{InProjectRange}
use Rattle.map_commands.specs.ProjectStep.{current_faults, map_faults}
use Rattle.map_commands.specs.Step as of_one_map
use Rattle.map_tables.specs.Outcomes.{no_need}
use Rattle.map_commands.specs.declared.error.CommandError.{CommandError}
use Rattle.map_commands.specs.declared.error.CommandError.TheVariants.{OutOfMemory}
use Rattle.map_commands.specs.declared.project.command.ProjectCommand.{ProjectCommand}
use Rattle.map_commands.specs.declared.project.command.ProjectCommand.TheVariants.{Current, SelectMap, DropMap}

-- how many items a command adds to each table of the current map
abbrev pub project_need_of : ProjectCommand → Need
project_need_of (Current c) = of_one_map.need_of c
project_need_of (SelectMap name) = no_need
project_need_of (DropMap name) = no_need

-- by how many bytes a command lengthens a body at most: an empty map has 18
abbrev pub project_growth_of : ProjectMaps → ProjectCommand → ℕ
project_growth_of p (Current c) = of_one_map.growth_of (of_one_map.need_of c)
project_growth_of p (SelectMap name) = if has_map p name then 0 else 18
project_growth_of p (DropMap name) = 0

-- nothing refuses the command, its numbers and names are in range, and what it adds takes no memory
pub record CanCommit (v : MapsView) (c : ProjectCommand) : Type 0 where
  pub range : InProjectRange c
  pub current : least (current_faults (project_of v) c) ≡ None
  pub maps : least (map_faults (project_of v) c) ≡ None
  pub covered : Covers v.spare (project_need_of c)

-- a refusal is the code that the step answers, and lack of memory one of a step that is accepted
abbrev pub RefusesStep : CommandError → Result (ProjectMaps × ℕ) ℕ → Type 0
RefusesStep OutOfMemory change = IsOk change
RefusesStep e change = change ≡ Err (code_of e)

-- how a call ended that should do this change: the project is as the change says, or as before
abbrev pub EndsStep : Result ℕ CommandError → Result (ProjectMaps × ℕ) ℕ → ProjectMaps → ProjectMaps
    → Type 0
EndsStep (Ok n) change old new = change ≡ Ok (new, n)
EndsStep (Err e) change old new = RefusesStep e change × (new ≡ old)
