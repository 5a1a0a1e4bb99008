-- What a command makes of a project: a new project and a number, or the least of the codes that
-- hold.
use Rattle.std.specs.Prelude.{ℕ, Bool, ◌&&◌, nat_lt, List, [], ◌∷◌, ◌++◌, Result}
use Rattle.std.specs.Option.{is_none}
use Rattle.map_commands.specs.declared.error.CommandError.TheVariants.{ProjectFull}
use Rattle.map_commands.specs.Errors.{code_of}
use Rattle.map_tables.specs.Outcomes.{least, unless}
use Rattle.map_tables.specs.ProjectEdits.{name_faults, select_faults, drop_map_faults, with_selected, without_map}
use Rattle.map_tables.specs.Projects as project
use Rattle.map_tables.specs.Projects.{ProjectMaps, body_len, current_map, with_current}
use Rattle.map_commands.specs.Step as of_one_map
use Rattle.map_commands.specs.declared.command.Command.{Command}
use Rattle.map_commands.specs.declared.command.Command.TheVariants.{Name}
use Rattle.map_commands.specs.declared.project.command.ProjectCommand.{ProjectCommand}
use Rattle.map_commands.specs.declared.project.command.ProjectCommand.TheVariants.{Current, SelectMap, DropMap}

-- why the current map refuses it, from NoVertex to LineTooLong
abbrev pub current_faults : ProjectMaps → ProjectCommand → List (ℕ × Bool)
current_faults p (Current c) = of_one_map.faults (current_map p) c
current_faults p (SelectMap name) = []
current_faults p (DropMap name) = []

-- another map has the name that the current one is to have: MapNameTaken
abbrev pub naming_faults : ProjectMaps → Command → List (ℕ × Bool)
naming_faults p (Name name) = name_faults p name
naming_faults p _ = []

-- why the list of maps refuses it, from TooManyMaps to CurrentMap
abbrev pub map_faults : ProjectMaps → ProjectCommand → List (ℕ × Bool)
map_faults p (Current c) = naming_faults p c
map_faults p (SelectMap name) = select_faults p name
map_faults p (DropMap name) = drop_map_faults p name

-- the project that a command leaves, where it is accepted
abbrev pub project_after : ProjectMaps → ProjectCommand → ProjectMaps
project_after p (Current c) = with_current p (of_one_map.after (current_map p) c)
project_after p (SelectMap name) = with_selected p name
project_after p (DropMap name) = without_map p name

-- the number that is answered: as for the current map alone, and else that of the named map
abbrev pub project_number_of : ProjectMaps → ProjectCommand → ℕ
project_number_of p (Current c) = of_one_map.number_of (current_map p) c
project_number_of p (SelectMap name) = project.map_number_of p name
project_number_of p (DropMap name) = project.map_number_of p name

-- there is a new body (there is none where the maps refuse it), and it is longer than `cap`
abbrev pub is_full : ProjectMaps → ProjectCommand → ℕ → Bool
is_full p c cap = is_none (least (map_faults p c)) && nat_lt cap (body_len (project_after p c))

-- why a command is refused, by rising code; a body may be at most `cap` long
abbrev pub project_faults : ProjectMaps → ProjectCommand → ℕ → List (ℕ × Bool)
project_faults p c cap = current_faults p c ++ (code_of ProjectFull, is_full p c cap)
    ∷ map_faults p c

-- the new project and the number, or the least code
abbrev pub step : ProjectMaps → ProjectCommand → ℕ → Result (ProjectMaps × ℕ) ℕ
step p c cap = unless (least (project_faults p c cap)) (project_after p c) (project_number_of p c)
