-- Which lines are commands of a project, by the fault that another line has: NotACommand,
-- OutOfRange or BadName.
use Rattle.std.specs.Prelude.{ℕ, nat_lt, if◌then◌else◌, List, [], ◌∷◌, length, find, Option, Some, None, bytes_eq}
use Rattle.lump_records.specs.Names.{is_marker}
use Rattle.map_commands.specs.declared.error.CommandError.TheVariants.{NotACommand}
use Rattle.map_commands.specs.Errors.{code_of}
use Rattle.map_commands.specs.Grammar as of_one_map
use Rattle.map_commands.specs.Places.{Named, places_fault}
use Rattle.map_commands.specs.ProjectCommands.{map_word}
use Rattle.map_words.specs.Words.{parts}
use Rattle.map_commands.specs.declared.project.command.MapHead.{MapHead}
use Rattle.map_commands.specs.declared.project.command.MapHead.TheVariants as head

-- the first words behind which a map of the project is named
abbrev pub map_heads : List MapHead
map_heads = head.Select ∷ head.Drop ∷ []

-- which of them the word is
abbrev pub map_head_of : List ℕ → Option MapHead
map_head_of w = find (λ h. bytes_eq w (map_word h)) map_heads

-- the fault of the words: behind such a first word stands a map's name, and other words are as for
-- one map
abbrev pub fault_by_head : Option MapHead → List ℕ → List (List ℕ) → Option ℕ
fault_by_head (Some h) w ws = places_fault (Named is_marker ∷ []) ws
fault_by_head None w ws = of_one_map.command_fault (w ∷ ws)

-- the fault of the words of a line, of which the first says what stands behind it
abbrev pub project_command_fault : List (List ℕ) → Option ℕ
project_command_fault [] = Some (code_of NotACommand)
project_command_fault (w ∷ ws) = fault_by_head (map_head_of w) w ws

-- the fault of a line, and none exactly where it is a command
abbrev pub project_fault_of : List ℕ → Option ℕ
project_fault_of line = if nat_lt 256 (length line) then Some (code_of NotACommand)
    else project_command_fault (parts line)
