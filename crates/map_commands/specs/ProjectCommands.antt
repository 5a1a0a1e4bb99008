-- The commands of a project: their names in range, and the one spelling of each.
use Rattle.std.specs.Prelude.{ℕ, List, [], ◌∷◌, codes}
use Rattle.std.specs.List.{join_with_byte}
use Rattle.lump_records.specs.Names.{IsNamed, is_marker, name_text}
use Rattle.map_commands.specs.Step as of_one
use Rattle.map_commands.specs.Grammar as of_one_map
use Rattle.map_commands.specs.declared.project.command.MapHead.{MapHead}
use Rattle.map_commands.specs.declared.project.command.MapHead.TheVariants as head
use Rattle.map_commands.specs.declared.project.command.ProjectCommand.{ProjectCommand}
use Rattle.map_commands.specs.declared.project.command.ProjectCommand.TheVariants.{Current, SelectMap, DropMap}

-- each number and name of the command is in its range
abbrev pub InProjectRange : ProjectCommand → Type 0
InProjectRange (Current c) = of_one.InRange c
InProjectRange (SelectMap name) = IsNamed is_marker name
InProjectRange (DropMap name) = IsNamed is_marker name

-- the first word of a command that names a map of the project
abbrev pub map_word : MapHead → List ℕ
map_word head.Select = codes "map"
map_word head.Drop = codes "drop-map"

-- the words of a command
abbrev pub project_words_of : ProjectCommand → List (List ℕ)
project_words_of (Current c) = of_one_map.words_of c
project_words_of (SelectMap name) = map_word head.Select ∷ name_text name ∷ []
project_words_of (DropMap name) = map_word head.Drop ∷ name_text name ∷ []

-- the line that is the command: its words with one space between each two
abbrev pub project_spelling : ProjectCommand → List ℕ
project_spelling c = join_with_byte 32 (project_words_of c)
