-- The lines that draw a project's maps again.
use Rattle.std.specs.Prelude.{ℕ, zero, suc, ◌+◌, ◌==◌, Bool, if◌then◌else◌, List, [], ◌∷◌, ◌++◌, bytes_eq, length, map, flat_map}
use Rattle.lump_records.specs.declared.records.Name8.{Name8}
use Rattle.map_tables.specs.declared.kind.Kind.{Kind}
use Rattle.map_tables.specs.declared.kind.Kind.TheVariants as kind
use Rattle.map_tables.specs.Tables.{Tables, empty_tables}
use Rattle.map_tables.specs.Projects.{ProjectMaps, current_map}
use Rattle.map_commands.specs.Spelling.{kinds}
use Rattle.map_commands.specs.ProjectCommands.{project_spelling}
use Rattle.map_commands.specs.declared.command.Command.{Command}
use Rattle.map_commands.specs.declared.command.Command.TheVariants.{Name, Edit}
use Rattle.map_tables.specs.declared.edit.Edit.TheVariants as edit
use Rattle.map_tables.specs.declared.edit.Item.TheVariants as item
use Rattle.map_commands.specs.declared.project.command.ProjectCommand.{ProjectCommand}
use Rattle.map_commands.specs.declared.project.command.ProjectCommand.TheVariants.{Current, SelectMap}

-- the name is MAP01, that of the only map of the empty project
abbrev pub is_map01 : Name8 → Bool
is_map01 name = bytes_eq name.bytes empty_tables.name.bytes

-- the command that gives the map with a number its name: the first one is there as MAP01, so it is selected if
-- that is its name, and else renamed; each other one is added
abbrev pub naming_of : ℕ → Name8 → ProjectCommand
naming_of zero name = if is_map01 name then SelectMap name else Current (Name name)
naming_of (suc n) name = SelectMap name

-- the commands that add the items of a table
abbrev pub additions_of : Tables → Kind → List Command
additions_of m kind.Vertex = map (λ v. Edit (edit.Add (item.Vertex v))) m.vertices
additions_of m kind.Sector = map (λ v. Edit (edit.Add (item.Sector v))) m.sectors
additions_of m kind.Side = map (λ v. Edit (edit.Add (item.Side v))) m.sides
additions_of m kind.Line = map (λ v. Edit (edit.Add (item.Line v))) m.lines
additions_of m kind.Thing = map (λ v. Edit (edit.Add (item.Thing v))) m.things

-- the commands that add a map's items, table by table, each item after those that it names
abbrev pub items_of : Tables → List Command
items_of m = flat_map (additions_of m) kinds

-- commands of the current map, as commands of the project
abbrev pub edits_of : List Command → List ProjectCommand
edits_of commands = map Current commands

-- the commands that draw the map with a number
abbrev pub commands_of_map : ℕ → Tables → List ProjectCommand
commands_of_map n m = naming_of n m.name ∷ edits_of (items_of m)

-- the commands that draw maps, the first of which has the number
abbrev pub commands_from : ℕ → List Tables → List ProjectCommand
commands_from n [] = []
commands_from n (m ∷ ms) = commands_of_map n m ++ commands_from (suc n) ms

-- the command that selects the project's current map, unless that is the last one, which the commands that draw
-- it leave current
abbrev pub selection_of : ProjectMaps → List ProjectCommand
selection_of p =
    if p.current + 1 == length p.maps then [] else SelectMap (current_map p).name ∷ []

-- the commands that draw all maps, and select the current one
abbrev pub commands_of : ProjectMaps → List ProjectCommand
commands_of p = commands_from 0 p.maps ++ selection_of p

-- the dump: the line of each of these commands
abbrev pub dump_of : ProjectMaps → List (List ℕ)
dump_of p = map project_spelling (commands_of p)

-- the commands that draw a map whatever was drawn before: the first makes the map with its name current, or adds
-- it, and the others add its items
abbrev pub commands_of_one : Tables → List ProjectCommand
commands_of_one m = SelectMap m.name ∷ edits_of (items_of m)

-- the dump of one map: the line of each of these commands
abbrev pub map_dump_of : Tables → List (List ℕ)
map_dump_of m = map project_spelling (commands_of_one m)
