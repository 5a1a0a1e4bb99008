-- The form of each command.
use Rattle.std.proofs.Common.{◌≡◌, refl, length}
use Rattle.std.specs.Prelude.{MatchOption, find}
use Rattle.map_tables.specs.declared.edit.Edit.TheVariants.{Add, Set, Drop}
use Rattle.map_tables.specs.declared.edit.Item.TheVariants as item
use Rattle.map_commands.specs.ProjectCommands.{project_words_of}
use Rattle.map_commands.specs.ProjectLaws.{CommandsHaveForms, begins_alike}
use Rattle.map_words.specs.Words.{parts}
use Rattle.map_commands.specs.declared.command.Command.TheVariants.{Name, Edit, Room, Split}
use Rattle.map_commands.specs.declared.grammar.TheConstants.{FORMS}
use Rattle.map_commands.specs.declared.project.command.ProjectCommand.{ProjectCommand}
use Rattle.map_commands.specs.declared.project.command.ProjectCommand.TheVariants.{Current, SelectMap, DropMap}

form_words : (c : ProjectCommand) → MatchOption (find (λ f. begins_alike f.now c) FORMS.now) ⊥ (λ f. length (parts f.now) ≡ length (project_words_of c))
form_words (Current (Name n)) = refl
form_words (Current (Edit (Add (item.Vertex v)))) = refl
form_words (Current (Edit (Add (item.Sector s)))) = refl
form_words (Current (Edit (Add (item.Side s)))) = refl
form_words (Current (Edit (Add (item.Line l)))) = refl
form_words (Current (Edit (Add (item.Thing t)))) = refl
form_words (Current (Edit (Set n (item.Vertex v)))) = refl
form_words (Current (Edit (Set n (item.Sector s)))) = refl
form_words (Current (Edit (Set n (item.Side s)))) = refl
form_words (Current (Edit (Set n (item.Line l)))) = refl
form_words (Current (Edit (Set n (item.Thing t)))) = refl
form_words (Current (Edit (Drop k n))) = refl
form_words (Current (Room r)) = refl
form_words (Current (Split s)) = refl
form_words (SelectMap n) = refl
form_words (DropMap n) = refl

pub all_forms : CommandsHaveForms
all_forms = record { forms = refl; deeds = refl; words = form_words }
