-- The commands that a shape becomes over a map, the number that it answers, and why it is refused.
use Rattle.std.specs.Prelude.{◌≡◌, ◌⊎◌, ℕ, List, [], ◌∷◌, Option, Some, None, MatchOption, option_map, slice_get, length}
use Rattle.std.specs.List.{join_with_byte}
use Rattle.map_areas.specs.Areas.{AcceptsArea, AcceptsPillar, RefusesArea, RefusesPillar}
use Rattle.map_areas.specs.Drawn.{AreTaken}
use Rattle.map_areas.specs.declared.error.AreaError.{AreaError}
use Rattle.map_commands.specs.Errors as of_commands
use Rattle.map_commands.specs.Grammar.{head_word}
use Rattle.map_commands.specs.Spelling.{item_words}
use Rattle.map_commands.specs.ProjectCommands.{project_spelling}
use Rattle.map_commands.specs.ProjectGrammar.{project_fault_of}
use Rattle.map_words.specs.Words.{parts}
use Rattle.map_commands.specs.declared.command.Command.{Command}
use Rattle.map_commands.specs.declared.project.command.ProjectCommand.TheVariants.{Current}
use Rattle.map_tables.specs.Outcomes.{least}
use Rattle.map_tables.specs.Tables.{Tables}
use Rattle.map_tables.specs.declared.edit.Item.{Item}
use Rattle.map_tables.specs.declared.kind.Kind.{Kind}
use Rattle.map_shapes.specs.Changes.{changed_line, item_at, missing, setting}
use Rattle.map_shapes.specs.Doors.{door_commands, door_faults}
use Rattle.map_shapes.specs.Errors.{code_of, no_memory}
use Rattle.map_shapes.specs.Shapes.{SpellsShape, shape_fault_of}
use Rattle.map_shapes.specs.declared.error.ShapeError.{ShapeError}
use Rattle.map_shapes.specs.declared.error.ShapeError.TheVariants as refusal
use Rattle.map_shapes.specs.declared.shape.Change.{Change}
use Rattle.map_shapes.specs.declared.shape.Door.{Door}
use Rattle.map_shapes.specs.declared.shape.Shape.{Shape}
use Rattle.map_shapes.specs.declared.shape.Shape.TheVariants.{Area, Pillar, Door as Sliding, Change as Changing}

-- the line begins as a command that changes an item, and has further words
pub record IsSetting (line : List ℕ) : Type 0 where
  pub kind : Kind
  pub word : List ℕ
  pub words : List (List ℕ)
  pub is : line ≡ join_with_byte 32 (head_word (setting kind) ∷ word ∷ words)

-- the command is that of the item as it is, but for the VALUEs
pub record Changes (m : Tables) (c : Change) (command : Command) : Type 0 where
  pub item : Item
  pub at : item_at m c.kind c.number ≡ Some item
  pub line : project_spelling (Current command)
      ≡ changed_line c.kind c.number (parts c.fields.now) (item_words item)

-- the refusal of an item that isn't there, or else of the line that would change it
abbrev pub RefusesChange : Tables → Change → ShapeError → Type 0
RefusesChange m c e =
    MatchOption (item_at m c.kind c.number) (code_of e ≡ of_commands.code_of (missing c.kind))
    (λ item. project_fault_of (changed_line c.kind c.number (parts c.fields.now) (item_words item))
    ≡ Some (code_of e))

-- the commands are those that make the sector a door, nothing refuses them, and each is accepted in turn
abbrev pub MakesDoor : Tables → Door → List Command → Type 0
MakesDoor m d commands = (least (door_faults m d) ≡ None)
    × (option_map (door_commands m d) (slice_get m.sectors d.sector) ≡ Some commands)
    × AreTaken m commands

-- the commands are those that draw the shape onto the map
abbrev pub Becomes : Tables → Shape → List Command → Type 0
Becomes m (Area a) commands = AcceptsArea m a.corners.items commands
Becomes m (Pillar p) commands = AcceptsPillar m p commands
Becomes m (Sliding d) commands = MakesDoor m d commands
Becomes m (Changing c) commands =
    (command : Command) × (commands ≡ command ∷ []) × Changes m c command

-- the refusal is that of an area or a pillar, with such a reason
abbrev pub IsOfArea : (AreaError → Type 0) → ShapeError → Type 0
IsOfArea Reason (refusal.Area e) = Reason e
IsOfArea Reason e = ⊥

-- why a shape can't be drawn onto the map
abbrev pub RefusesShape : Tables → Shape → ShapeError → Type 0
RefusesShape m (Area a) e = IsOfArea (RefusesArea m a.corners.items) e
RefusesShape m (Pillar p) e = IsOfArea (RefusesPillar m p) e
RefusesShape m (Sliding d) e = least (door_faults m d) ≡ Some (code_of e)
RefusesShape m (Changing c) e = RefusesChange m c e

-- the number that a shape answers: that of an area's new sector, of a pillar's first line, of a
-- door's sector, of the changed item
abbrev pub answer_of : Tables → Shape → ℕ
answer_of m (Area a) = length m.sectors
answer_of m (Pillar p) = length m.lines
answer_of m (Sliding d) = d.sector
answer_of m (Changing c) = c.number

-- the line is a shape's, which becomes these commands and answers this number
pub record IsDecided (m : Tables) (line : List ℕ) (commands : List Command) (answer : ℕ) :
    Type 0 where
  pub shape : Shape
  pub spelled : SpellsShape line shape
  pub becomes : Becomes m shape commands
  pub answers : answer ≡ answer_of m shape

-- the line is a shape's, which is refused with this code
pub record IsShapeRefused (m : Tables) (line : List ℕ) (code : ℕ) : Type 0 where
  pub shape : Shape
  pub spelled : SpellsShape line shape
  pub error : ShapeError
  pub refuses : RefusesShape m shape error
  pub code_is : code ≡ code_of error

-- the line is refused with this code: as a line, by the map, or for lack of memory
abbrev pub RefusesDecision : Tables → List ℕ → ℕ → Type 0
RefusesDecision m line code =
    (code ≡ 31) ⊎ ((shape_fault_of line ≡ Some code) ⊎ IsShapeRefused m line code)
