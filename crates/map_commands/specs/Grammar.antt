-- The lines of the commands of a map: the first word of each, the words behind it, and the fault of a line that is
-- none: NotACommand, OutOfRange or BadName.
use Rattle.std.specs.Prelude.{ℕ, Bool, false, true, nat_lt, if◌then◌else◌, List, [], ◌∷◌, length, find, Option, Some, None, bytes_eq, codes, decimal}
use Rattle.std.specs.List.{join_with_byte}
use Rattle.lump_records.specs.Names.{is_marker, name_text}
use Rattle.map_tables.specs.declared.edit.Edit.TheVariants as edit
use Rattle.map_tables.specs.declared.kind.Kind.{Kind}
use Rattle.map_tables.specs.declared.kind.Kind.TheVariants as kind
use Rattle.map_commands.specs.Errors.{code_of}
use Rattle.map_commands.specs.Places.{Named, places_fault, item, sector_item, vertex_places, sector_places, side_places, line_places, thing_places}
use Rattle.map_commands.specs.Rooms.{room_fault, room_words}
use Rattle.map_commands.specs.Spelling.{add_head, drop_fault, item_words, kind_word, line_kinds, set_head, side_kinds, vertex_words}
pub use Rattle.map_words.specs.Words.{parts}
use Rattle.map_commands.specs.declared.command.Command.{Command}
use Rattle.map_commands.specs.declared.command.Command.TheVariants.{Name, Edit, Room, Split}
use Rattle.map_commands.specs.declared.error.CommandError.TheVariants.{NotACommand}
use Rattle.map_commands.specs.declared.grammar.Head.{Head}
use Rattle.map_commands.specs.declared.grammar.Head.TheVariants as head
use Rattle.map_commands.specs.declared.layout.Layout.{Layout}
use Rattle.map_commands.specs.declared.layout.Layout.TheVariants.{Corners, Looking, Walls}

-- ---- First words

-- the first word of a command
abbrev pub head_word : Head → List ℕ
head_word head.Name = codes "name"
head_word head.Vertex = codes "vertex"
head_word head.Sector = codes "sector"
head_word head.Side = codes "side"
head_word head.Line = codes "line"
head_word head.Thing = codes "thing"
head_word head.MoveVertex = codes "move-vertex"
head_word head.SetSector = codes "set-sector"
head_word head.SetSide = codes "set-side"
head_word head.SetLine = codes "set-line"
head_word head.SetThing = codes "set-thing"
head_word head.Drop = codes "drop"
head_word head.Room = codes "room"
head_word head.Split = codes "split"

-- all first words
abbrev pub heads : List Head
heads =
    head.Name ∷ head.Vertex ∷ head.Sector ∷ head.Side ∷ head.Line ∷ head.Thing ∷ head.MoveVertex
    ∷ head.SetSector
    ∷ head.SetSide ∷ head.SetLine ∷ head.SetThing ∷ head.Drop ∷ head.Room ∷ head.Split ∷ []

-- the command that a first word begins
abbrev pub head_of : List ℕ → Option Head
head_of w = find (λ h. bytes_eq w (head_word h)) heads

-- ---- Commands

-- the first word of a command
abbrev pub head_for : Command → Head
head_for (Name n) = head.Name
head_for (Edit (edit.Add i)) = add_head i
head_for (Edit (edit.Set n i)) = set_head i
head_for (Edit (edit.Drop k i)) = head.Drop
head_for (Room r) = head.Room
head_for (Split s) = head.Split

-- the words behind the first
abbrev pub words_behind : Command → List (List ℕ)
words_behind (Name n) = name_text n ∷ []
words_behind (Edit (edit.Add i)) = item_words i
words_behind (Edit (edit.Set n i)) = decimal n ∷ item_words i
words_behind (Edit (edit.Drop k i)) = kind_word k ∷ decimal i ∷ []
words_behind (Room r) = room_words r
words_behind (Split s) = decimal s.line ∷ vertex_words s.at

-- the words of a command
abbrev pub words_of : Command → List (List ℕ)
words_of c = head_word (head_for c) ∷ words_behind c

-- the line that is the command: its words with one space between each two
abbrev pub spelling : Command → List ℕ
spelling c = join_with_byte 32 (words_of c)

-- ---- Lines

-- the fault of the words behind a first word
abbrev pub fault_behind : Head → List (List ℕ) → Option ℕ
fault_behind head.Name ws = places_fault (Named is_marker ∷ []) ws
fault_behind head.Vertex ws = places_fault vertex_places ws
fault_behind head.Sector ws = places_fault sector_places ws
fault_behind head.Side ws = places_fault side_places ws
fault_behind head.Line ws = places_fault line_places ws
fault_behind head.Thing ws = places_fault thing_places ws
fault_behind head.MoveVertex ws = places_fault (item ∷ vertex_places) ws
fault_behind head.SetSector ws = places_fault (sector_item ∷ sector_places) ws
fault_behind head.SetSide ws = places_fault (item ∷ side_places) ws
fault_behind head.SetLine ws = places_fault (item ∷ line_places) ws
fault_behind head.SetThing ws = places_fault (item ∷ thing_places) ws
fault_behind head.Drop ws = drop_fault ws
fault_behind head.Room ws = room_fault ws
fault_behind head.Split ws = places_fault (item ∷ vertex_places) ws

-- the fault behind a first word, if it is one: else NotACommand
abbrev pub head_fault : Option Head → List (List ℕ) → Option ℕ
head_fault None ws = Some (code_of NotACommand)
head_fault (Some h) ws = fault_behind h ws

-- the fault of the words of a line, of which the first says what stands behind it
abbrev pub command_fault : List (List ℕ) → Option ℕ
command_fault [] = Some (code_of NotACommand)
command_fault (w ∷ ws) = head_fault (head_of w) ws

-- the fault of a line, and none exactly where it is a command
abbrev pub fault_of : List ℕ → Option ℕ
fault_of line = if nat_lt 256 (length line) then Some (code_of NotACommand)
    else command_fault (parts line)

-- ---- What a script asks of the words

-- how many words stand between a first word and the places behind it, and how the places stand
abbrev pub head_layout : Head → Option (ℕ × Layout)
head_layout head.Vertex = Some (0, Corners)
head_layout head.Thing = Some (0, Looking)
head_layout head.Room = Some (0, Walls)
head_layout head.MoveVertex = Some (1, Corners)
head_layout head.Split = Some (1, Corners)
head_layout head.SetThing = Some (1, Looking)
head_layout h = None

-- a command that begins so puts vertices at places of its own
abbrev pub head_puts_vertex : Head → Bool
head_puts_vertex head.Vertex = true
head_puts_vertex head.Room = true
head_puts_vertex head.Split = true
head_puts_vertex h = false

-- the kind of the item whose number is answered to a command that begins so; a room's sector has
-- none, since a name that keeps its number also stands for the room's walls
abbrev pub head_answer : Head → Option Kind
head_answer head.Vertex = Some kind.Vertex
head_answer head.MoveVertex = Some kind.Vertex
head_answer head.Sector = Some kind.Sector
head_answer head.SetSector = Some kind.Sector
head_answer head.Side = Some kind.Side
head_answer head.SetSide = Some kind.Side
head_answer head.Line = Some kind.Line
head_answer head.SetLine = Some kind.Line
head_answer head.Split = Some kind.Line
head_answer head.Thing = Some kind.Thing
head_answer head.SetThing = Some kind.Thing
head_answer h = None

-- the kinds of the items whose numbers the words of a command are, word by word, the first one too;
-- a word behind these is none, and so is that of `drop`, whose kind is a word
abbrev pub head_numbers : Head → List (Option Kind)
head_numbers head.Side = None ∷ side_kinds
head_numbers head.Line = None ∷ line_kinds
head_numbers head.MoveVertex = None ∷ Some kind.Vertex ∷ []
head_numbers head.SetSector = None ∷ Some kind.Sector ∷ []
head_numbers head.SetSide = None ∷ Some kind.Side ∷ side_kinds
head_numbers head.SetLine = None ∷ Some kind.Line ∷ line_kinds
head_numbers head.SetThing = None ∷ Some kind.Thing ∷ []
head_numbers head.Split = None ∷ Some kind.Line ∷ []
head_numbers h = []
