-- The words of items and tables in commands, and which of them are numbers of items.
use Rattle.std.specs.Prelude.{ℕ, ◌==◌, if◌then◌else◌, List, [], ◌∷◌, Option, Some, None, find, pos, bytes_eq, codes, decimal}
use Rattle.std.specs.Fmt.{signed_decimal}
use Rattle.lump_records.specs.declared.records.Thing.{Thing}
use Rattle.lump_records.specs.declared.records.Line.{Line}
use Rattle.lump_records.specs.declared.records.Side.{Side}
use Rattle.lump_records.specs.declared.records.Vertex.{Vertex}
use Rattle.lump_records.specs.declared.records.Sector.{Sector}
use Rattle.map_tables.specs.declared.kind.Kind.{Kind}
use Rattle.map_tables.specs.declared.kind.Kind.TheVariants as kind
use Rattle.lump_records.specs.Names.{name_text}
use Rattle.lump_records.specs.Sides.{no_side}
use Rattle.map_tables.specs.Ranges.{last_of}
use Rattle.map_commands.specs.Errors.{code_of}
use Rattle.map_commands.specs.Places.{Number, places_fault}
use Rattle.map_commands.specs.declared.error.CommandError.TheVariants.{NotACommand}
use Rattle.map_commands.specs.declared.grammar.Head.{Head}
use Rattle.map_commands.specs.declared.grammar.Head.TheVariants as head
use Rattle.map_tables.specs.declared.edit.Item.{Item}
use Rattle.map_tables.specs.declared.edit.Item.TheVariants as item

-- the word of a table, behind `drop`
abbrev pub kind_word : Kind → List ℕ
kind_word kind.Vertex = codes "vertex"
kind_word kind.Sector = codes "sector"
kind_word kind.Side = codes "side"
kind_word kind.Line = codes "line"
kind_word kind.Thing = codes "thing"

-- all tables
abbrev pub kinds : List Kind
kinds = kind.Vertex ∷ kind.Sector ∷ kind.Side ∷ kind.Line ∷ kind.Thing ∷ []

-- the table that a word names
abbrev pub kind_of : List ℕ → Option Kind
kind_of w = find (λ k. bytes_eq w (kind_word k)) kinds

-- the fault of what stands behind the word of a table: NotACommand where it is none
abbrev pub kind_fault : Option Kind → List (List ℕ) → Option ℕ
kind_fault None ws = Some (code_of NotACommand)
kind_fault (Some k) ws = places_fault (Number (pos 0) (pos (last_of k)) ∷ []) ws

-- KIND I
abbrev pub drop_fault : List (List ℕ) → Option ℕ
drop_fault [] = Some (code_of NotACommand)
drop_fault (k ∷ ws) = kind_fault (kind_of k) ws

-- X Y
abbrev pub vertex_words : Vertex → List (List ℕ)
vertex_words v = signed_decimal v.x ∷ signed_decimal v.y ∷ []

-- F C FN CN LIGHT SPECIAL TAG
abbrev pub sector_words : Sector → List (List ℕ)
sector_words s =
    signed_decimal s.floor ∷ signed_decimal s.ceiling ∷ name_text s.floor_name
    ∷ name_text s.ceiling_name
    ∷ signed_decimal s.light ∷ signed_decimal s.special ∷ signed_decimal s.tag ∷ []

-- XO YO UP LOW MID SECTOR
abbrev pub side_words : Side → List (List ℕ)
side_words s =
    signed_decimal s.x_offset ∷ signed_decimal s.y_offset ∷ name_text s.upper ∷ name_text s.lower
    ∷ name_text s.middle
    ∷ decimal s.sector ∷ []

-- the number of a left side, and `-` for none
abbrev pub left_word : ℕ → List ℕ
left_word n = if n == no_side then codes "-" else decimal n

-- V1 V2 FLAGS SPECIAL TAG RIGHT LEFT
abbrev pub line_words : Line → List (List ℕ)
line_words l =
    decimal l.v1 ∷ decimal l.v2 ∷ decimal l.flags ∷ decimal l.special ∷ decimal l.tag
    ∷ decimal l.right
    ∷ left_word l.left ∷ []

-- X Y ANGLE TYPE OPTIONS
abbrev pub thing_words : Thing → List (List ℕ)
thing_words t =
    signed_decimal t.x ∷ signed_decimal t.y ∷ signed_decimal t.angle ∷ signed_decimal t.kind
    ∷ signed_decimal t.options
    ∷ []

-- the words of an item
abbrev pub item_words : Item → List (List ℕ)
item_words (item.Vertex v) = vertex_words v
item_words (item.Sector s) = sector_words s
item_words (item.Side s) = side_words s
item_words (item.Line l) = line_words l
item_words (item.Thing t) = thing_words t

-- the first word of the command that adds an item
abbrev pub add_head : Item → Head
add_head (item.Vertex v) = head.Vertex
add_head (item.Sector s) = head.Sector
add_head (item.Side s) = head.Side
add_head (item.Line l) = head.Line
add_head (item.Thing t) = head.Thing

-- the first word of the command that changes one
abbrev pub set_head : Item → Head
set_head (item.Vertex v) = head.MoveVertex
set_head (item.Sector s) = head.SetSector
set_head (item.Side s) = head.SetSide
set_head (item.Line l) = head.SetLine
set_head (item.Thing t) = head.SetThing

-- ---- Numbers of items

-- XO YO UP LOW MID SECTOR
abbrev pub side_kinds : List (Option Kind)
side_kinds = None ∷ None ∷ None ∷ None ∷ None ∷ Some kind.Sector ∷ []

-- V1 V2 FLAGS SPECIAL TAG RIGHT LEFT
abbrev pub line_kinds : List (Option Kind)
line_kinds =
    Some kind.Vertex ∷ Some kind.Vertex ∷ None ∷ None ∷ None ∷ Some kind.Side ∷ Some kind.Side ∷ []
