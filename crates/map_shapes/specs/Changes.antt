-- What `change` makes of an item: the words of the item, with the VALUE of each NAME in its place.
use Rattle.std.specs.Prelude.{ℕ, Bool, true, false, ◌+◌, ◌&&◌, ◌==◌, is_none, if◌then◌else◌, List, [], ◌∷◌, take, drop, position, pos, Option, Some, None, option_map, unwrap_or, bytes_eq, codes, decimal, slice_get}
use Rattle.std.specs.List.{join_with_byte, list_any}
use Rattle.map_commands.specs.Errors.{code_of}
use Rattle.map_commands.specs.Spelling.{kind_of}
use Rattle.map_commands.specs.Places.{Number, place_fault, prior_fault}
use Rattle.map_commands.specs.ProjectGrammar.{project_fault_of}
use Rattle.map_commands.specs.Grammar.{head_word}
use Rattle.map_words.specs.Words.{parts}
use Rattle.map_commands.specs.declared.error.CommandError.{CommandError}
use Rattle.map_commands.specs.declared.error.CommandError.TheVariants.{NotACommand, NoVertex, NoSector, NoSide, NoLine, NoThing}
use Rattle.map_commands.specs.declared.grammar.Head.{Head}
use Rattle.map_commands.specs.declared.grammar.Head.TheVariants as head
use Rattle.map_tables.specs.Ranges.{last_of}
use Rattle.map_tables.specs.Tables.{Tables}
use Rattle.map_tables.specs.declared.edit.Item.{Item}
use Rattle.map_tables.specs.declared.edit.Item.TheVariants as item
use Rattle.map_tables.specs.declared.kind.Kind.{Kind}
use Rattle.map_tables.specs.declared.kind.Kind.TheVariants as kind

-- the first word of the command that changes an item
abbrev pub setting : Kind → Head
setting kind.Vertex = head.MoveVertex
setting kind.Sector = head.SetSector
setting kind.Side = head.SetSide
setting kind.Line = head.SetLine
setting kind.Thing = head.SetThing

-- the names of an item's words, in their order
abbrev pub field_text : Kind → List ℕ
field_text kind.Vertex = codes "X Y"
field_text kind.Sector = codes "F C FN CN LIGHT SPECIAL TAG"
field_text kind.Side = codes "XO YO UP LOW MID SECTOR"
field_text kind.Line = codes "V1 V2 FLAGS SPECIAL TAG RIGHT LEFT"
field_text kind.Thing = codes "X Y ANGLE TYPE OPTIONS"

-- words of an item of which each is in its range
abbrev pub sample_text : Kind → List ℕ
sample_text kind.Vertex = codes "0 0"
sample_text kind.Sector = codes "0 0 - - 0 0 0"
sample_text kind.Side = codes "0 0 - - - 0"
sample_text kind.Line = codes "0 0 0 0 0 0 -"
sample_text kind.Thing = codes "0 0 0 0 0"

-- ---- NAME=VALUE

-- a word cut at the index of its `=`
abbrev pub word_cut_at : List ℕ → Option ℕ → Option (List ℕ × List ℕ)
word_cut_at w None = None
word_cut_at w (Some i) = Some (take i w, drop (i + 1) w)

-- NAME and VALUE of NAME=VALUE
abbrev pub pair_of : List ℕ → Option (List ℕ × List ℕ)
pair_of w = word_cut_at w (position (λ b. b == 61) w)

-- the VALUE, if the NAME is this one
abbrev pub value_if : List ℕ → Option (List ℕ × List ℕ) → Option (List ℕ)
value_if name None = None
value_if name (Some pair) = if bytes_eq pair.0 name then Some pair.1 else None

-- the first, or else the other
abbrev pub value_or : Option (List ℕ) → Option (List ℕ) → Option (List ℕ)
value_or (Some value) other = Some value
value_or None other = other

-- the VALUE of a NAME among some words
abbrev pub value_in : List (List ℕ) → List ℕ → Option (List ℕ)
value_in [] name = None
value_in (w ∷ ws) name = value_or (value_if name (pair_of w)) (value_in ws name)

-- whether a NAME is one of these, and no later word has it too
abbrev pub is_new_field : List (List ℕ) → List (List ℕ) → Option (List ℕ × List ℕ) → Bool
is_new_field names later None = false
is_new_field names later (Some pair) =
    list_any (λ name. bytes_eq pair.0 name) names && is_none (value_in later pair.0)

-- whether each word is NAME=VALUE with one of these names, none twice
abbrev pub are_fields : List (List ℕ) → List (List ℕ) → Bool
are_fields names [] = true
are_fields names (w ∷ ws) = is_new_field names ws (pair_of w) && are_fields names ws

-- ---- The command

-- an item's words, with the VALUE of each NAME in place of the word that has the name
abbrev pub with_values : List (List ℕ) → List (List ℕ) → List (List ℕ) → List (List ℕ)
with_values fields [] words = []
with_values fields (name ∷ names) [] = []
with_values fields (name ∷ names) (w ∷ ws) =
    unwrap_or (value_in fields name) w ∷ with_values fields names ws

-- the line that gives the item with this number these words, but for the VALUEs
abbrev pub changed_line : Kind → ℕ → List (List ℕ) → List (List ℕ) → List ℕ
changed_line k n fields words =
    join_with_byte 32
    (head_word (setting k) ∷ decimal n ∷ with_values fields (parts (field_text k)) words)

-- the item of a map with this number
abbrev pub item_at : Tables → Kind → ℕ → Option Item
item_at m kind.Vertex n = option_map item.Vertex (slice_get m.vertices n)
item_at m kind.Sector n = option_map item.Sector (slice_get m.sectors n)
item_at m kind.Side n = option_map item.Side (slice_get m.sides n)
item_at m kind.Line n = option_map item.Line (slice_get m.lines n)
item_at m kind.Thing n = option_map item.Thing (slice_get m.things n)

-- the number of the refusal where a map has no such item
abbrev pub missing : Kind → CommandError
missing kind.Vertex = NoVertex
missing kind.Sector = NoSector
missing kind.Side = NoSide
missing kind.Line = NoLine
missing kind.Thing = NoThing

-- ---- The fault of the words

-- the fault of the VALUEs: that of the command for an item whose words are in range
abbrev pub values_fault : Kind → List (List ℕ) → Option ℕ
values_fault k fields = project_fault_of (changed_line k 0 fields (parts (sample_text k)))

-- the fault of N NAME=VALUE ..: NotACommand where the NAMEs aren't fields, or there is none
abbrev pub fields_fault : Kind → List (List ℕ) → Option ℕ
fields_fault k (n ∷ w ∷ ws) =
    if are_fields (parts (field_text k)) (w ∷ ws)
    then prior_fault (place_fault (Number (pos 0) (pos (last_of k))) n) (values_fault k (w ∷ ws))
    else Some (code_of NotACommand)
fields_fault k ws = Some (code_of NotACommand)

-- the same where the word of a table is to stand before it
abbrev pub fields_fault_of : Option Kind → List (List ℕ) → Option ℕ
fields_fault_of None ws = Some (code_of NotACommand)
fields_fault_of (Some k) ws = fields_fault k ws

-- the fault of KIND N NAME=VALUE ..
abbrev pub change_fault : List (List ℕ) → Option ℕ
change_fault [] = Some (code_of NotACommand)
change_fault (k ∷ ws) = fields_fault_of (kind_of k) ws
