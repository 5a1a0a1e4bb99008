-- Of what a number is the number: of an item of a kind, or of a room, whose walls have names; and the
-- kinds of the numbers in each command (docs/COMMANDS.md, "Scripts").
use Rattle.std.specs.Prelude.{ℕ, ◌||◌, if◌then◌else◌, List, [], ◌∷◌, drop, Option, Some, None, bytes_eq, codes}
use Rattle.map_tables.specs.declared.kind.Kind.{Kind}
use Rattle.map_tables.specs.declared.kind.Kind.TheVariants as kind
use Rattle.map_commands.specs.Grammar.{head_answer, head_numbers, head_of}
use Rattle.map_commands.specs.Spelling.{kind_of}
use Rattle.map_commands.specs.declared.grammar.Head.{Head}
use Rattle.map_script.specs.Words.{first_word}
use Rattle.map_script.specs.declared.referent.Referent.{Referent}
use Rattle.map_script.specs.declared.referent.Referent.TheVariants.{Nothing, Item, Room}

-- the kind of the item, if it is known
abbrev pub kind_referred : Referent → Option Kind
kind_referred Nothing = None
kind_referred (Item k) = Some k
kind_referred Room = Some kind.Sector

-- an item of a kind, if there is one
abbrev pub of_kind : Option Kind → Referent
of_kind None = Nothing
of_kind (Some k) = Item k

-- ---- Commands

-- the kind of the item whose number a shape answers, by its first word
abbrev pub shape_answer : List ℕ → Option Kind
shape_answer w =
    if bytes_eq w (codes "pillar") then Some kind.Line
    else (if bytes_eq w (codes "area") || bytes_eq w (codes "door") then Some kind.Sector
    else None)

-- the same of a command, if its first word is known, and else of a shape
abbrev pub answer_at : Option Head → List ℕ → Option Kind
answer_at (Some h) w = head_answer h
answer_at None w = shape_answer w

-- the same of a line, by its first word
abbrev pub command_answer : List ℕ → Option Kind
command_answer w = answer_at (head_of w) w

-- the kind of the item whose number a command of these two first words answers
abbrev pub answered_kind : List ℕ → List ℕ → Option Kind
answered_kind first second =
    if bytes_eq first (codes "change") then kind_of second else command_answer first

-- of what the number is that a line of these words answers
abbrev pub referent_of : List (List ℕ) → Referent
referent_of ws =
    if bytes_eq (first_word ws) (codes "room") then Room
    else of_kind (answered_kind (first_word ws) (first_word (drop 1 ws)))

-- the kinds of the items whose numbers the words of a command are, word by word, the first one too; a
-- word behind these is none; of the shapes `door` has the number of a sector
abbrev pub numbers_at : Option Head → List ℕ → List (Option Kind)
numbers_at (Some h) w = head_numbers h
numbers_at None w = if bytes_eq w (codes "door") then None ∷ Some kind.Sector ∷ [] else []

-- the same of a line, by its first word
abbrev pub command_places : List ℕ → List (Option Kind)
command_places w = numbers_at (head_of w) w

-- the same of a command of these two first words: of one with a KIND, the third is a number of that
abbrev pub wanted_by : List ℕ → List ℕ → List (Option Kind)
wanted_by first second =
    if bytes_eq first (codes "drop") || bytes_eq first (codes "change")
    then None ∷ None ∷ kind_of second ∷ [] else command_places first

-- the same of a line of these words
abbrev pub wanted_in : List (List ℕ) → List (Option Kind)
wanted_in ws = wanted_by (first_word ws) (first_word (drop 1 ws))

-- ---- Walls

-- which of a room's four lines is the wall that a word names: they go from the lower left corner to
-- the upper left, the upper right and the lower right one
abbrev pub wall_place : List ℕ → Option ℕ
wall_place w =
    if bytes_eq w (codes "west") then Some 0
    else (if bytes_eq w (codes "north") then Some 1
    else (if bytes_eq w (codes "east") then Some 2
    else (if bytes_eq w (codes "south") then Some 3 else None)))
