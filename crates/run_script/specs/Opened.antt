-- The blocks that are open, and where a script has come (docs/COMMANDS.md, "Scripts").
use Rattle.std.specs.Prelude.{ℕ, ℤ, ◌-◌, ◌==◌, ◌||◌, if◌then◌else◌, List, [], ◌∷◌, ◌++◌, length, map, take, Option, Some, None}
use Rattle.map_tables.specs.Tables.{Tables}
use Rattle.map_script.specs.Firsts.{counts_of}
use Rattle.map_script.specs.Scopes.{Scope, with_block, with_turn_name}
use Rattle.map_script.specs.declared.firsts.ItemCounts.{ItemCounts}
use Rattle.map_script.specs.declared.names.Mark.{Mark}
use Rattle.map_script.specs.declared.placing.Placing.{Placing}
use Rattle.map_blocks.specs.declared.stop.OpenBlock.{OpenBlock}

-- what a loop counts: its name, the number of its turn and the last one
pub record Counting : Type 0 where
  pub name : List ℕ
  pub number : ℤ
  pub last : ℤ

-- the name of a line that draws a shape, and how many items the map had of each kind before
pub record Naming : Type 0 where
  pub name : List ℕ
  pub before : ItemCounts

-- the same of a line over a map, if it gives a name
abbrev pub line_naming : Tables → Option (List ℕ) → Option Naming
line_naming m None = None
line_naming m (Some name) = Some (record { name = name; before = counts_of m })

-- an open block: the place of the line that opened it, what it counts if it is a loop's, what names
-- what it draws if it is a shape's, its lines and those behind it in the block around it, and what is
-- as before when it ends
pub record Turn : Type 0 where
  pub place : ℕ
  pub count : Option Counting
  pub naming : Option Naming
  pub body : List (ℕ × (ℕ × List ℕ))
  pub behind : List (ℕ × (ℕ × List ℕ))
  pub before : Mark

-- where a script has come: the names that hold and the placing, the lines to come in the innermost
-- block, and the open blocks, the outermost first
pub record Position : Type 0 where
  pub names : Scope
  pub lines : List (ℕ × (ℕ × List ℕ))
  pub turns : List Turn

-- the names in a turn: that of a loop stands for its number
abbrev pub counted_names : Scope → Option Counting → Scope
counted_names names None = names
counted_names names (Some c) = with_turn_name names c.name c.number

-- a turn has begun, which places lines so: those of its block are to come
abbrev pub in_turn : Scope → Placing → List Turn → Turn → Position
in_turn names placing turns t = record {
  names = counted_names (with_block names placing) t.count;
  lines = t.body;
  turns = turns ++ t ∷ [];
}

-- ---- The blocks that are told of a refused line

-- the number of a turn, if a loop counts it
abbrev pub turn_number : Option Counting → Option ℤ
turn_number None = None
turn_number (Some c) = Some c.number

-- an open block as it is told: by the place of its line, and by the number of its turn
abbrev pub told_turn : Turn → OpenBlock
told_turn t = record { place = t.place; number = turn_number t.count }

-- the turns around what comes next: the first of these lines, or else the end of the innermost turn,
-- which that turn isn't around
abbrev pub turns_around : List (ℕ × (ℕ × List ℕ)) → List Turn → List Turn
turns_around [] turns = take (length turns - 1) turns
turns_around (l ∷ ls) turns = turns

-- the blocks that are told where a script stopped with a code before these lines of the innermost of
-- these turns: none if the disk failed or memory ran out
abbrev pub open_blocks : ℕ → List (ℕ × (ℕ × List ℕ)) → List Turn → List OpenBlock
open_blocks code lines turns =
    if (code == 30) || (code == 31) then [] else map told_turn (turns_around lines turns)
