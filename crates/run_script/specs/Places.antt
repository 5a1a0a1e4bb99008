-- How far a script has been read, by the places of its lines.
use Rattle.std.specs.Prelude.{◌≡◌, ◌⊎◌, ℕ, ◌+◌, ◌<◌, ◌≤◌, ◌^◌, All, Bool, List, [], ◌∷◌, ◌++◌, map, Option, Some, None, Result, Ok, Err}
use Rattle.map_script.specs.Scopes.{Scope, with_block}
use Rattle.map_script.specs.declared.names.Mark.{Mark}
use Rattle.map_script.specs.declared.placing.Placing.{Placing}
use Rattle.map_blocks.specs.Blocks.{lines_between}
use Rattle.map_blocks.specs.Defined.{Shape}
use Rattle.run_script.specs.Drawn.{Advances, Progress}
use Rattle.run_script.specs.Lines.{sketch_of}
use Rattle.run_script.specs.Opened as spec
use Rattle.run_script.specs.Opened.{told_turn, turn_number, turns_around}
use Rattle.run_script.specs.Turns.{Counting, Position, Turn, counted_names}
use Rattle.run_canvas.specs.declared.canvas.Canvas.{Ghosts}
use Rattle.map_blocks.specs.declared.stop.OpenBlock.{OpenBlock}
use Rattle.run_canvas.specs.declared.error.ScriptError.{ScriptError}
use Rattle.run_canvas.specs.declared.error.ScriptError.TheVariants.{OutOfMemory, WriterFailed}
use Rattle.run_script.specs.declared.reading.Block.{Block}
use Rattle.run_script.specs.declared.reading.Count.{Count}
use Rattle.run_script.specs.declared.reading.Naming.{Naming}
use Rattle.run_script.specs.declared.reading.Reading.{Reading}

-- what a loop counts, if it is one
abbrev pub counting_of : Option Count → Option Counting
counting_of None = None
counting_of (Some c) =
    Some (record { name = c.name.items; number = c.number; last = c.last })

-- what names what a shape draws, if anything does
abbrev pub naming_in : Option Naming → Option spec.Naming
naming_in None = None
naming_in (Some n) = Some (record { name = n.name.items; before = n.before })

-- a block in its turn, among these lines
abbrev pub turn_of : List (ℕ × (ℕ × List ℕ)) → Block → Turn
turn_of lines b = record {
  place = b.place;
  count = counting_of b.count;
  naming = naming_in b.naming;
  body = lines_between lines b.from b.end;
  behind = lines_between lines b.next b.until;
  before = b.before;
}

-- the turns of blocks
abbrev pub turns_of : List (ℕ × (ℕ × List ℕ)) → List Block → List Turn
turns_of lines blocks = map (turn_of lines) blocks

-- where these lines have been read to
abbrev pub position_of : List (ℕ × (ℕ × List ℕ)) → Scope → Reading → Position
position_of lines names r = record {
  names = names;
  lines = lines_between lines r.place r.until;
  turns = turns_of lines r.blocks.items;
}

-- the same, with what it is drawn onto and what the writer holds
abbrev pub progress_of : {S : Type 0} → List (ℕ × (ℕ × List ℕ)) → S → Scope → Option (List ℕ)
    → Reading → Progress S
progress_of lines canvas names written r = record {
  sketch = sketch_of canvas names written;
  lines = lines_between lines r.place r.until;
  turns = turns_of lines r.blocks.items;
}

-- a block as it is told
abbrev pub told_block : Block → OpenBlock
told_block b = record { place = b.place; number = turn_number (counting_of b.count) }

-- each open block is told
abbrev pub AreBlocksTold : Reading → Type 0
AreBlocksTold r = r.told.items ≡ map told_block r.blocks.items

-- the blocks around what comes next, as they are told
abbrev pub told_around : List (ℕ × (ℕ × List ℕ)) → Reading → List OpenBlock
told_around lines r = map told_turn
    (turns_around (lines_between lines r.place r.until) (turns_of lines r.blocks.items))

-- behind a refusal with a code these are told, unless it is 31
abbrev pub IsToldBehind : ℕ → List OpenBlock → Reading → Type 0
IsToldBehind code blocks r = (code ≡ 31) ⊎ (r.told.items ≡ blocks)

-- a block stands within so many lines
pub record IsBlockWithin (count : ℕ) (b : Block) : Type 0 where
  pub place : b.place < count
  pub end : b.end ≤ count
  pub until : b.until ≤ count

-- what is read does, each block is told, and the place behind the last line is a number too
pub record IsWithinLines (count : ℕ) (r : Reading) : Type 0 where
  pub few : count < 2 ^ 63
  pub until : r.until ≤ count
  pub blocks : All (IsBlockWithin count) r.blocks.items
  pub told : AreBlocksTold r

-- a block that places lines so was entered at its turn, of these names, within these
pub record Enters (scope : Scope) (placing : Placing) (outer : List Block) (b : Block)
    (named : Scope) (r : Reading) : Type 0 where
  pub names : named ≡ counted_names (with_block scope placing) (counting_of b.count)
  pub place : r.place ≡ b.from
  pub until : r.until ≡ b.end
  pub blocks : r.blocks.items ≡ outer ++ b ∷ []

-- the block that the next line opens, its `end` at this place, what is before it so marked
pub record IsNextBlock (close : ℕ) (mark : Mark) (counting : Option Counting) (r : Reading)
    (b : Block) : Type 0 where
  pub place : b.place ≡ r.place
  pub from : b.from ≡ r.place + 1
  pub end : b.end ≡ close
  pub next : b.next ≡ close + 1
  pub until : b.until ≡ r.until
  pub before : b.before ≡ mark
  pub count : counting_of b.count ≡ counting
  pub naming : naming_in b.naming ≡ None

-- so many lines are to be read, and no block is open
pub record IsFirstReading (count : ℕ) (r : Reading) : Type 0 where
  pub place : r.place ≡ 0
  pub until : r.until ≡ count
  pub blocks : r.blocks.items ≡ []
  pub told : r.told.items ≡ []

-- how a call ended that should draw one line or end one turn: it was done, or refused with a code; or
-- memory ran out or the writer failed, and it was done but for what was to be said, or nothing was
-- drawn
abbrev pub AdvancesTo : {S : Type 0} → Ghosts S → Bool → List Shape → Progress S
    → Result (Option ℕ) ScriptError → Progress S → Type 0
AdvancesTo facts verbose shapes old (Ok refusal) new = Advances facts verbose shapes old refusal new
AdvancesTo {S = S} facts verbose shapes old (Err error) new =
    ((error ≡ OutOfMemory) ⊎ (error ≡ WriterFailed))
    × (facts.settles old.sketch.canvas new.sketch.canvas ⊎ ((last : Progress S)
    × Advances facts verbose shapes old None last × (new.sketch.canvas ≡ last.sketch.canvas)))
