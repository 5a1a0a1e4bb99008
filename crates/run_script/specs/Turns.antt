-- How blocks begin and end: which lines come next, which names hold and how lines are placed
-- (docs/COMMANDS.md, "Scripts").
use Rattle.std.specs.Prelude.{◌≡◌, ◌⊎◌, ℕ, pos, ◌+ℤ◌, int_le, int_lt, if◌then◌else◌, List, [], ◌∷◌, ◌++◌, Option, Some, None, Result, Ok, Err, MatchResult}
use Rattle.map_tables.specs.Tables.{Tables}
use Rattle.map_script.specs.Ats.{at_placing, at_words}
use Rattle.map_script.specs.Defines.{define_fault, define_words}
use Rattle.map_script.specs.Errors.{code_of}
use Rattle.map_script.specs.Loops.{loop_name, loop_range, loop_words}
use Rattle.map_script.specs.Firsts.{firsts_since}
use Rattle.map_script.specs.Meant.{numbered}
use Rattle.map_script.specs.Referents.{of_kind}
use Rattle.map_script.specs.Scopes.{Scope, mark_of, released, with_given}
use Rattle.map_script.specs.declared.error.DrawError.{DrawError}
use Rattle.map_script.specs.declared.error.DrawError.TheVariants.{NothingAdded}
use Rattle.map_script.specs.declared.looping.Range.{Range}
use Rattle.map_script.specs.declared.placing.Placing.{Placing}
use Rattle.map_script.specs.declared.referent.Answer.{Answer}
use Rattle.map_blocks.specs.Blocks.{behind_block, block_lines}
use Rattle.map_blocks.specs.Defined.{Shape, shape_called}
pub use Rattle.run_script.specs.Calls.{after_define, after_drawing, after_shape, in_shape, turn_of_shape}
pub use Rattle.run_script.specs.Opened.{Counting, Naming, Position, Turn, counted_names, in_turn, line_naming}

-- ---- The beginning of a block

-- the block of a line at a place, before these lines
abbrev pub turn_at : Scope → ℕ → List (ℕ × (ℕ × List ℕ)) → Option Counting → Turn
turn_at names place lines count = record {
  place = place;
  count = count;
  naming = None;
  body = block_lines lines;
  behind = behind_block lines;
  before = mark_of names;
}

-- NAME FROM TO in its first turn
abbrev pub first_count : List (List ℕ) → Range → Counting
first_count words range = record {
  name = loop_name words;
  number = range.from;
  last = range.to;
}

-- behind the line of a loop, before these lines: in its first turn, or behind its block if it has
-- none
abbrev pub after_loop : Scope → ℕ → List (ℕ × (ℕ × List ℕ)) → List Turn → List (List ℕ)
    → Result Range DrawError → Result Position DrawError
after_loop names place lines turns words (Err e) = Err e
after_loop names place lines turns words (Ok range) =
    if int_le range.from range.to
    then Ok (in_turn names names.placing turns
    (turn_at names place lines (Some (first_count words range))))
    else Ok (record { names = names; lines = behind_block lines; turns = turns })

-- behind the line of an `at`, before these lines: in its block
abbrev pub after_at : Scope → ℕ → List (ℕ × (ℕ × List ℕ)) → List Turn → Result Placing DrawError
    → Result Position DrawError
after_at names place lines turns (Err e) = Err e
after_at names place lines turns (Ok placing) =
    Ok (in_turn names placing turns (turn_at names place lines None))

-- behind a line by what stands behind its `define`, or else by the shape that it draws
abbrev pub after_naming : Scope → Tables → ℕ → List (ℕ × (ℕ × List ℕ)) → List Turn
    → List (List ℕ) → Option (List (List ℕ)) → Option Shape → Option (Result Position DrawError)
after_naming names m place lines turns words (Some defined) shape =
    Some (after_define names lines turns (define_fault defined))
after_naming names m place lines turns words None shape =
    after_shape names m place lines turns words shape

-- behind the line of a block, by what stands behind its `for`, or else behind its `at`, or else in
-- another way
abbrev pub after_words : Scope → Tables → ℕ → List (ℕ × (ℕ × List ℕ)) → List Turn
    → Option (List (List ℕ)) → Option (List (List ℕ)) → Option (Result Position DrawError)
    → Option (Result Position DrawError)
after_words names m place lines turns (Some words) at other =
    Some (after_loop names place lines turns words (loop_range names m words))
after_words names m place lines turns None (Some words) other =
    Some (after_at names place lines turns (at_placing names m words))
after_words names m place lines turns None None other = other

-- where a line at a place leads that opens a block before these lines, or what is wrong with it; none
-- for a line that opens no block
abbrev pub after_opening : Scope → Tables → List Shape → ℕ → List (ℕ × (ℕ × List ℕ)) → List Turn
    → List (List ℕ) → Option (Result Position DrawError)
after_opening names m shapes place lines turns words =
    after_words names m place lines turns (loop_words words) (at_words words)
    (after_naming names m place lines turns words (define_words words)
    (shape_called shapes place words))

-- the line of a block was met, with these names, or refused with this code: for what is wrong with
-- it, or for lack of memory
abbrev pub OpensBlock : Result Position DrawError → Scope → Option ℕ → Position → Type 0
OpensBlock outcome names refusal new =
    MatchResult outcome (λ at. (refusal ≡ None) × (new ≡ at))
    (λ fault. (refusal ≡ Some (code_of fault)) × (new.names ≡ names))
    ⊎ (refusal ≡ Some 31)

-- ---- Its end

-- what is counted next, if there is a next turn
abbrev pub next_count : Option Counting → Option Counting
next_count None = None
next_count (Some c) =
    if int_lt c.number c.last
    then Some (record { name = c.name; number = c.number +ℤ pos 1; last = c.last }) else None

-- a block whose turn has ended: in the next turn, or behind the block
abbrev pub after_count : Scope → List Turn → Turn → Option Counting → Position
after_count names turns t None = record { names = names; lines = t.behind; turns = turns }
after_count names turns t (Some c) = in_turn names names.placing turns (record {
  place = t.place;
  count = Some c;
  naming = t.naming;
  body = t.body;
  behind = t.behind;
  before = t.before;
})

-- a name stands for the last answer of the shape that it names, a number of an item of the answer's
-- kind, and for the first items that the map has gained; a shape that answered nothing can't be named
abbrev pub named_by : Scope → Tables → Naming → Option Answer → Result Scope DrawError
named_by names m naming None = Err NothingAdded
named_by names m naming (Some answer) = Ok (with_given names naming.name
    (numbered (record { answer = answer.number; firsts = firsts_since naming.before m })
    (of_kind answer.kind)))

-- the same, if the shape is named
abbrev pub with_naming : Scope → Tables → Option Answer → Option Naming → Result Scope DrawError
with_naming names m answered None = Ok names
with_naming names m answered (Some naming) = named_by names m naming answered

-- behind a turn with these names, or what is wrong with its name
abbrev pub after_names : List Turn → Turn → Result Scope DrawError → Result Position DrawError
after_names turns t (Err e) = Err e
after_names turns t (Ok names) = Ok (after_count names turns t (next_count t.count))

-- behind a turn, without the names that it held and without its placing
abbrev pub after_turn : Scope → Tables → List Turn → Turn → Result Position DrawError
after_turn names m turns t =
    after_names turns t (with_naming (released names t.before) m names.answered t.naming)

-- the innermost turn ended, or its shape can't be named, or memory ran out
abbrev pub EndsTurn : Scope → Tables → List Turn → Option ℕ → Position → Type 0
EndsTurn names m turns refusal new =
    (outer : List Turn) × (turn : Turn) × (turns ≡ outer ++ turn ∷ [])
    × (MatchResult (after_turn names m outer turn) (λ at. (refusal ≡ None) × (new ≡ at))
    (λ fault. refusal ≡ Some (code_of fault))
    ⊎ (refusal ≡ Some 31))
