-- Which names hold and where lines are placed: the names of the script, or of the innermost shape that
-- is being drawn, those of the blocks that are open in front of the others; the names outside of the
-- shape; the placing of the open blocks; and what was answered last.
use Rattle.std.specs.Prelude.{ℕ, ℤ, ◌+◌, ◌-◌, ◌++◌, Bool, true, false, if◌then◌else◌, nat_lt, List, [], ◌∷◌, drop, length, Option, Some, None}
use Rattle.std.specs.Fmt.{signed_decimal}
use Rattle.map_script.specs.Layers.{Layer, layered}
use Rattle.map_script.specs.Meant.{Meant, with_meaning, worded}
use Rattle.map_script.specs.Placings.{unplaced}
use Rattle.map_script.specs.declared.names.Mark.{Mark}
use Rattle.map_script.specs.declared.placing.Placing.{Placing}
use Rattle.map_script.specs.declared.referent.Answer.{Answer}

-- the names of the script or the shape with what they stand for; how many of them, the first ones,
-- blocks hold; the names outside of the shape, the innermost first; where the open blocks place a
-- line; whether a block is open; and what the script or the shape answered last
pub record Scope : Type 0 where
  pub names : List (List ℕ × Meant)
  pub held : ℕ
  pub outer : List Layer
  pub placing : Placing
  pub is_within : Bool
  pub answered : Option Answer

-- before the first line of a script
abbrev pub first_scope : Scope
first_scope = record {
  names = [];
  held = 0;
  outer = [];
  placing = unplaced;
  is_within = false;
  answered = None;
}

-- the names that a line sees, those of outside behind the shape's own
abbrev pub visible : Scope → List (List ℕ × Meant)
visible s = s.names ++ layered s.outer

-- a name of the script or the shape now stands for this, wherever it holds: a block's or its own, and
-- a new one is its own
abbrev pub with_given : Scope → List ℕ → Meant → Scope
with_given s name now = record {
  names = with_meaning s.names name now;
  held = s.held;
  outer = s.outer;
  placing = s.placing;
  is_within = s.is_within;
  answered = s.answered;
}

-- the open block holds a name, which stands for this
abbrev pub with_held : Scope → List ℕ → Meant → Scope
with_held s name now = record {
  names = (name, now) ∷ s.names;
  held = s.held + 1;
  outer = s.outer;
  placing = s.placing;
  is_within = s.is_within;
  answered = s.answered;
}

-- a `let` gave a name: the open block's, or the script's where none is open
abbrev pub with_let : Scope → List ℕ → Meant → Scope
with_let s name now = if s.is_within then with_held s name now else with_given s name now

-- the name of a loop stands for the number of a turn
abbrev pub with_turn_name : Scope → List ℕ → ℤ → Scope
with_turn_name s name number = with_held s name (worded (signed_decimal number))

-- a block has been opened, which places lines so
abbrev pub with_block : Scope → Placing → Scope
with_block s placing = record {
  names = s.names;
  held = s.held;
  outer = s.outer;
  placing = placing;
  is_within = true;
  answered = s.answered;
}

-- the drawing of a shape has begun, which has no name of its own yet and has answered nothing
abbrev pub with_shape : Scope → Scope
with_shape s = record {
  names = [];
  held = 0;
  outer = record { names = s.names; held = s.held } ∷ s.outer;
  placing = s.placing;
  is_within = s.is_within;
  answered = None;
}

-- a command answered a number
abbrev pub with_answer : Scope → Answer → Scope
with_answer s answer = record {
  names = s.names;
  held = s.held;
  outer = s.outer;
  placing = s.placing;
  is_within = s.is_within;
  answered = Some answer;
}

-- ---- The end of a block

-- what a block leaves as it was when it ends: how many names are held, how many shapes are being
-- drawn, the placing, and whether a block is open; and what was answered before it
abbrev pub mark_of : Scope → Mark
mark_of s = record {
  held = s.held;
  shapes = length s.outer;
  placing = s.placing;
  is_within = s.is_within;
  answered = s.answered;
}

-- the names of these layers, the first of which is the script's or the shape's own
abbrev pub with_layers : Scope → List Layer → Scope
with_layers s [] = s
with_layers s (l ∷ ls) = record {
  names = l.names;
  held = l.held;
  outer = ls;
  placing = s.placing;
  is_within = s.is_within;
  answered = s.answered;
}

-- the names of the innermost shape are gone, if more shapes than so many are being drawn
abbrev pub left : Scope → ℕ → Scope
left s shapes = if nat_lt shapes (length s.outer) then with_layers s s.outer else s

-- a later answer, or else an earlier one
abbrev pub later_of : Option Answer → Option Answer → Option Answer
later_of (Some answer) before = Some answer
later_of None before = before

-- so many names are held as at the mark, or all if there were fewer, and all else is as there, but
-- for an answer since then
abbrev pub held_as : Scope → Mark → Scope
held_as s mark = record {
  names = drop (s.held - mark.held) s.names;
  held = s.held - (s.held - mark.held);
  outer = s.outer;
  placing = mark.placing;
  is_within = mark.is_within;
  answered = later_of s.answered mark.answered;
}

-- the innermost block has ended, which began at the mark: if it was a shape's, its names are gone; and
-- so are those that it held
abbrev pub released : Scope → Mark → Scope
released s mark = held_as (left s mark.shapes) mark
