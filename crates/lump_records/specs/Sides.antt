-- Which sides a line has.
use Rattle.std.specs.Prelude.{ℕ, ◌/◌, ◌%◌, Bool, ◌==◌, not}
use Rattle.lump_records.specs.declared.records.Line.{Line}

-- `left` of a line without a left side
abbrev pub no_side : ℕ
no_side = 65535

-- the line has a left side
abbrev pub has_left : Line → Bool
has_left l = not (l.left == no_side)

-- the flag that says that a line has two sides
abbrev pub is_two_sided : Line → Bool
is_two_sided l = (l.flags / 4 % 2) == 1
