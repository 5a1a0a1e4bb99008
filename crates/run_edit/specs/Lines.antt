-- The input as lines, cut at each LF (docs/COMMANDS.md, "Lines and turns").
use Rattle.std.specs.Prelude.{◌≡◌, ℕ, Bool, false, ◌==◌, if◌then◌else◌, List, [], ◌∷◌, ◌++◌, take}
use Rattle.std.specs.List.{list_any}

-- LF ends a line
abbrev pub is_break : ℕ → Bool
is_break b = b == 10

-- the lines with this byte before the first one, if there is one
abbrev pub onto_first_line : ℕ → List (List ℕ) → List (List ℕ)
onto_first_line b [] = []
onto_first_line b (line ∷ lines) = (b ∷ line) ∷ lines

-- the lines that end with a LF, without it
abbrev pub whole_lines : List ℕ → List (List ℕ)
whole_lines [] = []
whole_lines (b ∷ bs) = if is_break b then [] ∷ whole_lines bs
    else onto_first_line b (whole_lines bs)

-- the bytes after the last LF
abbrev pub unfinished : List ℕ → List ℕ
unfinished [] = []
unfinished (b ∷ bs) = if list_any is_break (b ∷ bs) then unfinished bs else b ∷ bs

-- a last part is a line if it isn't empty
abbrev pub line_if_any : List ℕ → List (List ℕ)
line_if_any [] = []
line_if_any (b ∷ bs) = (b ∷ bs) ∷ []

-- all lines of an input
abbrev pub lines_of : List ℕ → List (List ℕ)
lines_of bytes = whole_lines bytes ++ line_if_any (unfinished bytes)

-- what is kept of a line that hasn't ended yet: its first 257 bytes, one more than a command may
-- have
pub record IsBegun (kept part : List ℕ) : Type 0 where
  pub front : kept ≡ take 257 part
  pub open_ended : list_any is_break part ≡ false
