-- The lines of a script as contracts see them.
use Rattle.std.specs.Prelude.{◌≡◌, ℕ, zero, suc, ◌+◌, ◌-◌, ◌≤◌, if◌then◌else◌, List, [], ◌∷◌, ◌++◌, length, take, drop, Option, Some, None}
use Rattle.std.specs.List.{slice_split}
use Rattle.map_script.specs.Scripts.{cleaned, is_line_end}
use Rattle.map_script.specs.Words.{is_some_text}
use Rattle.map_script.specs.declared.script.LineEnd.{LineEnd}
use Rattle.map_script.specs.declared.script.ScriptLine.{ScriptLine}

-- a line's number and its text
abbrev pub seen : ScriptLine → ℕ × List ℕ
seen line = (line.number, line.text.now)

-- the end of a line of this number, at a place
abbrev pub line_end_of : ℕ → ℕ → LineEnd
line_end_of number end = record { number = number; end = end }

-- a part of a text, from one place up to another
abbrev pub text_between : List ℕ → ℕ → ℕ → List ℕ
text_between text from until = take (until - from) (drop from text)

-- the lines of these numbers, whose texts stand one behind the other in a text, from a place on
abbrev pub lines_from : List ℕ → ℕ → List LineEnd → List (ℕ × List ℕ)
lines_from texts from [] = []
lines_from texts from (e ∷ es) =
    (e.number, text_between texts from e.end) ∷ lines_from texts e.end es

-- the first of these begins at a place, none ends before it begins, and the last ends at another
abbrev pub AreLineEnds : ℕ → List LineEnd → ℕ → Type 0
AreLineEnds from [] until = from ≡ until
AreLineEnds from (e ∷ es) until = (from ≤ e.end) × AreLineEnds e.end es until

-- where one of these begins: where the one before it ends, or at a place
abbrev pub begin_of : ℕ → List LineEnd → ℕ → ℕ
begin_of from es zero = from
begin_of from [] (suc i) = from
begin_of from (e ∷ es) (suc i) = begin_of e.end es i

-- the lines of the text after an LF, if there is one
abbrev pub lines_behind : Option (List ℕ) → List (List ℕ)
lines_behind None = []
lines_behind (Some text) = slice_split is_line_end text

-- the length of the LF and the text after it, if there is one
abbrev pub len_behind : Option (List ℕ) → ℕ
len_behind None = 0
len_behind (Some text) = length text + 1

-- the lines, with one more at the end if it has a word
abbrev pub with_script_line : List (ℕ × List ℕ) → ℕ → List ℕ → List (ℕ × List ℕ)
with_script_line lines number line =
    if is_some_text (cleaned line) then lines ++ (number, cleaned line) ∷ [] else lines
