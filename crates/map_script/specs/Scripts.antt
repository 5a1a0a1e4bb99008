-- The lines of a script, cleaned.
use Rattle.std.specs.Prelude.{ℕ, Bool, false, ◌==◌, not, if◌then◌else◌, nat_eq, List, [], ◌∷◌, map, filter, take_while, drop}
use Rattle.std.specs.List.{enumerate_from, join_with_byte, slice_split, starts_with}
use Rattle.std.specs.Str.Lines.{strip_carriage_return}
use Rattle.map_script.specs.Words.{is_some_text, text_words}

-- a comment begins with a word that begins with `#`
abbrev pub begins_comment : List ℕ → Bool
begins_comment [] = false
begins_comment (b ∷ bs) = b == 35

-- the words of a line before its comment; a CR at the line's end is not part of it
abbrev pub told_words : List ℕ → List (List ℕ)
told_words line = take_while (λ w. not (begins_comment w)) (text_words (strip_carriage_return line))

-- a cleaned line: these words, separated by single spaces
abbrev pub cleaned : List ℕ → List ℕ
cleaned line = join_with_byte 32 (told_words line)

-- the script without a leading byte order mark
abbrev pub without_mark : List ℕ → List ℕ
without_mark script =
    if starts_with nat_eq script (239 ∷ 187 ∷ 191 ∷ []) then drop 3 script else script

-- the byte is LF
abbrev pub is_line_end : ℕ → Bool
is_line_end b = b == 10

-- whether a cleaned line has a word
abbrev pub says_something : ℕ × List ℕ → Bool
says_something (number, text) = is_some_text text

-- the lines of a script that have a word, each cleaned and with its number, from 1
abbrev pub script_lines : List ℕ → List (ℕ × List ℕ)
script_lines script =
    filter says_something (enumerate_from 1
    (map cleaned (slice_split is_line_end (without_mark script))))
