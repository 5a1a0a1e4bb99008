-- Lines `include FILE`, in whose place the lines of a file stand.
use Rattle.std.specs.Prelude.{ℕ, Bool, ◌&&◌, if◌then◌else◌, List, [], ◌∷◌, Option, Some, None, bytes_eq, codes, is_some}
use Rattle.std.specs.Option.{is_none}
use Rattle.map_script.specs.Lines.{name_in}
use Rattle.map_script.specs.Words.{text_words}

-- what stands behind the first word of `include FILE`
abbrev pub include_words : List (List ℕ) → Option (List (List ℕ))
include_words [] = None
include_words (w ∷ ws) =
    if bytes_eq w (codes "include") && is_none (name_in (w ∷ ws)) then Some ws else None

-- the word of some that is one alone
abbrev pub only_word : List (List ℕ) → Option (List ℕ)
only_word (w ∷ []) = Some w
only_word ws = None

-- whether a line, given with its number, includes a file
abbrev pub is_include : ℕ × List ℕ → Bool
is_include line = is_some (include_words (text_words line.1))
