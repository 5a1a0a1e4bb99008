-- Lines that open and close the blocks of a script.
use Rattle.std.specs.Prelude.{ℕ, ℤ, Bool, ◌&&◌, ◌||◌, not, if◌then◌else◌, List, [], ◌∷◌, Option, Some, None, Result, Ok, Err, bytes_eq, codes}
use Rattle.std.specs.Option.{is_none, is_some}
use Rattle.map_tables.specs.Tables.{Tables}
use Rattle.map_script.specs.Ats.{at_words}
use Rattle.map_script.specs.Defines.{define_words}
use Rattle.map_script.specs.Lines.{joined_line, name_in, words_for}
use Rattle.map_script.specs.Names.{is_script_name}
use Rattle.map_script.specs.Own.{is_own_word}
use Rattle.map_script.specs.Scopes.{Scope}
use Rattle.map_script.specs.Reckoned.{number_in_text}
use Rattle.map_script.specs.Words.{text_words}
use Rattle.map_script.specs.declared.error.DrawError.{DrawError}
use Rattle.map_script.specs.declared.error.DrawError.TheVariants.{NotALoop, NotAName}
use Rattle.map_script.specs.declared.looping.Range.{Range}

-- what stands behind the first word of `for NAME FROM TO`
abbrev pub loop_words : List (List ℕ) → Option (List (List ℕ))
loop_words [] = None
loop_words (w ∷ ws) =
    if bytes_eq w (codes "for") && is_none (name_in (w ∷ ws)) then Some ws else None

-- a line opens a block
abbrev pub opens : List ℕ → Bool
opens line =
    is_some (loop_words (text_words line))
    || (is_some (at_words (text_words line)) || is_some (define_words (text_words line)))

-- a line closes a block
abbrev pub closes : List ℕ → Bool
closes line = bytes_eq line (codes "end")

-- ---- for NAME FROM TO

-- two numbers as those of a loop, or the error of the first
abbrev pub range_of : Result ℤ DrawError → Result ℤ DrawError → Result Range DrawError
range_of (Err e) to = Err e
range_of (Ok from) (Err e) = Err e
range_of (Ok from) (Ok to) = Ok (record { from = from; to = to })

-- the numbers that two words write
abbrev pub range_in : List (List ℕ) → Result Range DrawError
range_in (from ∷ to ∷ []) = range_of (number_in_text from) (number_in_text to)
range_in ws = Err NotALoop

-- the same of the words of a text
abbrev pub range_in_text : Result (List ℕ) DrawError → Result Range DrawError
range_in_text (Err e) = Err e
range_in_text (Ok text) = range_in (text_words text)

-- the numbers of NAME FROM TO, or what is wrong with it
abbrev pub loop_range : Scope → Tables → List (List ℕ) → Result Range DrawError
loop_range scope m [] = Err NotALoop
loop_range scope m (name ∷ ws) =
    if is_script_name name && not (is_own_word name)
    then range_in_text (joined_line (words_for scope m ws)) else Err NotAName

-- the name of NAME FROM TO
abbrev pub loop_name : List (List ℕ) → List ℕ
loop_name [] = []
loop_name (name ∷ ws) = name
