-- Shapes that a script defines: `define NAME PARAM ..`, and the lines `NAME WORD ..` that draw them
-- and may name what they draw.
use Rattle.std.specs.Prelude.{ℕ, Bool, true, false, ◌&&◌, not, if◌then◌else◌, List, [], ◌∷◌, drop, Option, Some, None, Result, Ok, Err, bytes_eq, codes}
use Rattle.std.specs.List.{list_all}
use Rattle.std.specs.Option.{is_none}
use Rattle.map_tables.specs.Tables.{Tables}
use Rattle.map_script.specs.Lines.{command_words, has_good_name, joined_line, name_in, words_for}
use Rattle.map_script.specs.Meant.{worded}
use Rattle.map_script.specs.Names.{is_script_name}
use Rattle.map_script.specs.Own.{is_own_word}
use Rattle.map_script.specs.Scopes.{Scope, with_held}
use Rattle.map_script.specs.Words.{text_words}
use Rattle.map_script.specs.declared.error.DrawError.{DrawError}
use Rattle.map_script.specs.declared.error.DrawError.TheVariants.{NotADefine, NotAName, NotItsWords}

-- what stands behind the first word of `define NAME PARAM ..`
abbrev pub define_words : List (List ℕ) → Option (List (List ℕ))
define_words [] = None
define_words (w ∷ ws) =
    if bytes_eq w (codes "define") && is_none (name_in (w ∷ ws)) then Some ws else None

-- a word may be the name of a shape or of a parameter
abbrev pub is_free_name : List ℕ → Bool
is_free_name w = is_script_name w && not (is_own_word w)

-- what is wrong with NAME PARAM .., if anything is
abbrev pub define_fault : List (List ℕ) → Option DrawError
define_fault [] = Some NotADefine
define_fault (w ∷ ws) = if list_all is_free_name (w ∷ ws) then None else Some NotAName

-- ---- A line that draws a shape

-- there are as many words as parameters
abbrev pub are_as_many : List (List ℕ) → List (List ℕ) → Bool
are_as_many [] [] = true
are_as_many (p ∷ ps) (w ∷ ws) = are_as_many ps ws
are_as_many ps ws = false

-- the words of a call, if there are as many as parameters
abbrev pub counted_words : List (List ℕ) → List (List ℕ) → Result (List (List ℕ)) DrawError
counted_words params words =
    if are_as_many params words then Ok words else Err NotItsWords

-- the same of the words of a text
abbrev pub words_in_text : List (List ℕ) → Result (List ℕ) DrawError
    → Result (List (List ℕ)) DrawError
words_in_text params (Err e) = Err e
words_in_text params (Ok text) = counted_words params (text_words text)

-- the words that the parameters stand for in a line `NAME WORD ..` or `OTHER = NAME WORD ..`, or what
-- is wrong with it: that of a bad name comes before that of a bad word
abbrev pub call_words : Scope → Tables → List (List ℕ) → List (List ℕ)
    → Result (List (List ℕ)) DrawError
call_words scope m params words =
    if has_good_name (name_in words)
    then words_in_text params (joined_line (words_for scope m (drop 1 (command_words words))))
    else Err NotAName

-- each parameter stands for its word
abbrev pub with_parameters : Scope → List (List ℕ) → List (List ℕ) → Scope
with_parameters scope [] words = scope
with_parameters scope (p ∷ ps) [] = scope
with_parameters scope (p ∷ ps) (w ∷ ws) = with_parameters (with_held scope p (worded w)) ps ws
