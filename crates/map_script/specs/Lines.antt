-- The command line that a line of a script stands for.
use Rattle.std.specs.Prelude.{◌≡◌, ℕ, ℤ, Bool, true, ◌+◌, ◌==◌, ◌||◌, ◌&&◌, not, if◌then◌else◌, List, [], ◌∷◌, ◌++◌, take, drop, position, slice_index, Option, Some, None, Result, Ok, Err, codes, bytes_eq, decimal, Vec}
use Rattle.std.specs.Global.{Global}
use Rattle.std.specs.Fmt.{signed_decimal}
use Rattle.std.specs.List.{join_with_byte, list_any}
use Rattle.std.specs.Option.{is_none}
use Rattle.map_tables.specs.Tables.{Tables}
use Rattle.map_tables.specs.declared.kind.Kind.{Kind}
use Rattle.map_script.specs.Kinds.{field_parts, misfit_in, only_kind}
use Rattle.map_script.specs.Meant.{Meant, meant_by, worded_as}
use Rattle.map_script.specs.Names.{is_no_reference, is_script_name, number_for}
use Rattle.map_script.specs.Own.{is_own_word}
use Rattle.map_script.specs.Placed.{placed_line}
use Rattle.map_script.specs.Scopes.{Scope, visible, with_let}
use Rattle.map_script.specs.Sums.{sum_value}
use Rattle.map_script.specs.Texts.{with_word}
use Rattle.map_script.specs.Words.{text_words}
use Rattle.map_script.specs.declared.error.DrawError.{DrawError}
use Rattle.map_script.specs.declared.error.DrawError.TheVariants.{NotALet, NotAName, OtherKind, OutOfMemory}

-- the name that a line defines: NAME of NAME = COMMAND
abbrev pub name_in : List (List ℕ) → Option (List ℕ)
name_in (n ∷ e ∷ ws) = if bytes_eq e (codes "=") then Some n else None
name_in ws = None

-- the words of a line's command
abbrev pub command_words : List (List ℕ) → List (List ℕ)
command_words (n ∷ e ∷ ws) = if bytes_eq e (codes "=") then ws else n ∷ e ∷ ws
command_words ws = ws

-- whether there is no word, or it is a name
abbrev pub has_good_name : Option (List ℕ) → Bool
has_good_name None = true
has_good_name (Some n) = is_script_name n

-- a number as a word
abbrev pub number_word : Result ℕ DrawError → Result (List ℕ) DrawError
number_word (Ok n) = Ok (decimal n)
number_word (Err e) = Err e

-- a number of a sum as a word
abbrev pub sum_word : Result ℤ DrawError → Result (List ℕ) DrawError
sum_word (Ok n) = Ok (signed_decimal n)
sum_word (Err e) = Err e

-- the word of a reference, which is this number; a word that is no reference is a sum
abbrev pub reference_word : Scope → Tables → List ℕ → Result ℕ DrawError
    → Result (List ℕ) DrawError
reference_word scope m text number =
    if is_no_reference number then sum_word (sum_value 65 scope m text) else number_word number

-- the words of a name, or else the word of a reference
abbrev pub named_word : Scope → Tables → List ℕ → Option Meant → Result ℕ DrawError
    → Result (List ℕ) DrawError
named_word scope m text (Some meant) number = Ok meant.words
named_word scope m text None number = reference_word scope m text number

-- a word with a `$`, or one that begins with `(`
abbrev pub is_reckoned : List ℕ → Bool
is_reckoned text = (slice_index text 0 == 40) || list_any (λ b. b == 36) text

-- what such a word stands for: a name, a reference or a sum
abbrev pub reckoned_word : Scope → Tables → List ℕ → Result (List ℕ) DrawError
reckoned_word scope m [] = Ok []
reckoned_word scope m (b ∷ bs) =
    if b == 36
    then named_word scope m (b ∷ bs) (meant_by (visible scope) bs) (number_for scope m bs)
    else sum_word (sum_value 65 scope m (b ∷ bs))

-- a word or a VALUE
abbrev pub value_word : Scope → Tables → List ℕ → Result (List ℕ) DrawError
value_word scope m text = if is_reckoned text then reckoned_word scope m text else Ok text

-- a word behind `NAME=`
abbrev pub behind_field : List ℕ → Result (List ℕ) DrawError → Result (List ℕ) DrawError
behind_field front (Ok w) = Ok (front ++ w)
behind_field front (Err e) = Err e

-- the word that a word stands for
unfoldable pub word_for : Scope → Tables → List ℕ → Result (List ℕ) DrawError
word_for scope m text =
    behind_field (field_parts text).0 (value_word scope m (field_parts text).1)

-- a word before others, or the leftmost error
abbrev pub in_front : Result (List ℕ) DrawError → Result (List (List ℕ)) DrawError
    → Result (List (List ℕ)) DrawError
in_front (Err e) others = Err e
in_front (Ok w) (Err e) = Err e
in_front (Ok w) (Ok ws) = Ok (w ∷ ws)

-- the words that the words stand for, or the leftmost error
abbrev pub words_for : Scope → Tables → List (List ℕ)
    → Result (List (List ℕ)) DrawError
words_for scope m [] = Ok []
words_for scope m (w ∷ ws) = in_front (word_for scope m w) (words_for scope m ws)

-- the words, separated by single spaces
abbrev pub joined_line : Result (List (List ℕ)) DrawError → Result (List ℕ) DrawError
joined_line (Ok ws) = Ok (join_with_byte 32 ws)
joined_line (Err e) = Err e

-- a line, or OtherKind if one of its words is the number of another kind of item than its place wants
abbrev pub fitted_line : Option (List ℕ × Kind × Kind) → Result (List ℕ) DrawError
    → Result (List ℕ) DrawError
fitted_line None line = line
fitted_line (Some misfit) line = Err OtherKind

-- the line of these words, each replaced by what it stands for
abbrev pub replaced_line : Scope → Tables → List (List ℕ) → Result (List ℕ) DrawError
replaced_line scope m ws =
    let line = joined_line (words_for scope m ws) in fitted_line (misfit_in scope ws line) line

-- the command line that a line stands for over the current map, its places placed by the open
-- blocks; or its error: that of a bad name comes before that of a bad reference, and that before one
-- of another kind
abbrev pub line_for : Scope → Tables → List ℕ → Result (List ℕ) DrawError
line_for scope m line =
    if has_good_name (name_in (text_words line))
    then placed_line scope.placing (replaced_line scope m (command_words (text_words line)))
    else Err NotAName

-- ---- let NAME WORD ..

-- what stands behind the first word of `let NAME WORD ..`
abbrev pub let_words : List (List ℕ) → Option (List (List ℕ))
let_words [] = None
let_words (w ∷ ws) =
    if bytes_eq w (codes "let") && is_none (name_in (w ∷ ws)) then Some ws else None

-- the names, with one that now stands for words, or for the number of an item of a kind
abbrev pub with_words : Scope → List ℕ → Option Kind → Result (List ℕ) DrawError
    → Result Scope DrawError
with_words scope name k (Ok words) = Ok (with_let scope name (worded_as words k))
with_words scope name k (Err e) = Err e

-- the names after NAME WORD .., or what is wrong with it
abbrev pub names_after : Scope → Tables → List (List ℕ) → Result Scope DrawError
names_after scope m [] = Err NotALet
names_after scope m (n ∷ []) = Err NotALet
names_after scope m (n ∷ w ∷ ws) =
    if is_script_name n && not (is_own_word n)
    then with_words scope n (only_kind scope (w ∷ ws)) (joined_line (words_for scope m (w ∷ ws)))
    else Err NotAName

-- ---- How a call ended

-- the call returned the error that the definition gives, or memory ran out
abbrev pub TellsScriptFault : {X : Type 0} → DrawError → Result X DrawError → Type 0
TellsScriptFault OutOfMemory outcome = Unit {0}
TellsScriptFault e outcome = outcome ≡ Err e

-- the call returned the word or the error that the definition gives, or memory ran out
abbrev pub MakesWord : Result (Vec ℕ Global) DrawError → Result (List ℕ) DrawError → Type 0
MakesWord (Ok word) outcome = outcome ≡ Ok word.items
MakesWord (Err e) outcome = TellsScriptFault e outcome

-- the word that the definition gives was appended to the text, or the call returned the definition's error, or
-- memory ran out
abbrev pub PutsWord : {U : Type 0} → Result U DrawError → Result (List ℕ) DrawError → List ℕ
    → List ℕ → Type 0
PutsWord (Ok u) outcome old new = (w : List ℕ) × (outcome ≡ Ok w) × (new ≡ with_word old w)
PutsWord (Err e) outcome old new = TellsScriptFault e outcome
