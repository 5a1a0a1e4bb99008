-- The numbers of a line that are out of their ranges, whatever else stands in it (docs/COMMANDS.md,
-- "The commands").
use Rattle.std.specs.Prelude.{ℕ, ℤ, Bool, false, ◌+◌, ◌==◌, ◌&&◌, ◌||◌, if◌then◌else◌, List, [], ◌∷◌, drop, length, Option, Some, None, bytes_eq, codes}
use Rattle.std.specs.List.{before_first, list_any}
use Rattle.map_commands.specs.Errors.{code_of}
use Rattle.map_commands.specs.Places.{Number, place_fault}
use Rattle.map_commands.specs.declared.error.CommandError.TheVariants.{OutOfRange}
use Rattle.map_commands.specs.declared.grammar.TheConstants.{FORMS}
use Rattle.map_script.specs.Defines.{are_as_many}
use Rattle.map_script.specs.Lines.{command_words}
use Rattle.map_script.specs.Words.{first_word, text_words}
use Rattle.map_blocks.specs.declared.ranges.TheConstants.{QUERY_FORMS, RANGES}

-- the fault of a word at its place is that it is out of range
abbrev pub is_range_fault : Option ℕ → Bool
is_range_fault None = false
is_range_fault (Some code) = code == code_of OutOfRange

-- a word is a number, and out of this range
abbrev pub is_number_outside : ℤ → ℤ → List ℕ → Bool
is_number_outside low high word = is_range_fault (place_fault (Number low high) word)

-- a word is a number, and out of the range of this name
unfoldable pub is_out_of_range : List ℕ → List ℕ → Bool
is_out_of_range name word =
    list_any (λ r. bytes_eq r.0.now name && is_number_outside r.1 r.2 word) RANGES.now

-- what stands in front of the first `=` of a word
abbrev pub field_name : List ℕ → List ℕ
field_name word = before_first (λ b. b == 61) word

-- in NAME=VALUE, VALUE is a number, and out of the range of NAME
abbrev pub is_field_outside : List ℕ → Bool
is_field_outside word =
    is_out_of_range (field_name word) (drop (length (field_name word) + 1) word)

-- one of some words is a number, and out of the range of the name at its place
abbrev pub one_outside : List (List ℕ) → List (List ℕ) → Bool
one_outside [] ws = false
one_outside (name ∷ names) ws =
    is_out_of_range name (first_word ws) || one_outside names (drop 1 ws)

-- words are of a form: the first one is the same, and they are as many
abbrev pub is_form_of : List (List ℕ) → List (List ℕ) → Bool
is_form_of form ws = bytes_eq (first_word form) (first_word ws) && are_as_many form ws

-- a line has a number that is out of its range: in a word NAME=VALUE of a `change`, or at a place of a
-- command or a query of one of the forms
unfoldable pub has_outside : List ℕ → Bool
has_outside line =
    let ws = command_words (text_words line) in
    if bytes_eq (first_word ws) (codes "change") then list_any is_field_outside ws
    else (list_any (λ f. is_form_of (text_words f.now) ws
    && one_outside (text_words f.now) ws) FORMS.now
    || list_any (λ f. is_form_of (text_words f.now) ws
    && one_outside (text_words f.now) ws) QUERY_FORMS.now)
