-- Sums: numbers, references and words of names, with + - * / and parentheses.
use Rattle.std.specs.Prelude.{ℕ, zero, suc, ◌+◌, if◌then◌else◌, List, take, drop, slice_index, ℤ, Option, Some, None, Result, Err}
use Rattle.map_tables.specs.Tables.{Tables}
use Rattle.map_tables.specs.declared.kind.Kind.{Kind}
use Rattle.map_script.specs.Cuts.{behind_byte, cut_place, inside, place_parts}
use Rattle.map_script.specs.Meant.{Meant, meant_by}
use Rattle.map_script.specs.Names.{is_no_reference, number_for}
use Rattle.map_script.specs.Scopes.{Scope, visible}
use Rattle.map_script.specs.Reckoned.{counted, item_of_place, negated, number_in_text, reckoned_of}
use Rattle.map_script.specs.declared.error.DrawError.{DrawError}
use Rattle.map_script.specs.declared.error.DrawError.TheVariants.{TooDeep}
use Rattle.map_script.specs.declared.placing.Placing.{Placing}

-- the number of a reference, given without its `$`: that of the words that a name stands for, or
-- else that of an item
abbrev pub reference_value : Option Meant → Result ℕ DrawError → Result ℤ DrawError
reference_value (Some meant) number = number_in_text meant.words
reference_value None number = counted number

-- the kind, X and Y of a place, if two numbers don't write it
abbrev pub place_of_sums : Result ℕ DrawError → List ℕ → Option (Kind × List ℕ × List ℕ)
place_of_sums number text = if is_no_reference number then place_parts text else None

-- the value of a reference; its parts have these values
abbrev pub place_value : (List ℕ → Result ℤ DrawError) → Placing → Tables
    → Option (Kind × List ℕ × List ℕ) → Result ℤ DrawError → Result ℤ DrawError
place_value part p m (Some (k, x, y)) value = item_of_place p m k (part x) (part y)
place_value part p m None value = value

-- the value of an operand that is no reference: with a `-` in front, or a number
abbrev pub number_value : (List ℕ → Result ℤ DrawError) → List ℕ → Option (List ℕ)
    → Result ℤ DrawError
number_value part text (Some operand) = negated (part operand)
number_value part text None = number_in_text text

-- the value of an operand, by the reference that it is; its parts have these values
abbrev pub referred_value : (List ℕ → Result ℤ DrawError) → Scope → Tables
    → List ℕ → Option (List ℕ) → Result ℤ DrawError
referred_value part scope m text (Some bs) =
    place_value part scope.placing m (place_of_sums (number_for scope m bs) bs)
    (reference_value (meant_by (visible scope) bs) (number_for scope m bs))
referred_value part scope m text None = number_value part text (behind_byte 45 text)

-- the value of an operand
abbrev pub operand_value : (List ℕ → Result ℤ DrawError) → Scope → Tables → List ℕ
    → Result ℤ DrawError
operand_value part scope m text = referred_value part scope m text (behind_byte 36 text)

-- the value of a text that no sign cuts
abbrev pub whole_value : (List ℕ → Result ℤ DrawError) → Scope → Tables → List ℕ
    → Option (List ℕ) → Result ℤ DrawError
whole_value part scope m text (Some inner) = part inner
whole_value part scope m text None = operand_value part scope m text

-- the value of a text that is cut at the sign that is reckoned last, if it has one
abbrev pub value_cut_at : (List ℕ → Result ℤ DrawError) → Scope → Tables → List ℕ
    → Option ℕ → Result ℤ DrawError
value_cut_at part scope m text (Some i) =
    reckoned_of (slice_index text i) (part (take i text)) (part (drop (i + 1) text))
value_cut_at part scope m text None = whole_value part scope m text (inside text)

-- the value of a sum whose parts nest less than so deep
unfoldable pub sum_value : ℕ → Scope → Tables → List ℕ → Result ℤ DrawError
sum_value zero scope m text = Err TooDeep
sum_value (suc depth) scope m text =
    value_cut_at (λ part. sum_value depth scope m part) scope m text (cut_place text)
