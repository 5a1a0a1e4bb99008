-- The words of a change, one after the other.
use Rattle.std.proofs.Common.{◌≡◌, ℕ, ◌+◌, ◌<◌, List, [], ◌∷◌, length, Option, Some, None, refl, arith, cond, pos}
use Rattle.map_commands.specs.Places.{Number, place_fault, prior_fault}
use Rattle.map_words.specs.Words.{parts}
use Rattle.map_tables.specs.Ranges.{last_of}
use Rattle.map_tables.specs.declared.kind.Kind.{Kind}
use Rattle.map_shapes.specs.Changes.{are_fields, field_text, fields_fault, values_fault, with_values}

-- how many bytes are left, and one more, if there are words
abbrev pub len_left : Option (List ℕ) → ℕ
len_left None = 0
len_left (Some text) = length text + 1

-- no word is left
pub with_values-none : (fields names : List (List ℕ)) → with_values fields names [] ≡ []
with_values-none fields [] = refl
with_values-none fields (name ∷ names) = refl

-- NAME=VALUE, once there is one
pub fields_fault-some : (k : Kind) (n : List ℕ) (ws : List (List ℕ)) → 0 < length ws
    → fields_fault k (n ∷ ws)
    ≡ cond (are_fields (parts (field_text k)) ws) (prior_fault (place_fault (Number (pos 0) (pos (last_of k))) n) (values_fault k ws)) (Some 1)
fields_fault-some k n [] some = absurd (omega arith)
fields_fault-some k n (w ∷ ws) some = refl
