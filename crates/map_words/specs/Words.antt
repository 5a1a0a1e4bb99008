-- The words of a line, and which of them are numerals.
use Rattle.std.specs.Prelude.{ℕ, Bool, false, true, ◌&&◌, ◌==◌, not, nat_le, nat_lt, if◌then◌else◌, List, [], ◌∷◌, length, min, ℤ, pos, negsuc, Option, Some, None, codes, bytes_eq}
use Rattle.std.specs.Str.Parse.{signed_digits_value}
use Rattle.std.specs.List.{list_all}
use Rattle.lump_records.specs.Names.{is_digit, is_nonzero_digit}

-- a byte in front of the first part
abbrev pub onto_first : ℕ → List (List ℕ) → List (List ℕ)
onto_first b [] = (b ∷ []) ∷ []
onto_first b (w ∷ ws) = (b ∷ w) ∷ ws

-- the parts of a line between its spaces
abbrev pub parts : List ℕ → List (List ℕ)
parts [] = [] ∷ []
parts (b ∷ bs) = if b == 32 then [] ∷ parts bs else onto_first b (parts bs)

-- the parts of what stands behind a space, if there is one
abbrev pub parts_behind : Option (List ℕ) → List (List ℕ)
parts_behind None = []
parts_behind (Some rest) = parts rest

-- digits of which the first isn't 0, or `0` alone
abbrev pub is_natural : List ℕ → Bool
is_natural [] = false
is_natural (b ∷ []) = is_digit b
is_natural (b ∷ c ∷ bs) = is_nonzero_digit b && list_all is_digit (c ∷ bs)

-- whether bytes may begin such digits: there are some, and a 0 in front stands alone
abbrev pub has_natural_front : List ℕ → Bool
has_natural_front [] = false
has_natural_front (b ∷ []) = true
has_natural_front (b ∷ c ∷ bs) = not (b == 48)

-- such digits, or a `-` and such digits other than `0`
abbrev pub is_numeral : List ℕ → Bool
is_numeral [] = false
is_numeral (b ∷ bs) = if b == 45 then is_natural bs && not (bytes_eq bs (codes "0"))
    else is_natural (b ∷ bs)

-- the number that a numeral stands for
abbrev pub numeral_value : List ℕ → ℤ
numeral_value w = signed_digits_value 10 w

-- the number, or 32769 with its sign if it is further from 0
abbrev pub clamped : ℤ → ℤ
clamped (pos n) = pos (min n 32769)
clamped (negsuc n) = negsuc (min n 32768)

-- a byte that prints and is no space
abbrev pub is_printable : ℕ → Bool
is_printable b = nat_le 33 b && nat_le b 126

-- a word of some length
abbrev pub is_word : List ℕ → Bool
is_word w = nat_lt 0 (length w) && list_all is_printable w
