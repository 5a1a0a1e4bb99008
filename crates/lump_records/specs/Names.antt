-- A name as records hold it, its text, and which texts name textures, flats and maps.
use Rattle.std.specs.Prelude.{◌≡◌, ℕ, ◌-◌, Bool, false, ◌&&◌, ◌||◌, ◌==◌, not, nat_le, List, [], ◌∷◌, ◌++◌, length, replicate, take_while, IsTrue}
use Rattle.std.specs.List.{list_all}
use Rattle.lump_records.specs.declared.records.Name8.{Name8}

-- the name of a text: its bytes, padded with NUL to eight
abbrev pub name_of : List ℕ → Name8
name_of text = record { bytes = text ++ replicate (8 - length text) 0 }

-- a name's text: the bytes before the first NUL
abbrev pub name_text : Name8 → List ℕ
name_text name = take_while (λ byte. not (byte == 0)) name.bytes

-- a letter A to Z, a digit, or one of _ - [ ] \
abbrev pub is_name_byte : ℕ → Bool
is_name_byte b =
    (nat_le 65 b && nat_le b 90) || (nat_le 48 b && nat_le b 57) || (b == 95) || (b == 45)
    || (b == 91) || (b == 93)
    || (b == 92)

-- the name of a texture or a flat: one to eight such bytes
abbrev pub is_name : List ℕ → Bool
is_name text = nat_le 1 (length text) && nat_le (length text) 8 && list_all is_name_byte text

-- a digit from 1 to 9
abbrev pub is_nonzero_digit : ℕ → Bool
is_nonzero_digit b = nat_le 49 b && nat_le b 57

-- a digit
abbrev pub is_digit : ℕ → Bool
is_digit b = nat_le 48 b && nat_le b 57

-- the name of a map, as its marker lump has it: E1M1 to E9M9, MAP01 to MAP99
abbrev pub is_marker : List ℕ → Bool
is_marker (a ∷ b ∷ c ∷ d ∷ []) = (a == 69) && is_nonzero_digit b && (c == 77) && is_nonzero_digit d
is_marker (a ∷ b ∷ c ∷ d ∷ e ∷ []) =
    (a == 77) && (b == 65) && (c == 80) && is_digit d && is_digit e && not ((d == 48) && (e == 48))
is_marker _ = false

-- the name's text passes a test, and the bytes after the text are NUL
pub record IsNamed (test : List ℕ → Bool) (n : Name8) : Type 0 where
  pub padded : n ≡ name_of (name_text n)
  pub named : IsTrue (test (name_text n))
