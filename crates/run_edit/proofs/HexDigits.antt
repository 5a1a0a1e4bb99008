-- The digits of some bytes, from the front.
use Rattle.std.proofs.Common.{◌≡◌, ℕ, List, [], ◌∷◌, ◌++◌, ap, append-nil, sym, ◌≤◌, ◌-◌, length, get_or, take, drop, arith}
use Rattle.std.proofs.lemmas.List.{take_all}
use Rattle.std.specs.Prelude.{flat_map}
use Rattle.run_edit.specs.Texts.{hex_byte, hex_digits, spaced_byte}

pub hex_digits-cons : (b : ℕ) (bs : List ℕ) → hex_digits (b ∷ bs) ≡ hex_byte b ++ flat_map spaced_byte bs
hex_digits-cons b [] = sym (append-nil (hex_byte b))
hex_digits-cons b (c ∷ bs) = ap (λ z. hex_byte b ++ 32 ∷ z) (hex_digits-cons c bs)

-- the first byte, and the rest
pub first-rest : (bs : List ℕ) → 1 ≤ length bs → get_or bs 0 0 ∷ take (length bs - 1) (drop 1 bs) ≡ bs
first-rest [] some = absurd (omega arith)
first-rest (b ∷ bs) some = ap (λ z. b ∷ z) (take_all (length (b ∷ bs) - 1) bs (omega arith))
