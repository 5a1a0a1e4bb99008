-- The fault of a word that is to be a number between two bounds.
use Rattle.std.proofs.Common.{◌≡◌, Bool, true, false, cond, ◌&&◌, List, ℕ, refl, ◌∙◌, ap, ℤ, FitsSigned, Option, Some, None}
use Rattle.std.specs.Prelude.{int_le}
use Rattle.std.specs.Int.{w16}
use Rattle.map_words.specs.Words.{clamped, is_numeral, numeral_value}
use Rattle.map_words.proofs.NumeralWords.{between, same-clamped}
use Rattle.map_commands.specs.Places.{place_fault, Number}

faulted : (n a b : Bool) → n ≡ true → (a ≡ true → b ≡ true → ⊥) → ◌≡◌ {A = Option ℕ} (cond n (cond (a && b) None (Some 2)) (Some 1)) (Some 2)
faulted true true true e f = absurd (f refl refl)
faulted true true false e f = refl
faulted true false b e f = refl
faulted false a b e f = absurd cc

-- a numeral in its range
pub fault-none : (w : List ℕ) (low high : ℤ) → is_numeral w ≡ true → int_le low (numeral_value w) ≡ true → int_le (numeral_value w) high ≡ true → place_fault (Number low high) w ≡ None
fault-none w low high e p q = λ i. cond {A = Option ℕ} (e i) (cond {A = Option ℕ} (p i && q i) None (Some 2)) (Some 1)

-- a numeral whose clamped number is out of a range of sixteen bits
pub fault-out : (w : List ℕ) (low high : ℤ) → is_numeral w ≡ true → FitsSigned w16 low → FitsSigned w16 high
    → (int_le low (clamped (numeral_value w)) ≡ true → int_le (clamped (numeral_value w)) high ≡ true → ⊥) → place_fault (Number low high) w ≡ Some 2
fault-out w low high e f g beyond =
    let v = numeral_value w in
    faulted (is_numeral w) (int_le low v) (int_le v high) e
    (λ p q. let same = same-clamped v (between low v high f g p q) in beyond (ap (λ z. int_le low z) same ∙ p) (ap (λ z. int_le z high) same ∙ q))
