-- The greater and the lesser of two, and tests of integers.
use Rattle.std.proofs.Common.{◌≡◌, refl, Bool, true, false, T, ◌⊎◌, inl, inr, arith}
use Rattle.std.proofs.lemmas.Int.{ints, clamps, by_lt_z}
use Rattle.std.specs.Prelude.{ℤ, ◌≤ℤ◌}
use Rattle.std.specs.Int.{int_min, int_max}
use lib.Signed.{le_z}

pub either_up : (low a b z : ℤ) → z ≡ int_max a b → low ≤ℤ z → (low ≤ℤ a) ⊎ (low ≤ℤ b)
either_up low a b z e h = by_lt_z a low (λ k. inr (omega (arith, ints, clamps))) inl

pub either_down : (high a b z : ℤ) → z ≡ int_min a b → z ≤ℤ high → (a ≤ℤ high) ⊎ (b ≤ℤ high)
either_down high a b z e h = by_lt_z high a (λ k. inr (omega (arith, ints, clamps))) inl

pub up_either : (low a b z : ℤ) → z ≡ int_max a b → (low ≤ℤ a) ⊎ (low ≤ℤ b) → low ≤ℤ z
up_either low a b z e h = elim h [ inl k ↦ omega (arith, ints, clamps) | inr k ↦ omega (arith, ints, clamps) ]

pub down_either : (high a b z : ℤ) → z ≡ int_min a b → (a ≤ℤ high) ⊎ (b ≤ℤ high) → z ≤ℤ high
down_either high a b z e h = elim h [ inl k ↦ omega (arith, ints, clamps) | inr k ↦ omega (arith, ints, clamps) ]

-- ---- a test of two integers, and its fact
true_from : (b : Bool) → T b → b ≡ true
true_from true h = refl
true_from false h = absurd h

pub at_most_yes : (x y : ℤ) → x ≤ℤ y → le_z x y ≡ true
at_most_yes x y h = true_from (le_z x y) h.le

pub yes_at_most : (x y : ℤ) → le_z x y ≡ true → x ≤ℤ y
yes_at_most x y h = omega (arith, ints)
