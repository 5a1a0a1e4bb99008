-- How far a number must be shifted to be small.
use Rattle.std.proofs.Common.{◌≡◌, ℕ, zero, suc, ◌+◌, ◌-◌, ◌*◌, ◌/◌, ◌^◌, ◌<◌, ◌≤◌, max, arith, lit<, subst, ◌⊎◌, ⊎_elim, inl, inr}
use Rattle.std.specs.Prelude.{ℤ, pos, negsuc, neg_ℤ, ◌<ℤ◌, ◌≤ℤ◌, unsigned_abs}
use Rattle.std.specs.Int.{int_shr}
use Rattle.std.specs.Int.Count.{count_leading_zeros, leading_of_zero}
use Rattle.std.proofs.Math.Nat.{pow-le-pow_right, le-div_iff_mul-le, max-eq_left, max-eq_right}
use Rattle.std.proofs.lemmas.Nat.{pow_pos, pow-add, leading_length, leading_top, shr_below}
use Rattle.std.proofs.lemmas.Bool.{cases_lt}
use Rattle.std.proofs.lemmas.Int.{ints}
use Rattle.tree_pieces.specs.Angle.{IsIn62Bits}

-- 62 bits more than a shift
room : (less j : ℕ) → less + 62 ≤ j → 4611686018427387904 * 2 ^ less ≤ 2 ^ j
room less j h =
    let l : 62 + less ≤ j = omega arith in
    let m : 2 ^ (62 + less) ≤ 2 ^ j = pow-le-pow_right {n = 2} (lit< tt) {i = 62 + less} {j = j} l in
    subst (λ (n : ℕ). n ≤ 2 ^ j) (pow-add 2 62 less) m

-- what is left of a number with more bits
left_over : (a less j : ℕ) → less + 62 ≤ j → 2 ^ j ≤ a → 4611686018427387904 ≤ a / 2 ^ less
left_over a less j h k =
    let r = room less j h in
    let l : 4611686018427387904 * 2 ^ less ≤ a = omega arith in
    (le-div_iff_mul-le {k = 2 ^ less} {x = 4611686018427387904} {y = a} (pow_pos less)).1 l

left_below : (a less j : ℕ) → less + 62 ≤ j → 2 ^ j ≤ a + 1 → 4611686018427387903 ≤ a / 2 ^ less
left_below a less j h k =
    let r = room less j h in
    let p = pow_pos less in
    let l : 4611686018427387903 * 2 ^ less ≤ a = omega arith in
    (le-div_iff_mul-le {k = 2 ^ less} {x = 4611686018427387903} {y = a} (pow_pos less)).1 l

-- a number of more than 62 bits behind a shift isn't small after it
pub not_small : (z : ℤ) (less j : ℕ) → less + 62 ≤ j → 2 ^ j ≤ unsigned_abs z → IsIn62Bits (int_shr z less) → ⊥
not_small (pos a) less j h k s =
    let l = left_over a less j h k in
    let high : pos (a / 2 ^ less) <ℤ pos 4611686018427387904 = s.1 in
    omega (arith, ints)
not_small (negsuc a) less j h k s =
    let l = left_below a less j h (omega arith) in
    let low : neg_ℤ (pos 4611686018427387904) <ℤ negsuc (a / 2 ^ less) = s.0 in
    omega (arith, ints)

-- a size of at most 2^125 has at most 126 bits
pub few_bits : (a : ℕ) → a ≤ 2 ^ 125 → 2 ≤ count_leading_zeros 128 a
few_bits a h = by_length (leading_length 128 a (omega arith))
  where
    by_length : ((m : ℕ) × (count_leading_zeros 128 a + m ≡ 128) × (a < 2 ^ m) × (2 ^ m ≤ 2 * a + 1)) → 2 ≤ count_leading_zeros 128 a
    by_length q = by_order (cases_lt 126 q.0)
      where
        sum : count_leading_zeros 128 a + q.0 ≡ 128
        sum = q.1

        by_order : (126 < q.0) ⊎ (q.0 ≤ 126) → 2 ≤ count_leading_zeros 128 a
        by_order (inl l) =
            let l' : 127 ≤ q.0 = omega arith in
            let p : 2 ^ 127 ≤ 2 ^ q.0 = pow-le-pow_right {n = 2} (lit< tt) {i = 127} {j = q.0} l' in
            let top = q.3 in
            absurd (omega arith)
        by_order (inr l) = let s = sum in omega arith

-- how far the highest bit of a size lies above 62
abbrev pub bits_over : ℕ → ℕ
bits_over a = 128 - count_leading_zeros 128 a - 62

-- behind that shift 62 bits are left
pub over_enough : (a : ℕ) → a < 2 ^ 128 → a < 2 ^ (62 + bits_over a)
over_enough a h = by_length (leading_length 128 a h)
  where
    by_length : ((m : ℕ) × (count_leading_zeros 128 a + m ≡ 128) × (a < 2 ^ m) × (2 ^ m ≤ 2 * a + 1)) → a < 2 ^ (62 + bits_over a)
    by_length q =
        let e = q.1 in
        let below = q.2 in
        let l : q.0 ≤ 62 + bits_over a = omega arith in
        let p : 2 ^ q.0 ≤ 2 ^ (62 + bits_over a) = pow-le-pow_right {n = 2} (lit< tt) {i = q.0} {j = 62 + bits_over a} l in
        omega arith

-- and behind a lesser one more
pub over_least : (a less : ℕ) → a < 2 ^ 128 → less < bits_over a → 2 ^ (less + 62) ≤ a
over_least zero less f h = let t = leading_of_zero 128 in absurd (omega (arith, t))
over_least (suc a) less f h =
    let t = leading_top 128 (suc a) (omega arith) f in
    let sum = t.1 in
    let low = t.2 in
    let l : less + 62 ≤ t.0 = omega arith in
    let p : 2 ^ (less + 62) ≤ 2 ^ t.0 = pow-le-pow_right {n = 2} (lit< tt) {i = less + 62} {j = t.0} l in
    omega arith

-- what a shift leaves in 62 bits
pub record IsNearlySmall (z : ℤ) : Type 0 where
  pub low : neg_ℤ (pos 4611686018427387904) ≤ℤ z
  pub high : z ≤ℤ pos 4611686018427387903

pub nearly_small : (z : ℤ) (k : ℕ) → unsigned_abs z < 2 ^ (62 + k) → IsNearlySmall (int_shr z k)
nearly_small (pos a) k h = let l : a / 2 ^ k < 2 ^ 62 = shr_below a 62 k h in record { low = omega (arith, ints); high = omega (arith, ints) }
nearly_small (negsuc a) k h =
    let l : a / 2 ^ k < 2 ^ 62 = shr_below a 62 k (omega arith) in
    record { low = omega (arith, ints); high = omega (arith, ints) }

-- and in 61
pub small_behind : (z : ℤ) (k : ℕ) → unsigned_abs z < 2 ^ (62 + k) → IsIn62Bits (int_shr z (k + 1))
small_behind z k h = by_sign z (subst (λ (n : ℕ). unsigned_abs z < 2 ^ n) (regroup k) h)
  where
    regroup : (m : ℕ) → 62 + m ≡ 61 + (m + 1)
    regroup m = omega arith

    by_sign : (w : ℤ) → unsigned_abs w < 2 ^ (61 + (k + 1)) → IsIn62Bits (int_shr w (k + 1))
    by_sign (pos a) g = let l : a / 2 ^ (k + 1) < 2 ^ 61 = shr_below a 61 (k + 1) g in (omega (arith, ints), omega (arith, ints))
    by_sign (negsuc a) g =
        let l : a / 2 ^ (k + 1) < 2 ^ 61 = shr_below a 61 (k + 1) (omega arith) in
        (omega (arith, ints), omega (arith, ints))

-- a size of 62 bits is small where it isn't below zero
pub small_size : (a k : ℕ) → a < 2 ^ (62 + k) → IsIn62Bits (int_shr (pos a) k)
small_size a k h = let l : a / 2 ^ k < 2 ^ 62 = shr_below a 62 k h in (omega (arith, ints), omega (arith, ints))

-- where the greater of two sizes has more than 62 bits behind a shift, one of the two isn't small after it
pub one_not_small : (x y : ℤ) (less : ℕ) → 2 ^ (less + 62) ≤ max (unsigned_abs x) (unsigned_abs y) → IsIn62Bits (int_shr x less) → IsIn62Bits (int_shr y less) → ⊥
one_not_small x y less h sx sy =
    ⊎_elim
    (λ l. not_small y less (less + 62) (omega arith) (subst (λ (n : ℕ). 2 ^ (less + 62) ≤ n) (max-eq_right (omega (arith, l))) h) sy)
    (λ l. not_small x less (less + 62) (omega arith) (subst (λ (n : ℕ). 2 ^ (less + 62) ≤ n) (max-eq_left l) h) sx)
    (cases_lt (unsigned_abs x) (unsigned_abs y))
