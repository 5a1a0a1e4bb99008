-- Orders and products on the integers, with the floor of a quotient.
use Rattle.std.proofs.Common.{◌≡◌, zero, suc, [], ◌∷◌, arith}
use Rattle.std.proofs.lemmas.Int.{ints, by_lt_z}
use Rattle.std.specs.Prelude.{ℤ, pos, negsuc, ◌+ℤ◌, ◌-ℤ◌, ◌*ℤ◌, neg_ℤ, ◌≤ℤ◌, ◌<ℤ◌}
use Rattle.std.specs.Int.{int_div_euclid}
use Rattle.std.proofs.Math.IntN.{*ℤ_comm}
use borrow.Author.Differences.{up, down, same_out, same_in, Apart-out, lt_out, le_out, below_in, at_most_in, sum_is_lem, neg_is, abs_is}
use Rattle.lump_records.proofs.Ring.{by_ring, quotes}

-- for `omega`: orders and equations that are linear, with each product as one unknown
pub ruleset linear = (same_out, same_in, Apart-out, lt_out, le_out, below_in, at_most_in, sum_is_lem, neg_is)

-- ---- the sign of a product
pub product_not_negative : (a b : ℤ) → pos 0 ≤ℤ a → pos 0 ≤ℤ b → pos 0 ≤ℤ (a *ℤ b)
product_not_negative (pos a) (pos b) p q = omega (arith, ints)
product_not_negative (pos a) (negsuc b) p q = absurd (omega (arith, ints))
product_not_negative (negsuc a) b p q = absurd (omega (arith, ints))

pub product_positive : (a b : ℤ) → pos 0 <ℤ a → pos 0 <ℤ b → pos 0 <ℤ (a *ℤ b)
product_positive (pos (suc a)) (pos (suc b)) p q = omega (arith, ints)
product_positive (pos zero) b p q = absurd (omega (arith, ints))
product_positive (negsuc a) b p q = absurd (omega (arith, ints))
product_positive (pos (suc a)) (pos zero) p q = absurd (omega (arith, ints))
product_positive (pos (suc a)) (negsuc b) p q = absurd (omega (arith, ints))

-- ---- a product by a sum and a difference
pub times_difference : (c a b : ℤ) → c *ℤ (b -ℤ a) ≡ c *ℤ b -ℤ c *ℤ a
times_difference c a b = by_ring (c ∷ a ∷ b ∷ []) _ _ (search quotes depth 20) (search quotes depth 20) tt

-- ---- orders times a number, and with a factor taken out
pub times_at_most : (c a b : ℤ) → pos 0 ≤ℤ c → a ≤ℤ b → (c *ℤ a) ≤ℤ (c *ℤ b)
times_at_most c a b p q =
    let h = product_not_negative c (b -ℤ a) p (omega (arith, linear)) in
    let e = times_difference c a b in
    omega (arith, linear)

pub times_below : (c a b : ℤ) → pos 0 <ℤ c → a <ℤ b → (c *ℤ a) <ℤ (c *ℤ b)
times_below c a b p q =
    let h = product_positive c (b -ℤ a) p (omega (arith, linear)) in
    let e = times_difference c a b in
    omega (arith, linear)

pub times_negative : (c a b : ℤ) → c ≤ℤ pos 0 → a ≤ℤ b → (c *ℤ b) ≤ℤ (c *ℤ a)
times_negative c a b p q =
    let h = product_not_negative (neg_ℤ c) (b -ℤ a) (omega (arith, linear)) (omega (arith, linear)) in
    let e : neg_ℤ c *ℤ (b -ℤ a) ≡ c *ℤ a -ℤ c *ℤ b = by_ring (c ∷ a ∷ b ∷ []) _ _ (search quotes depth 20) (search quotes depth 20) tt in
    omega (arith, linear)

pub factor_at_most : (c a b : ℤ) → pos 0 <ℤ c → (c *ℤ a) ≤ℤ (c *ℤ b) → a ≤ℤ b
factor_at_most c a b p q = by_lt_z b a (λ h. let k = times_below c b a p h in absurd (omega (arith, linear))) (λ h. h)

pub factor_below : (c a b : ℤ) → pos 0 ≤ℤ c → (c *ℤ a) <ℤ (c *ℤ b) → a <ℤ b
factor_below c a b p q = by_lt_z a b (λ h. h) (λ h. let k = times_at_most c b a p h in absurd (omega (arith, linear)))

-- ---- negative factors
pub times_neg : (c a : ℤ) → c *ℤ neg_ℤ a ≡ neg_ℤ (c *ℤ a)
times_neg c a = by_ring (c ∷ a ∷ []) _ _ (search quotes depth 20) (search quotes depth 20) tt

pub neg_times : (c a : ℤ) → neg_ℤ c *ℤ a ≡ neg_ℤ (c *ℤ a)
neg_times c a = by_ring (c ∷ a ∷ []) _ _ (search quotes depth 20) (search quotes depth 20) tt

pub times_sum : (c a b : ℤ) → c *ℤ (a +ℤ b) ≡ a *ℤ c +ℤ b *ℤ c
times_sum c a b = by_ring (c ∷ a ∷ b ∷ []) _ _ (search quotes depth 20) (search quotes depth 20) tt

pub zero_product : (a : ℤ) → a *ℤ pos 0 ≡ pos 0
zero_product a = omega (arith, ints)

-- ---- the floor
-- q is the quotient of z by d, rounded down
pub record IsFloor (z d q : ℤ) : Type 0 where
  pub low : (d *ℤ q) ≤ℤ z
  pub high : z <ℤ (d *ℤ q +ℤ d)

-- Euclid's quotient is that number
pub floor_is : (z d : ℤ) → pos 0 <ℤ d → IsFloor z d (int_div_euclid z d)
floor_is (pos a) (pos (suc k)) p = record { low = omega (arith, ints); high = omega (arith, ints) }
floor_is (negsuc a) (pos (suc k)) p = record { low = omega (arith, ints); high = omega (arith, ints) }
floor_is z (pos zero) p = absurd (omega (arith, ints))
floor_is z (negsuc k) p = absurd (omega (arith, ints))

-- a greater quotient has no smaller floor
pub floor_rises : (z d q w e r : ℤ) → pos 0 <ℤ d → pos 0 <ℤ e → IsFloor z d q → IsFloor w e r → (z *ℤ e) ≤ℤ (w *ℤ d) → q ≤ℤ r
floor_rises z d q w e r p p' f g h = by_lt_z r q crossed (λ k. k)
  where
    crossed : r <ℤ q → q ≤ℤ r
    crossed k =
        let a = times_at_most e (d *ℤ q) z (omega (arith, linear)) f.low in
        let b = times_below d w (e *ℤ r +ℤ e) p g.high in
        let c = times_at_most (d *ℤ e) (r +ℤ pos 1) q (product_not_negative d e (omega (arith, linear)) (omega (arith, linear))) (omega (arith, linear)) in
        let e1 : e *ℤ (d *ℤ q) ≡ d *ℤ e *ℤ q = by_ring (d ∷ e ∷ q ∷ []) _ _ (search quotes depth 20) (search quotes depth 20) tt in
        let e2 : d *ℤ (e *ℤ r +ℤ e) ≡ d *ℤ e *ℤ (r +ℤ pos 1) = by_ring (d ∷ e ∷ r ∷ []) _ _ (search quotes depth 20) (search quotes depth 20) tt in
        let e3 = *ℤ_comm e z in
        let e4 = *ℤ_comm d w in
        absurd (omega (arith, linear))
