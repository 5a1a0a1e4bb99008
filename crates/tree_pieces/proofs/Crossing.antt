-- Values that go evenly along a line: their sign between two fractions, and where they are 0.
use Rattle.std.proofs.Common.{◌≡◌, refl, sym, ap, ◌∙◌, subst, [], ◌∷◌, Bool, true, false, arith}
use Rattle.std.proofs.lemmas.Int.{ints, by_lt_z}
use Rattle.std.specs.Prelude.{ℤ, pos, ◌+ℤ◌, ◌-ℤ◌, ◌*ℤ◌, neg_ℤ, ◌≤ℤ◌, ◌<ℤ◌, int_lt, if◌then◌else◌}
use Rattle.std.proofs.Math.IntN.{*ℤ_comm}
use Rattle.tree_pieces.specs.declared.frac.Frac.{Frac}
use Rattle.tree_pieces.specs.Fractions.{between, fraction, zero_between, IsFraction, AtMost, IsBelow}
use Rattle.lump_records.proofs.Ring.{by_ring, quotes}
use Rattle.lump_records.proofs.Signs.{linear, times_at_most, times_negative, factor_at_most, factor_below, product_not_negative, zero_product}

-- two values on one line, over one denominator, differ by the difference of the fractions times the slope
slope : (a b : ℤ) (s t : Frac) → t.d *ℤ between a b s -ℤ s.d *ℤ between a b t ≡ (b -ℤ a) *ℤ (s.n *ℤ t.d) -ℤ (b -ℤ a) *ℤ (t.n *ℤ s.d)
slope a b s t = by_ring (a ∷ b ∷ s.n ∷ s.d ∷ t.n ∷ t.d ∷ []) _ _ (search quotes depth 30 fits 20000) (search quotes depth 30 fits 20000) tt

-- on a rising line the later value is not below 0 where the earlier one isn't
rising_side : (a b : ℤ) (s t : Frac) → pos 1 ≤ℤ s.d → pos 1 ≤ℤ t.d → a ≤ℤ b → AtMost s t → pos 0 ≤ℤ between a b s → pos 0 ≤ℤ between a b t
rising_side a b s t hs ht h k z =
    let e = slope a b s t in
    let m = times_at_most (b -ℤ a) (s.n *ℤ t.d) (t.n *ℤ s.d) (omega (arith, linear)) k in
    let p = product_not_negative t.d (between a b s) (omega (arith, linear)) z in
    let o = zero_product s.d in
    factor_at_most s.d (pos 0) (between a b t) (omega (arith, linear)) (omega (arith, linear))

falling_side : (a b : ℤ) (s t : Frac) → pos 1 ≤ℤ s.d → pos 1 ≤ℤ t.d → b ≤ℤ a → AtMost s t → pos 0 ≤ℤ between a b t → pos 0 ≤ℤ between a b s
falling_side a b s t hs ht h k z =
    let e = slope a b s t in
    let m = times_negative (b -ℤ a) (s.n *ℤ t.d) (t.n *ℤ s.d) (omega (arith, linear)) k in
    let p = product_not_negative s.d (between a b t) (omega (arith, linear)) z in
    let o = zero_product t.d in
    factor_at_most t.d (pos 0) (between a b s) (omega (arith, linear)) (omega (arith, linear))

-- a half-plane that holds two points of a line holds those between
pub inside : (a b : ℤ) (s t u : Frac) → pos 1 ≤ℤ s.d → pos 1 ≤ℤ t.d → pos 1 ≤ℤ u.d → AtMost s t → AtMost t u → pos 0 ≤ℤ between a b s → pos 0 ≤ℤ between a b u → pos 0 ≤ℤ between a b t
inside a b s t u hs ht hu k l p q =
    by_lt_z b a (λ h. falling_side a b t u ht hu (omega (arith, linear)) l q) (λ h. rising_side a b s t hs ht h k p)

between_neg : (a b : ℤ) (t : Frac) → between (neg_ℤ a) (neg_ℤ b) t ≡ neg_ℤ (between a b t)
between_neg a b t = by_ring (a ∷ b ∷ t.n ∷ t.d ∷ []) _ _ (search quotes depth 30 fits 20000) (search quotes depth 30 fits 20000) tt

-- the same on the left
pub inside_left : (a b : ℤ) (s t u : Frac) → pos 1 ≤ℤ s.d → pos 1 ≤ℤ t.d → pos 1 ≤ℤ u.d → AtMost s t → AtMost t u → between a b s ≤ℤ pos 0 → between a b u ≤ℤ pos 0 → between a b t ≤ℤ pos 0
inside_left a b s t u hs ht hu k l p q =
    let es = between_neg a b s in
    let et = between_neg a b t in
    let eu = between_neg a b u in
    let r = inside (neg_ℤ a) (neg_ℤ b) s t u hs ht hu k l (omega (arith, linear)) (omega (arith, linear)) in
    omega (arith, linear)

-- ---- both values 0
pub zero_everywhere : (t : Frac) → between (pos 0) (pos 0) t ≡ pos 0
zero_everywhere t = by_ring (t.n ∷ t.d ∷ []) _ _ (search quotes depth 30 fits 20000) (search quotes depth 30 fits 20000) tt

product_zero : (c a : ℤ) → pos 0 <ℤ c → c *ℤ a ≡ pos 0 → a ≡ pos 0
product_zero c a h e =
    let z = zero_product c in
    let p = factor_at_most c a (pos 0) h (omega (arith, linear)) in
    let q = factor_at_most c (pos 0) a h (omega (arith, linear)) in
    omega (arith, linear)

-- a line whose values are 0 at two fractions has the value 0 at both ends
pub zero_at_ends : (a b : ℤ) (s t : Frac) → pos 1 ≤ℤ s.d → pos 1 ≤ℤ t.d → IsBelow s t → between a b s ≡ pos 0 → between a b t ≡ pos 0 → (a ≡ pos 0) × (b ≡ pos 0)
zero_at_ends a b s t hs ht k p q =
    let e = slope a b s t in
    let zs = ap (λ (x : ℤ). t.d *ℤ x) p ∙ zero_product t.d in
    let zt = ap (λ (x : ℤ). s.d *ℤ x) q ∙ zero_product s.d in
    let f : (t.n *ℤ s.d -ℤ s.n *ℤ t.d) *ℤ (b -ℤ a) ≡ (b -ℤ a) *ℤ (t.n *ℤ s.d) -ℤ (b -ℤ a) *ℤ (s.n *ℤ t.d) =
    by_ring (a ∷ b ∷ s.n ∷ s.d ∷ t.n ∷ t.d ∷ []) _ _ (search quotes depth 30 fits 20000)
    (search quotes depth 30 fits 20000) tt in
    let d = product_zero (t.n *ℤ s.d -ℤ s.n *ℤ t.d) (b -ℤ a) (omega (arith, linear)) (omega (arith, linear)) in
    let same : a ≡ b = omega (arith, linear) in
    let g : between a a s ≡ s.d *ℤ a = by_ring (a ∷ s.n ∷ s.d ∷ []) _ _ (search quotes depth 30 fits 20000) (search quotes depth 30 fits 20000) tt in
    let x : between a a s ≡ pos 0 = ap (λ (y : ℤ). between a y s) same ∙ p in
    let z = product_zero s.d a (omega (arith, linear)) (omega (arith, linear)) in
    (z, omega (arith, linear))

-- ---- the crossing
pub zero_falling : (a b : ℤ) → b ≤ℤ a → zero_between a b ≡ fraction a (a -ℤ b)
zero_falling a b h = by_test (int_lt a b) refl
  where
    by_test : (t : Bool) → int_lt a b ≡ t → (if t then fraction (neg_ℤ a) (b -ℤ a) else fraction a (a -ℤ b)) ≡ fraction a (a -ℤ b)
    by_test true e = absurd (omega (arith, ints))
    by_test false e = refl

-- the form of the crossing on a rising line
pub zero_rising : (a b : ℤ) → a <ℤ b → zero_between a b ≡ fraction (neg_ℤ a) (b -ℤ a)
zero_rising a b h = by_test (int_lt a b) refl
  where
    by_test : (t : Bool) → int_lt a b ≡ t → (if t then fraction (neg_ℤ a) (b -ℤ a) else fraction a (a -ℤ b)) ≡ fraction (neg_ℤ a) (b -ℤ a)
    by_test true e = refl
    by_test false e = absurd (omega (arith, ints))

-- the value there is 0
pub zero_there : (a b : ℤ) → between a b (zero_between a b) ≡ pos 0
zero_there a b = by_lt_z a b rises falls
  where
    rises : a <ℤ b → between a b (zero_between a b) ≡ pos 0
    rises h = ap (between a b) (zero_rising a b h)
        ∙ by_ring (a ∷ b ∷ []) (((b -ℤ a) -ℤ neg_ℤ a) *ℤ a +ℤ neg_ℤ a *ℤ b) (pos 0) (search quotes depth 30 fits 20000)
        (search quotes depth 30 fits 20000) tt

    falls : b ≤ℤ a → between a b (zero_between a b) ≡ pos 0
    falls h = ap (between a b) (zero_falling a b h) ∙ by_ring (a ∷ b ∷ []) (((a -ℤ b) -ℤ a) *ℤ a +ℤ a *ℤ b) (pos 0) (search quotes depth 30 fits 20000) (search quotes depth 30 fits 20000) tt

value_as : (a b : ℤ) (s : Frac) → between a b s ≡ a *ℤ s.d -ℤ s.n *ℤ (a -ℤ b)
value_as a b s = by_ring (a ∷ b ∷ s.n ∷ s.d ∷ []) _ _ (search quotes depth 30 fits 20000) (search quotes depth 30 fits 20000) tt

value_turned : (a b : ℤ) (s : Frac) → between a b s ≡ s.n *ℤ (b -ℤ a) -ℤ neg_ℤ a *ℤ s.d
value_turned a b s = by_ring (a ∷ b ∷ s.n ∷ s.d ∷ []) _ _ (search quotes depth 30 fits 20000) (search quotes depth 30 fits 20000) tt

-- a value above 0 and then below 0 falls
falls_between : (a b : ℤ) (s t : Frac) → pos 1 ≤ℤ s.d → pos 1 ≤ℤ t.d → IsBelow s t → pos 0 <ℤ between a b s → between a b t <ℤ pos 0 → b <ℤ a
falls_between a b s t hs ht k p q = by_lt_z b a (λ h. h) (λ h. let r = rising_side a b s t hs ht h (omega (arith, linear)) (omega (arith, linear)) in absurd (omega (arith, linear)))

-- a fraction strictly between two others
pub record IsCrossing (s c t : Frac) : Type 0 where
  pub positive : pos 1 ≤ℤ c.d
  pub after : IsBelow s c
  pub before : IsBelow c t

-- from the right of a ray to its left the crossing lies between
pub crossing_down : (a b : ℤ) (s t : Frac) → pos 1 ≤ℤ s.d → pos 1 ≤ℤ t.d → IsBelow s t → pos 0 <ℤ between a b s → between a b t <ℤ pos 0 → IsCrossing s (zero_between a b) t
crossing_down a b s t hs ht k p q =
    let h = falls_between a b s t hs ht k p q in
    let e = zero_falling a b (omega (arith, linear)) in
    let f = value_as a b s in
    let g = value_as a b t in
    subst (λ (c : Frac). IsCrossing s c t) (sym e) (record { positive = omega (arith, linear); after = omega (arith, linear); before = omega (arith, linear) })

-- and from its left to its right
pub crossing_up : (a b : ℤ) (s t : Frac) → pos 1 ≤ℤ s.d → pos 1 ≤ℤ t.d → IsBelow s t → between a b s <ℤ pos 0 → pos 0 <ℤ between a b t → IsCrossing s (zero_between a b) t
crossing_up a b s t hs ht k p q =
    let es = between_neg a b s in
    let et = between_neg a b t in
    let h = falls_between (neg_ℤ a) (neg_ℤ b) s t hs ht k (omega (arith, linear)) (omega (arith, linear)) in
    let e = zero_rising a b (omega (arith, linear)) in
    let f = value_turned a b s in
    let g = value_turned a b t in
    subst (λ (c : Frac). IsCrossing s c t) (sym e) (record { positive = omega (arith, linear); after = omega (arith, linear); before = omega (arith, linear) })

-- a fraction between two fractions of a line is one itself
pub crossing_in : (s c t : Frac) → IsFraction s → IsFraction t → IsCrossing s c t → c.d ≤ℤ pos 1073676289 → IsFraction c
crossing_in s c t fs ft k small =
    let p = product_not_negative s.n c.d fs.at_least_zero (let h = k.positive in omega (arith, linear)) in
    let z = zero_product s.d in
    let e = *ℤ_comm c.n s.d in
    let a = k.after in
    let b = k.before in
    let s1 = fs.positive in
    let t1 = ft.positive in
    let low = factor_below s.d (pos 0) c.n (omega (arith, linear)) (omega (arith, linear)) in
    let m = times_at_most c.d t.n t.d (let h = k.positive in omega (arith, linear)) ft.at_most_one in
    let e2 = *ℤ_comm c.n t.d in
    let e3 = *ℤ_comm t.n c.d in
    let e4 = *ℤ_comm c.d t.d in
    let high = factor_below t.d c.n c.d (omega (arith, linear)) (omega (arith, linear)) in
    record { at_least_zero = omega (arith, linear); at_most_one = omega (arith, linear); positive = k.positive; small = small }

-- ---- fractions in order
pub at_most_trans : (s t u : Frac) → pos 1 ≤ℤ s.d → pos 1 ≤ℤ t.d → pos 1 ≤ℤ u.d → AtMost s t → AtMost t u → AtMost s u
at_most_trans s t u hs ht hu p q =
    let a = times_at_most u.d (s.n *ℤ t.d) (t.n *ℤ s.d) (omega (arith, linear)) p in
    let b = times_at_most s.d (t.n *ℤ u.d) (u.n *ℤ t.d) (omega (arith, linear)) q in
    let e1 : u.d *ℤ (s.n *ℤ t.d) ≡ t.d *ℤ (s.n *ℤ u.d) = by_ring (s.n ∷ t.d ∷ u.d ∷ []) _ _ (search quotes depth 30) (search quotes depth 30) tt in
    let e2 : u.d *ℤ (t.n *ℤ s.d) ≡ s.d *ℤ (t.n *ℤ u.d) = by_ring (t.n ∷ s.d ∷ u.d ∷ []) _ _ (search quotes depth 30) (search quotes depth 30) tt in
    let e3 : s.d *ℤ (u.n *ℤ t.d) ≡ t.d *ℤ (u.n *ℤ s.d) = by_ring (u.n ∷ s.d ∷ t.d ∷ []) _ _ (search quotes depth 30) (search quotes depth 30) tt in
    factor_at_most t.d (s.n *ℤ u.d) (u.n *ℤ s.d) (omega (arith, linear)) (omega (arith, linear))
