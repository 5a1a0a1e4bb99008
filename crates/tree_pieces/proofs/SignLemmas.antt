-- Two values of which one is the other times a number above 0: they have one sign, and so the places agree.
use Rattle.std.proofs.Common.{◌≡◌, sym, ap, ⊎_elim, arith}
use Rattle.std.proofs.lemmas.Int.{ints, by_lt_z}
use Rattle.std.specs.Prelude.{ℤ, pos, ◌*ℤ◌, neg_ℤ, ◌≤ℤ◌, ◌<ℤ◌}
use Rattle.tree_pieces.specs.declared.piece.Place.{Place}
use Rattle.tree_pieces.specs.declared.piece.Place.TheVariants.{Right, Left, Across}
use Rattle.tree_pieces.specs.Division.{place_by}
use Rattle.tree_pieces.proofs.Placing.{Means, place_means}
use Rattle.lump_records.proofs.Signs.{linear, times_below, times_neg, neg_times, factor_at_most, factor_below, zero_product}

-- the second value has the sign of the first
pub record HasSign (x y : ℤ) : Type 0 where
  pub above : pos 0 <ℤ x → pos 0 <ℤ y
  pub below : x <ℤ pos 0 → y <ℤ pos 0
  pub zero : x ≡ pos 0 → y ≡ pos 0

-- the second value is the first times m/k
pub has_sign : (k m x y : ℤ) → pos 0 <ℤ k → pos 0 <ℤ m → k *ℤ y ≡ m *ℤ x → HasSign x y
has_sign k m x y hk hm e =
    let zk = zero_product k in
    let zm = zero_product m in
    record {
      above = λ h. let t = times_below m (pos 0) x hm h in factor_below k (pos 0) y (omega (arith, linear)) (omega (arith, linear));
      below = λ h. let t = times_below m x (pos 0) hm h in factor_below k y (pos 0) (omega (arith, linear)) (omega (arith, linear));
      zero = λ h.
          let t = ap (λ (z : ℤ). m *ℤ z) h in
          let a = factor_at_most k (pos 0) y hk (omega (arith, linear)) in
          let b = factor_at_most k y (pos 0) hk (omega (arith, linear)) in
          omega (arith, linear);
    }

-- the second value has the other sign
pub record HasOther (x y : ℤ) : Type 0 where
  pub above : pos 0 <ℤ x → y <ℤ pos 0
  pub below : x <ℤ pos 0 → pos 0 <ℤ y
  pub zero : x ≡ pos 0 → y ≡ pos 0

pub has_other : (k m x y : ℤ) → pos 0 <ℤ k → m <ℤ pos 0 → k *ℤ y ≡ m *ℤ x → HasOther x y
has_other k m x y hk hm e =
    let n = times_neg k y in
    let o = neg_times m x in
    let s = has_sign k (neg_ℤ m) x (neg_ℤ y) hk (omega (arith, linear)) (omega (arith, linear)) in
    record {
      above = λ h. let t = s.above h in omega (arith, linear);
      below = λ h. let t = s.below h in omega (arith, linear);
      zero = λ h. let t = s.zero h in omega (arith, linear);
    }

-- ---- places
pub right_if : (u w z : ℤ) → pos 0 ≤ℤ u → pos 0 ≤ℤ w → (u ≡ pos 0 → w ≡ pos 0 → pos 0 <ℤ z) → place_by u w z ≡ Right
right_if u w z h k d = grind (arith, ints)

pub left_if : (u w z : ℤ) → u ≤ℤ pos 0 → w ≤ℤ pos 0 → (u ≡ pos 0 → w ≡ pos 0 → z ≤ℤ pos 0) → place_by u w z ≡ Left
left_if u w z h k d = grind (arith, ints)

across_down : (u w z : ℤ) → pos 0 <ℤ u → w <ℤ pos 0 → place_by u w z ≡ Across
across_down u w z h k = grind (arith, ints)

across_up : (u w z : ℤ) → u <ℤ pos 0 → pos 0 <ℤ w → place_by u w z ≡ Across
across_up u w z h k = grind (arith, ints)

not_below : (x y : ℤ) → HasSign x y → pos 0 ≤ℤ x → pos 0 ≤ℤ y
not_below x y s h = by_lt_z (pos 0) x (λ l. let t = s.above l in omega (arith, linear)) (λ l. let t = s.zero (omega (arith, linear)) in omega (arith, linear))

not_above : (x y : ℤ) → HasSign x y → x ≤ℤ pos 0 → y ≤ℤ pos 0
not_above x y s h = by_lt_z x (pos 0) (λ l. let t = s.below l in omega (arith, linear)) (λ l. let t = s.zero (omega (arith, linear)) in omega (arith, linear))

zero_back : (x y : ℤ) → HasSign x y → y ≡ pos 0 → x ≡ pos 0
zero_back x y s e =
    by_lt_z x (pos 0) (λ l. let t = s.below l in absurd (omega (arith, linear)))
    (λ l. by_lt_z (pos 0) x (λ k. let t = s.above k in absurd (omega (arith, linear))) (λ k. omega (arith, linear)))

-- the places agree where the signs do
pub same_place_by : (u w z u' w' z' : ℤ) → HasSign u u' → HasSign w w' → HasSign z z' → place_by u w z ≡ place_by u' w' z'
same_place_by u w z u' w' z' su sw sz = by_place (place_by u w z) (place_means u w z)
  where
    by_place : (place : Place) → Means u w z place → place ≡ place_by u' w' z'
    by_place Right m = sym (right_if u' w' z' (not_below u u' su m.from) (not_below w w' sw m.to) (λ e f. sz.above (m.direction (zero_back u u' su e) (zero_back w w' sw f))))
    by_place Left m = sym (left_if u' w' z' (not_above u u' su m.from) (not_above w w' sw m.to) (λ e f. not_above z z' sz (m.direction (zero_back u u' su e) (zero_back w w' sw f))))
    by_place Across m = sym (⊎_elim (λ d. across_down u' w' z' (su.above d.0) (sw.below d.1)) (λ d. across_up u' w' z' (su.below d.0) (sw.above d.1)) m)

-- right and left exchanged
abbrev pub turned : Place → Place
turned Right = Left
turned Left = Right
turned Across = Across

below_or_zero : (x y : ℤ) → HasOther x y → pos 0 ≤ℤ x → y ≤ℤ pos 0
below_or_zero x y s h = by_lt_z (pos 0) x (λ l. let t = s.above l in omega (arith, linear)) (λ l. let t = s.zero (omega (arith, linear)) in omega (arith, linear))

above_or_zero : (x y : ℤ) → HasOther x y → x ≤ℤ pos 0 → pos 0 ≤ℤ y
above_or_zero x y s h = by_lt_z x (pos 0) (λ l. let t = s.below l in omega (arith, linear)) (λ l. let t = s.zero (omega (arith, linear)) in omega (arith, linear))

other_back : (x y : ℤ) → HasOther x y → y ≡ pos 0 → x ≡ pos 0
other_back x y s e =
    by_lt_z x (pos 0) (λ l. let t = s.below l in absurd (omega (arith, linear)))
    (λ l. by_lt_z (pos 0) x (λ k. let t = s.above k in absurd (omega (arith, linear))) (λ k. omega (arith, linear)))

-- and are exchanged where the signs are, unless all three are 0
pub turned_place_by : (u w z u' w' z' : ℤ) → HasOther u u' → HasOther w w' → HasOther z z' → (u ≡ pos 0 → w ≡ pos 0 → z ≡ pos 0 → ⊥) → turned (place_by u w z) ≡ place_by u' w' z'
turned_place_by u w z u' w' z' su sw sz nz = by_place (place_by u w z) (place_means u w z)
  where
    by_place : (place : Place) → Means u w z place → turned place ≡ place_by u' w' z'
    by_place Right m =
        sym (left_if u' w' z' (below_or_zero u u' su m.from) (below_or_zero w w' sw m.to)
        (λ e f. below_or_zero z z' sz (let d =
        m.direction (other_back u u' su e) (other_back w w' sw f) in omega (arith, linear))))
    by_place Left m =
        sym (right_if u' w' z' (above_or_zero u u' su m.from) (above_or_zero w w' sw m.to)
        (λ e f. let ze = other_back u u' su e in let zf = other_back w w' sw f in let d =
        m.direction ze zf in by_lt_z z (pos 0) sz.below (λ l. absurd (nz ze zf (omega (arith, linear))))))
    by_place Across m = sym (⊎_elim (λ d. across_up u' w' z' (su.above d.0) (sw.below d.1)) (λ d. across_down u' w' z' (su.below d.0) (sw.above d.1)) m)
