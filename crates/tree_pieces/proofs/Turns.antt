-- The turns of a vector: its angle is one number, its highest bits are the quadrant, and its reverse is half a turn away.
use Rattle.std.proofs.Common.{◌≡◌, ◌≢◌, refl, sym, ap, ◌∙◌, subst, ℕ, zero, suc, ◌+◌, ◌*◌, ◌/◌, ◌%◌, ◌^◌, ◌<◌, ◌⊎◌, inl, inr, ⊎_elim, [], ◌∷◌, Bool, true, false, arith, pow-suc}
use Rattle.std.proofs.lemmas.Int.{ints, by_lt_z}
use Rattle.std.proofs.lemmas.Bool.{cases_order}
use Rattle.std.proofs.lemmas.Nat.{mul-lt}
use Rattle.std.proofs.Math.IntN.{*ℤ_comm}
use Rattle.std.proofs.Math.Nat.{zero-div}
use Rattle.std.specs.Prelude.{ℤ, pos, negsuc, neg_ℤ, ◌-ℤ◌, ◌*ℤ◌, ◌≤ℤ◌, ◌<ℤ◌, unsigned_abs}
use Rattle.std.specs.Int.{int_shr}
use Rattle.lump_records.proofs.Ring.{by_ring, quotes}
use Rattle.lump_records.proofs.Signs.{linear, product_positive, times_neg, neg_times, zero_product}
use Rattle.tree_pieces.proofs.Shifts.{bits_over, over_enough, over_least, not_small, small_size}
use Rattle.tree_pieces.proofs.Wide.{IsShort, short_product}
use Rattle.tree_pieces.specs.Angle.{in_lower_half, half_turns, IsIn62Bits, IsShrunk, IsDoubled, HasTurns, IsAngle, quadrant_of, flat_bits}

-- ---- one angle
-- the least shift is one number
same_shift : (x y u v u' v' : ℤ) (s : IsShrunk x y u v) (t : IsShrunk x y u' v') → s.shift ≡ t.shift
same_shift x y u v u' v' s t = by_order (cases_order s.shift t.shift)
  where
    by_order : (s.shift ≡ t.shift) ⊎ ((s.shift < t.shift) ⊎ (t.shift < s.shift)) → s.shift ≡ t.shift
    by_order (inl e) = e
    by_order (inr (inl l)) = absurd (t.least s.shift l (subst IsIn62Bits s.x_is s.x_small) (subst IsIn62Bits s.y_is s.y_small))
    by_order (inr (inr l)) = absurd (s.least t.shift l (subst IsIn62Bits t.x_is t.x_small) (subst IsIn62Bits t.y_is t.y_small))

same_shrunk : (x y u v u' v' : ℤ) → IsShrunk x y u v → IsShrunk x y u' v' → (u ≡ u') × (v ≡ v')
same_shrunk x y u v u' v' s t =
    let e = same_shift x y u v u' v' s t in
    (s.x_is ∙ ap (int_shr x) e ∙ sym t.x_is, s.y_is ∙ ap (int_shr y) e ∙ sym t.y_is)

-- a vector has one number of k turns
pub same_turns : (k : ℕ) (x y : ℤ) (a b : ℕ) → HasTurns k x y a → HasTurns k x y b → a ≡ b
unfolding HasTurns
same_turns zero x y a b h g = h ∙ sym g
same_turns (suc k) x y a b h g =
    let e = same_shrunk (x *ℤ x -ℤ y *ℤ y) (pos 2 *ℤ (x *ℤ y)) h.0 h.1 g.0 g.1 h.3 g.3 in
    let moved : HasTurns k g.0 g.1 h.2 = subst (λ (u : ℤ). HasTurns k u g.1 h.2) e.0 (subst (λ (v : ℤ). HasTurns k h.0 v h.2) e.1 h.4) in
    let rest = same_turns k g.0 g.1 h.2 g.2 moved g.4 in
    h.5 ∙ ap (λ (n : ℕ). half_turns x y * 2 ^ k + n) rest ∙ sym g.5

-- k turns are k binary digits
half_or_none : (x y : ℤ) → (half_turns x y ≡ 0) ⊎ (half_turns x y ≡ 1)
half_or_none x y = by_test (in_lower_half x y) refl
  where
    by_test : (b : Bool) → in_lower_half x y ≡ b → (half_turns x y ≡ 0) ⊎ (half_turns x y ≡ 1)
    by_test true e = inr (grind arith)
    by_test false e = inl (grind arith)

-- and it is below 2^k
pub turns_below : (k : ℕ) (x y : ℤ) (a : ℕ) → HasTurns k x y a → a < 2 ^ k
unfolding HasTurns
turns_below zero x y a h = omega (arith, h)
turns_below (suc k) x y a h =
    let rest = turns_below k h.0 h.1 h.2 h.4 in
    let double = pow-suc 2 k in
    ⊎_elim (λ e. let m = ap (λ (n : ℕ). n * 2 ^ k) e in omega (arith, h.5)) (λ e. let m = ap (λ (n : ℕ). n * 2 ^ k) e in omega (arith, h.5)) (half_or_none x y)

-- ---- the quadrant
up : (u w : ℤ) → pos 0 <ℤ w → half_turns u w ≡ 0
up u w h = grind (arith, ints)

down : (u w : ℤ) → w <ℤ pos 0 → half_turns u w ≡ 1
down u w h = grind (arith, ints)

right : (u w : ℤ) → w ≡ pos 0 → pos 0 <ℤ u → half_turns u w ≡ 0
right u w e h = grind (arith, ints)

left : (u w : ℤ) → w ≡ pos 0 → u <ℤ pos 0 → half_turns u w ≡ 1
left u w e h = grind (arith, ints)

-- the quadrant by the signs of x, y, and of the numbers u and w of the vector at twice the angle
by_signs : (x y u w : ℤ) → half_turns u w ≡ 0 → (pos 0 <ℤ x) × (pos 0 ≤ℤ y) ⊎ (x <ℤ pos 0) × (y ≤ℤ pos 0) → 2 * half_turns x y + half_turns u w ≡ quadrant_of x y
by_signs x y u w e (inl h) = grind (arith, ints)
by_signs x y u w e (inr h) = grind (arith, ints)

by_signs_one : (x y u w : ℤ) → half_turns u w ≡ 1 → (x ≤ℤ pos 0) × (pos 0 <ℤ y) ⊎ (pos 0 ≤ℤ x) × (y <ℤ pos 0) → 2 * half_turns x y + half_turns u w ≡ quadrant_of x y
by_signs_one x y u w e (inl h) = grind (arith, ints)
by_signs_one x y u w e (inr h) = grind (arith, ints)

-- the half turn of the vector at twice the angle
doubled_half : ℤ → ℤ → ℕ
doubled_half x y = half_turns (x *ℤ x -ℤ y *ℤ y) (pos 2 *ℤ (x *ℤ y))

doubled_up : (x y : ℤ) → pos 0 <ℤ (x *ℤ y) → doubled_half x y ≡ 0
unfolding doubled_half
doubled_up x y h = up (x *ℤ x -ℤ y *ℤ y) (pos 2 *ℤ (x *ℤ y)) (omega (arith, ints))

doubled_down : (x y : ℤ) → (x *ℤ y) <ℤ pos 0 → doubled_half x y ≡ 1
unfolding doubled_half
doubled_down x y h = down (x *ℤ x -ℤ y *ℤ y) (pos 2 *ℤ (x *ℤ y)) (omega (arith, ints))

doubled_right : (x y : ℤ) → x *ℤ y ≡ pos 0 → (y *ℤ y) <ℤ (x *ℤ x) → doubled_half x y ≡ 0
unfolding doubled_half
doubled_right x y e h = right (x *ℤ x -ℤ y *ℤ y) (pos 2 *ℤ (x *ℤ y)) (omega (arith, ints)) (omega (arith, linear))

doubled_left : (x y : ℤ) → x *ℤ y ≡ pos 0 → (x *ℤ x) <ℤ (y *ℤ y) → doubled_half x y ≡ 1
unfolding doubled_half
doubled_left x y e h = left (x *ℤ x -ℤ y *ℤ y) (pos 2 *ℤ (x *ℤ y)) (omega (arith, ints)) (omega (arith, linear))

square_positive : (x : ℤ) → (pos 0 <ℤ x) ⊎ (x <ℤ pos 0) → pos 0 <ℤ (x *ℤ x)
square_positive x (inl h) = product_positive x x h h
square_positive x (inr h) =
    let p = product_positive (neg_ℤ x) (neg_ℤ x) (omega (arith, linear)) (omega (arith, linear)) in
    let e = neg_times x (neg_ℤ x) in
    let f = times_neg x x in
    omega (arith, linear)

-- a vector's half turn and that of the vector at twice its angle are its quadrant
quadrant_is : (x y : ℤ) → (x ≢ pos 0) ⊎ (y ≢ pos 0) → 2 * half_turns x y + half_turns (x *ℤ x -ℤ y *ℤ y) (pos 2 *ℤ (x *ℤ y)) ≡ quadrant_of x y
unfolding doubled_half
quadrant_is x y h = by_lt_z (pos 0) x rightward (λ k. by_lt_z x (pos 0) leftward (λ l. upright (omega (arith, linear))))
  where
    even : doubled_half x y ≡ 0 → (pos 0 <ℤ x) × (pos 0 ≤ℤ y) ⊎ (x <ℤ pos 0) × (y ≤ℤ pos 0) → 2 * half_turns x y + half_turns (x *ℤ x -ℤ y *ℤ y) (pos 2 *ℤ (x *ℤ y)) ≡ quadrant_of x y
    even e s = by_signs x y (x *ℤ x -ℤ y *ℤ y) (pos 2 *ℤ (x *ℤ y)) e s

    odd : doubled_half x y ≡ 1 → (x ≤ℤ pos 0) × (pos 0 <ℤ y) ⊎ (pos 0 ≤ℤ x) × (y <ℤ pos 0) → 2 * half_turns x y + half_turns (x *ℤ x -ℤ y *ℤ y) (pos 2 *ℤ (x *ℤ y)) ≡ quadrant_of x y
    odd e s = by_signs_one x y (x *ℤ x -ℤ y *ℤ y) (pos 2 *ℤ (x *ℤ y)) e s

    flat : y ≡ pos 0 → (pos 0 <ℤ x) ⊎ (x <ℤ pos 0) → doubled_half x y ≡ 0
    flat z s =
        let p = square_positive x s in
        let e = ap (λ (v : ℤ). x *ℤ v) z in
        let f = ap (λ (v : ℤ). v *ℤ v) z in
        let o = zero_product x in
        doubled_right x y (omega (arith, linear)) (omega (arith, linear))

    rightward : pos 0 <ℤ x → 2 * half_turns x y + half_turns (x *ℤ x -ℤ y *ℤ y) (pos 2 *ℤ (x *ℤ y)) ≡ quadrant_of x y
    rightward k = by_lt_z y (pos 0)
        (λ l.
        let p = product_positive x (neg_ℤ y) k (omega (arith, linear)) in
        let e = times_neg x y in
        odd (doubled_down x y (omega (arith, linear))) (inr (omega (arith, linear), l)))
        (λ l. even (by_lt_z (pos 0) y
        (λ m. doubled_up x y (product_positive x y k m))
        (λ m. flat (omega (arith, linear)) (inl k))) (inl (k, l)))

    leftward : x <ℤ pos 0 → 2 * half_turns x y + half_turns (x *ℤ x -ℤ y *ℤ y) (pos 2 *ℤ (x *ℤ y)) ≡ quadrant_of x y
    leftward k = by_lt_z (pos 0) y
        (λ l.
        let p = product_positive (neg_ℤ x) y (omega (arith, linear)) l in
        let e = neg_times x y in
        odd (doubled_down x y (omega (arith, linear))) (inl (omega (arith, linear), l)))
        (λ l. even (by_lt_z y (pos 0)
        (λ m.
        let p = product_positive (neg_ℤ x) (neg_ℤ y) (omega (arith, linear)) (omega (arith, linear)) in
        let e = neg_times x (neg_ℤ y) in
        let f = times_neg x y in
        doubled_up x y (omega (arith, linear)))
        (λ m. flat (omega (arith, linear)) (inr k))) (inr (k, l)))

    upright : x ≡ pos 0 → 2 * half_turns x y + half_turns (x *ℤ x -ℤ y *ℤ y) (pos 2 *ℤ (x *ℤ y)) ≡ quadrant_of x y
    upright z =
        let e = ap (λ (v : ℤ). v *ℤ y) z in
        let f = ap (λ (v : ℤ). v *ℤ v) z in
        let c = *ℤ_comm (pos 0) y in
        let o = zero_product y in
        by_lt_z y (pos 0)
        (λ l. let p = square_positive y (inr l) in odd (doubled_left x y (omega (arith, linear)) (omega (arith, linear))) (inr (omega (arith, linear), l)))
        (λ l. by_lt_z (pos 0) y
        (λ m. let p = square_positive y (inl m) in odd (doubled_left x y (omega (arith, linear)) (omega (arith, linear))) (inl (omega (arith, linear), m)))
        (λ m. let zero_y : y ≡ pos 0 = omega (arith, linear) in absurd (⊎_elim (λ n. n z) (λ n. n zero_y) h)))

-- ---- a whole angle
-- numbers that are small already stay
shrunk_small : (x y u v : ℤ) → IsIn62Bits x → IsIn62Bits y → IsShrunk x y u v → (u ≡ x) × (v ≡ y)
shrunk_small x y u v hx hy s = by_shift s.shift refl
  where
    none : (z : ℤ) → int_shr z 0 ≡ z
    none (pos a) = ap pos (omega arith)
    none (negsuc a) = ap negsuc (omega arith)

    by_shift : (k : ℕ) → s.shift ≡ k → (u ≡ x) × (v ≡ y)
    by_shift zero e = (s.x_is ∙ ap (int_shr x) e ∙ none x, s.y_is ∙ ap (int_shr y) e ∙ none y)
    by_shift (suc k) e = absurd (s.least 0 (omega arith) (subst IsIn62Bits (sym (none x)) hx) (subst IsIn62Bits (sym (none y)) hy))

square_small : (x y : ℤ) → IsShort x → IsShort y → IsIn62Bits (x *ℤ x -ℤ y *ℤ y) × IsIn62Bits (pos 2 *ℤ (x *ℤ y))
square_small x y hx hy =
    let p = short_product x x hx hx in
    let q = short_product y y hy hy in
    let r = short_product x y hx hy in
    ((omega (arith, ints), omega (arith, ints)), (omega (arith, ints), omega (arith, ints)))

-- the two highest bits of an angle
pub angle_quadrant : (x y : ℤ) (a : ℕ) → (x ≢ pos 0) ⊎ (y ≢ pos 0) → IsShort x → IsShort y → IsAngle x y a → a / 16384 ≡ quadrant_of x y
unfolding HasTurns
angle_quadrant x y a n hx hy h =
    let small = square_small x y hx hy in
    let same = shrunk_small (x *ℤ x -ℤ y *ℤ y) (pos 2 *ℤ (x *ℤ y)) h.0 h.1 small.0 small.1 h.3 in
    let second = ap (λ (v : ℤ). half_turns v h.1) same.0 ∙ ap (half_turns (x *ℤ x -ℤ y *ℤ y)) same.1 in
    let first_bit = h.5 in
    let second_bit = h.4.5 in
    let below = turns_below 14 h.4.0 h.4.1 h.4.2 h.4.4 in
    let q = quadrant_is x y n in
    omega arith

-- exactly one of a vector and its reverse has the half turn
one_half : (x y : ℤ) → (x ≢ pos 0) ⊎ (y ≢ pos 0) → half_turns x y + half_turns (neg_ℤ x) (neg_ℤ y) ≡ 1
one_half x y n = grind (arith, ints)

-- the angles of a vector and of its reverse
pub angle_reversed : (x y : ℤ) (a b : ℕ) → (x ≢ pos 0) ⊎ (y ≢ pos 0) → IsAngle x y a → IsAngle (neg_ℤ x) (neg_ℤ y) b → (b ≡ a + 32768) ⊎ (a ≡ b + 32768)
unfolding HasTurns
angle_reversed x y a b n h g =
    let sx : neg_ℤ x *ℤ neg_ℤ x -ℤ neg_ℤ y *ℤ neg_ℤ y ≡ x *ℤ x -ℤ y *ℤ y = by_ring (x ∷ y ∷ []) _ _ (search quotes depth 30 fits 20000) (search quotes depth 30 fits 20000) tt in
    let sy : pos 2 *ℤ (neg_ℤ x *ℤ neg_ℤ y) ≡ pos 2 *ℤ (x *ℤ y) = by_ring (x ∷ y ∷ []) _ _ (search quotes depth 30 fits 20000) (search quotes depth 30 fits 20000) tt in
    let there = subst (λ (u : ℤ). IsShrunk u (pos 2 *ℤ (x *ℤ y)) g.0 g.1) sx (subst (λ (v : ℤ). IsShrunk (neg_ℤ x *ℤ neg_ℤ x -ℤ neg_ℤ y *ℤ neg_ℤ y) v g.0 g.1) sy g.3) in
    let e = same_shrunk (x *ℤ x -ℤ y *ℤ y) (pos 2 *ℤ (x *ℤ y)) h.0 h.1 g.0 g.1 h.3 there in
    let moved : HasTurns 15 g.0 g.1 h.2 = subst (λ (u : ℤ). HasTurns 15 u g.1 h.2) e.0 (subst (λ (v : ℤ). HasTurns 15 h.0 v h.2) e.1 h.4) in
    let rest = same_turns 15 g.0 g.1 h.2 g.2 moved g.4 in
    let first = h.5 in
    let other = g.5 in
    let one = one_half x y n in
    ⊎_elim (λ z. inl (omega arith)) (λ z. inr (omega arith)) (half_or_none x y)

-- the angle of the reversed vector, half a turn further
pub angle_opposite : (x y : ℤ) (a : ℕ) → (x ≢ pos 0) ⊎ (y ≢ pos 0) → IsAngle x y a → IsAngle (neg_ℤ x) (neg_ℤ y) ((a + 32768) % 65536)
unfolding HasTurns
angle_opposite x y a n h =
    let sx : x *ℤ x -ℤ y *ℤ y ≡ neg_ℤ x *ℤ neg_ℤ x -ℤ neg_ℤ y *ℤ neg_ℤ y = by_ring (x ∷ y ∷ []) _ _ (search quotes depth 30 fits 20000) (search quotes depth 30 fits 20000) tt in
    let sy : pos 2 *ℤ (x *ℤ y) ≡ pos 2 *ℤ (neg_ℤ x *ℤ neg_ℤ y) = by_ring (x ∷ y ∷ []) _ _ (search quotes depth 30 fits 20000) (search quotes depth 30 fits 20000) tt in
    let there = subst (λ (u : ℤ). IsShrunk u (pos 2 *ℤ (neg_ℤ x *ℤ neg_ℤ y)) h.0 h.1) sx (subst (λ (v : ℤ). IsShrunk (x *ℤ x -ℤ y *ℤ y) v h.0 h.1) sy h.3) in
    let first = h.5 in
    let below = turns_below 15 h.0 h.1 h.2 h.4 in
    let one = one_half x y n in
    let other : (a + 32768) % 65536 ≡ half_turns (neg_ℤ x) (neg_ℤ y) * 32768 + h.2 = ⊎_elim (λ z. omega arith) (λ z. omega arith) (half_or_none x y) in
    (h.0, h.1, h.2, there, h.4, other)

-- ---- the bits one by one
regroup : (a h p r : ℕ) → a * (p * 2) + (h * p + r) ≡ (2 * a + h) * p + r
regroup a h p r = omega arith

turned_once : (k : ℕ) (v w v' w' : ℤ) (rest : ℕ) → IsDoubled v w v' w' → HasTurns k v' w' rest → HasTurns (suc k) v w (half_turns v w * 2 ^ k + rest)
unfolding HasTurns
turned_once k v w v' w' rest d h = (v', w', rest, d, h, refl)

none_left : (v w : ℤ) → HasTurns 0 v w 0
unfolding HasTurns
none_left v w = refl

-- one more bit: what completed the bits before it completes them with it
pub one_more : (k : ℕ) (x y v w v' w' : ℤ) (angle : ℕ) → IsDoubled v w v' w'
    → ((rest : ℕ) → HasTurns (suc k) v w rest → IsAngle x y (angle * 2 ^ suc k + rest)) → (rest : ℕ)
    → HasTurns k v' w' rest → IsAngle x y ((2 * angle + half_turns v w) * 2 ^ k + rest)
one_more k x y v w v' w' angle double completes rest h =
    let whole = completes (half_turns v w * 2 ^ k + rest) (turned_once k v w v' w' rest double h) in
    let sum = ap (λ (p : ℕ). angle * p + (half_turns v w * 2 ^ k + rest)) (pow-suc 2 k) ∙ regroup angle (half_turns v w) (2 ^ k) rest in
    subst (IsAngle x y) sum whole

-- ---- along the x axis
-- a square that isn't below zero shrinks to a number that isn't either
record HasShrunk (n : ℕ) : Type 0 where
  to : ℕ
  shrunk : IsShrunk (pos n) (pos 0) (pos to) (pos 0)

has_shrunk : (n : ℕ) → n < 2 ^ 128 → HasShrunk n
has_shrunk n h =
    let k = bits_over n in
    record {
      to = n / 2 ^ k;
      shrunk = record {
        shift = k;
        x_is = refl;
        y_is = none k;
        x_small = small_size n k (over_enough n h);
        y_small = (omega (arith, ints), omega (arith, ints));
        least = λ less l s t. not_small (pos n) less (less + 62) (omega arith) (over_least n less h l) s;
      };
    }
  where
    none : (j : ℕ) → pos 0 ≡ int_shr (pos 0) j
    none j = ap pos (sym (zero-div (2 ^ j)))

square_is : (x : ℤ) → pos (unsigned_abs x * unsigned_abs x) ≡ x *ℤ x
square_is (pos a) = refl
square_is (negsuc a) = refl

size_below : (x : ℤ) → IsIn62Bits x → unsigned_abs x < 2 ^ 62
size_below (pos a) h = let l = h.1 in omega (arith, ints)
size_below (negsuc a) h = let l : neg_ℤ (pos 4611686018427387904) <ℤ negsuc a = h.0 in omega (arith, ints)

flat_right : (k m : ℕ) → flat_bits k (pos m) ≡ 0
flat_right zero m = refl
flat_right (suc k) m = grind (arith, ints)

first_bit : (k : ℕ) (x : ℤ) → flat_bits (suc k) x ≡ half_turns x (pos 0) * 2 ^ k + 0
first_bit k (pos m) =
    let e : half_turns (pos m) (pos 0) ≡ 0 = grind (arith, ints) in
    flat_right (suc k) m ∙ sym (ap (λ (n : ℕ). n * 2 ^ k + 0) e ∙ omega arith)
first_bit k (negsuc m) =
    let e : half_turns (negsuc m) (pos 0) ≡ 1 = grind (arith, ints) in
    let f : flat_bits (suc k) (negsuc m) ≡ 2 ^ k = grind (arith, ints) in
    f ∙ sym (ap (λ (n : ℕ). n * 2 ^ k + 0) e ∙ omega arith)

-- no bit but the first is set
pub flat_turns : (k : ℕ) (x : ℤ) → IsIn62Bits x → HasTurns k x (pos 0) (flat_bits k x)
unfolding HasTurns
flat_turns zero x h = refl
flat_turns (suc k) x h =
    let n = unsigned_abs x * unsigned_abs x in
    let l = size_below x h in
    let p : n < 2 ^ 62 * 2 ^ 62 = mul-lt (unsigned_abs x) (unsigned_abs x) (2 ^ 62) (2 ^ 62) l l in
    let s = has_shrunk n (omega arith) in
    let z = zero_product x in
    let f = zero_product (pos 0) in
    let e = square_is x in
    let ex : pos n ≡ x *ℤ x -ℤ pos 0 *ℤ pos 0 = omega (arith, linear) in
    let ey : pos 0 ≡ pos 2 *ℤ (x *ℤ pos 0) = sym (ap (λ (w : ℤ). pos 2 *ℤ w) z) in
    let double = subst (λ (u : ℤ). IsShrunk u (pos 2 *ℤ (x *ℤ pos 0)) (pos s.to) (pos 0)) ex (subst (λ (v : ℤ). IsShrunk (pos n) v (pos s.to) (pos 0)) ey s.shrunk) in
    let rest = subst (HasTurns k (pos s.to) (pos 0)) (flat_right k s.to) (flat_turns k (pos s.to) s.shrunk.x_small) in
    (pos s.to, pos 0, 0, double, rest, first_bit k x)

-- all bits: none is left, or the vector lies along the x axis
pub all_found : (left : ℕ) (x y v w : ℤ) (angle : ℕ) → IsIn62Bits v → (left ≡ 0) ⊎ (w ≡ pos 0)
    → ((rest : ℕ) → HasTurns left v w rest → IsAngle x y (angle * 2 ^ left + rest))
    → IsAngle x y (angle * 2 ^ left + flat_bits left v)
all_found left x y v w angle h (inl e) completes = completes (flat_bits left v) (subst (λ (k : ℕ). HasTurns k v w (flat_bits k v)) (sym e) (none_left v w))
all_found left x y v w angle h (inr e) completes = completes (flat_bits left v) (subst (λ (z : ℤ). HasTurns left v z (flat_bits left v)) (sym e) (flat_turns left v h))
