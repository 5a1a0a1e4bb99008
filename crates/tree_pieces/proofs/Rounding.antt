-- Rounded points: within half a step of the exact point, in the order of their fractions.
use Rattle.std.proofs.Common.{◌≡◌, refl, sym, ap, subst, ℕ, suc, ◌≤◌, [], ◌∷◌, arith}
use Rattle.std.proofs.lemmas.Int.{ints, by_lt_z}
use Rattle.std.specs.Prelude.{ℤ, pos, negsuc, ◌+ℤ◌, ◌-ℤ◌, ◌*ℤ◌, neg_ℤ, ◌≤ℤ◌, ◌<ℤ◌, unsigned_abs}
use Rattle.std.specs.Int.{int_div_euclid}
use Rattle.std.proofs.Math.IntN.{*ℤ_comm}
use Rattle.tree_pieces.specs.declared.edge.Edge.{Edge}
use Rattle.tree_pieces.specs.declared.frac.Frac.{Frac}
use Rattle.lump_records.specs.declared.plane.Ray.{Ray}
use Rattle.tree_pieces.specs.Plane.{vertex_value, blur, NearRight, NearLeft}
use Rattle.tree_pieces.specs.Fractions.{IsFraction, exact_value, AtMost, rounded, twice_error, point_at, steps_between}
use Rattle.lump_records.proofs.Ring.{by_ring, quotes}
use Rattle.lump_records.proofs.Signs.{linear, IsFloor, floor_is, floor_rises, times_at_most, times_negative, factor_at_most, times_neg, neg_times, times_sum, zero_product}
use borrow.Author.Differences.{abs_is}

-- how far from the start a rounded coordinate is, as a floor
rounded_floor : (a b : ℤ) (t : Frac) → pos 1 ≤ℤ t.d → IsFloor (pos 2 *ℤ t.n *ℤ (b -ℤ a) +ℤ t.d) (pos 2 *ℤ t.d) (rounded a b t -ℤ a)
unfolding rounded
rounded_floor a b t h =
    let q = int_div_euclid (pos 2 *ℤ t.n *ℤ (b -ℤ a) +ℤ t.d) (pos 2 *ℤ t.d) in
    let f = floor_is (pos 2 *ℤ t.n *ℤ (b -ℤ a) +ℤ t.d) (pos 2 *ℤ t.d) (omega (arith, ints)) in
    let e : a +ℤ q -ℤ a ≡ q = omega (arith, linear) in
    subst (IsFloor (pos 2 *ℤ t.n *ℤ (b -ℤ a) +ℤ t.d) (pos 2 *ℤ t.d)) (sym e) f

-- the error is at most half a step
pub error_bounds : (a b : ℤ) (t : Frac) → pos 1 ≤ℤ t.d → (neg_ℤ t.d <ℤ twice_error a b t) × (twice_error a b t ≤ℤ t.d)
error_bounds a b t h =
    let R = rounded a b t in
    let f = rounded_floor a b t h in
    let e : twice_error a b t ≡ (pos 2 *ℤ t.d) *ℤ (R -ℤ a) -ℤ (pos 2 *ℤ t.n *ℤ (b -ℤ a) +ℤ t.d) +ℤ t.d =
    by_ring (a ∷ b ∷ R ∷ t.n ∷ t.d ∷ []) _ _ (search quotes depth 30 fits 20000)
    (search quotes depth 30 fits 20000) tt in
    let e2 : pos 2 *ℤ t.d ≡ t.d +ℤ t.d = omega (arith, ints) in
    let l = f.low in
    let g = f.high in
    (omega (arith, linear), omega (arith, linear))

-- ---- the side value of a rounded point
within_product : (c u d : ℤ) → neg_ℤ d ≤ℤ u → u ≤ℤ d → (neg_ℤ (pos (unsigned_abs c) *ℤ d) ≤ℤ (c *ℤ u)) × ((c *ℤ u) ≤ℤ (pos (unsigned_abs c) *ℤ d))
within_product (pos c) u d l h =
    let p = times_at_most (pos c) u d (omega (arith, ints)) h in
    let q = times_at_most (pos c) (neg_ℤ d) u (omega (arith, ints)) l in
    let e = times_neg (pos c) d in
    (omega (arith, linear), omega (arith, linear))
within_product (negsuc c) u d l h =
    let p = times_at_most (pos (suc c)) u d (omega (arith, ints)) h in
    let q = times_at_most (pos (suc c)) (neg_ℤ d) u (omega (arith, ints)) l in
    let e = times_neg (pos (suc c)) d in
    let k = neg_times (pos (suc c)) u in
    (omega (arith, linear), omega (arith, linear))

-- rounding moves twice a side value by at most the blur
pub blurred : (r : Ray) (e : Edge) (t : Frac) → pos 1 ≤ℤ t.d
    → (neg_ℤ (t.d *ℤ pos (blur r)) ≤ℤ (pos 2 *ℤ (t.d *ℤ vertex_value r (point_at e t) -ℤ exact_value r e t)))
    × ((pos 2 *ℤ (t.d *ℤ vertex_value r (point_at e t) -ℤ exact_value r e t)) ≤ℤ (t.d *ℤ pos (blur r)))
blurred r e t h =
    let X = rounded e.v1.x e.v2.x t in
    let Y = rounded e.v1.y e.v2.y t in
    let u = error_bounds e.v1.x e.v2.x t h in
    let v = error_bounds e.v1.y e.v2.y t h in
    let p = within_product r.dy (twice_error e.v1.x e.v2.x t) t.d (omega (arith, linear)) u.1 in
    let q = within_product r.dx (twice_error e.v1.y e.v2.y t) t.d (omega (arith, linear)) v.1 in
    let k : pos 2 *ℤ (t.d *ℤ vertex_value r (point_at e t) -ℤ exact_value r e t) ≡ r.dy *ℤ twice_error e.v1.x e.v2.x t -ℤ r.dx *ℤ twice_error e.v1.y e.v2.y t =
    by_ring (X ∷ Y ∷ t.n ∷ t.d ∷ r.dx ∷ r.dy ∷ r.start.x ∷ r.start.y ∷ e.v1.x ∷ e.v1.y ∷ e.v2.x ∷ e.v2.y ∷ []) _ _ (search quotes depth 40 fits 60000) (search quotes depth 40 fits 60000) tt in
    let m : t.d *ℤ pos (blur r) ≡ pos (unsigned_abs r.dx) *ℤ t.d +ℤ pos (unsigned_abs r.dy) *ℤ t.d = times_sum t.d (pos (unsigned_abs r.dx)) (pos (unsigned_abs r.dy)) in
    (omega (arith, linear), omega (arith, linear))

-- so a point on the right stays there to within rounding
pub near_right : (r : Ray) (e : Edge) (t : Frac) → pos 1 ≤ℤ t.d → pos 0 ≤ℤ exact_value r e t → NearRight r (point_at e t)
near_right r e t h k =
    let b = blurred r e t h in
    let E = exact_value r e t in
    let s : pos 2 *ℤ (t.d *ℤ vertex_value r (point_at e t) -ℤ E)
    ≡ t.d *ℤ (pos 2 *ℤ vertex_value r (point_at e t)) -ℤ (E +ℤ E) =
    by_ring (t.d ∷ vertex_value r (point_at e t) ∷ E ∷ []) _ _ (search quotes depth 20)
    (search quotes depth 20) tt in
    let m = times_neg t.d (pos (blur r)) in
    factor_at_most t.d (neg_ℤ (pos (blur r))) (pos 2 *ℤ vertex_value r (point_at e t)) (omega (arith, linear)) (omega (arith, linear))

-- and one on the left
pub near_left : (r : Ray) (e : Edge) (t : Frac) → pos 1 ≤ℤ t.d → exact_value r e t ≤ℤ pos 0 → NearLeft r (point_at e t)
near_left r e t h k =
    let b = blurred r e t h in
    let E = exact_value r e t in
    let s : pos 2 *ℤ (t.d *ℤ vertex_value r (point_at e t) -ℤ E)
    ≡ t.d *ℤ (pos 2 *ℤ vertex_value r (point_at e t)) -ℤ (E +ℤ E) =
    by_ring (t.d ∷ vertex_value r (point_at e t) ∷ E ∷ []) _ _ (search quotes depth 20)
    (search quotes depth 20) tt in
    factor_at_most t.d (pos 2 *ℤ vertex_value r (point_at e t)) (pos (blur r)) (omega (arith, linear)) (omega (arith, linear))

-- ---- the order of rounded points
pub rounded_rises : (a b : ℤ) (s t : Frac) → pos 1 ≤ℤ s.d → pos 1 ≤ℤ t.d → a ≤ℤ b → AtMost s t → rounded a b s ≤ℤ rounded a b t
rounded_rises a b s t hs ht h k =
    let f = rounded_floor a b s hs in
    let g = rounded_floor a b t ht in
    let m = times_at_most (b -ℤ a) (s.n *ℤ t.d) (t.n *ℤ s.d) (omega (arith, linear)) k in
    let e1 : (pos 2 *ℤ s.n *ℤ (b -ℤ a) +ℤ s.d) *ℤ (pos 2 *ℤ t.d)
    ≡ pos 4 *ℤ ((b -ℤ a) *ℤ (s.n *ℤ t.d)) +ℤ pos 2 *ℤ (s.d *ℤ t.d) =
    by_ring (a ∷ b ∷ s.n ∷ s.d ∷ t.n ∷ t.d ∷ []) _ _ (search quotes depth 20 fits 20000)
    (search quotes depth 20 fits 20000) tt in
    let e2 : (pos 2 *ℤ t.n *ℤ (b -ℤ a) +ℤ t.d) *ℤ (pos 2 *ℤ s.d)
    ≡ pos 4 *ℤ ((b -ℤ a) *ℤ (t.n *ℤ s.d)) +ℤ pos 2 *ℤ (s.d *ℤ t.d) =
    by_ring (a ∷ b ∷ s.n ∷ s.d ∷ t.n ∷ t.d ∷ []) _ _ (search quotes depth 20 fits 20000)
    (search quotes depth 20 fits 20000) tt in
    let m4 = times_at_most (pos 4) ((b -ℤ a) *ℤ (s.n *ℤ t.d)) ((b -ℤ a) *ℤ (t.n *ℤ s.d)) (omega (arith, ints)) m in
    let r = floor_rises _ (pos 2 *ℤ s.d) (rounded a b s -ℤ a) _ (pos 2 *ℤ t.d) (rounded a b t -ℤ a) (omega (arith, ints)) (omega (arith, ints)) f g (omega (arith, linear)) in
    omega (arith, linear)

-- the other way round on a falling line
pub rounded_falls : (a b : ℤ) (s t : Frac) → pos 1 ≤ℤ s.d → pos 1 ≤ℤ t.d → b ≤ℤ a → AtMost s t → rounded a b t ≤ℤ rounded a b s
rounded_falls a b s t hs ht h k =
    let f = rounded_floor a b s hs in
    let g = rounded_floor a b t ht in
    let m = times_negative (b -ℤ a) (s.n *ℤ t.d) (t.n *ℤ s.d) (omega (arith, linear)) k in
    let e1 : (pos 2 *ℤ s.n *ℤ (b -ℤ a) +ℤ s.d) *ℤ (pos 2 *ℤ t.d)
    ≡ pos 4 *ℤ ((b -ℤ a) *ℤ (s.n *ℤ t.d)) +ℤ pos 2 *ℤ (s.d *ℤ t.d) =
    by_ring (a ∷ b ∷ s.n ∷ s.d ∷ t.n ∷ t.d ∷ []) _ _ (search quotes depth 20 fits 20000)
    (search quotes depth 20 fits 20000) tt in
    let e2 : (pos 2 *ℤ t.n *ℤ (b -ℤ a) +ℤ t.d) *ℤ (pos 2 *ℤ s.d)
    ≡ pos 4 *ℤ ((b -ℤ a) *ℤ (t.n *ℤ s.d)) +ℤ pos 2 *ℤ (s.d *ℤ t.d) =
    by_ring (a ∷ b ∷ s.n ∷ s.d ∷ t.n ∷ t.d ∷ []) _ _ (search quotes depth 20 fits 20000)
    (search quotes depth 20 fits 20000) tt in
    let m4 = times_at_most (pos 4) ((b -ℤ a) *ℤ (t.n *ℤ s.d)) ((b -ℤ a) *ℤ (s.n *ℤ t.d)) (omega (arith, ints)) m in
    let r = floor_rises _ (pos 2 *ℤ t.d) (rounded a b t -ℤ a) _ (pos 2 *ℤ s.d) (rounded a b s -ℤ a) (omega (arith, ints)) (omega (arith, ints)) g f (omega (arith, linear)) in
    omega (arith, linear)

-- ---- rounded coordinates lie between the ends
one_half : IsFloor (pos 1) (pos 2) (pos 0)
one_half = record { low = omega (arith, ints); high = omega (arith, ints) }

turned_fraction : (n d x : ℤ) → (pos 2 *ℤ n *ℤ x +ℤ d) *ℤ pos 2 ≡ pos 4 *ℤ (n *ℤ x) +ℤ pos 1 *ℤ (pos 2 *ℤ d)
turned_fraction n d x = by_ring (n ∷ d ∷ x ∷ []) _ _ (search quotes depth 20) (search quotes depth 20) tt

-- a rounded coordinate is not below the lower start
pub from_low : (a b : ℤ) (t : Frac) → pos 1 ≤ℤ t.d → pos 0 ≤ℤ t.n → a ≤ℤ b → a ≤ℤ rounded a b t
from_low a b t h k l =
    let f = rounded_floor a b t h in
    let p = times_at_most t.n (pos 0) (b -ℤ a) k (omega (arith, linear)) in
    let z = zero_product t.n in
    let e = turned_fraction t.n t.d (b -ℤ a) in
    let four = times_at_most (pos 4) (pos 0) (t.n *ℤ (b -ℤ a)) (omega (arith, ints)) (omega (arith, linear)) in
    let r = floor_rises (pos 1) (pos 2) (pos 0) _ (pos 2 *ℤ t.d) (rounded a b t -ℤ a) (omega (arith, ints)) (omega (arith, ints)) one_half f (omega (arith, linear)) in
    omega (arith, linear)

-- not above the higher start
pub from_high : (a b : ℤ) (t : Frac) → pos 1 ≤ℤ t.d → pos 0 ≤ℤ t.n → b ≤ℤ a → rounded a b t ≤ℤ a
from_high a b t h k l =
    let f = rounded_floor a b t h in
    let p = times_at_most t.n (b -ℤ a) (pos 0) k (omega (arith, linear)) in
    let z = zero_product t.n in
    let e = turned_fraction t.n t.d (b -ℤ a) in
    let four = times_at_most (pos 4) (t.n *ℤ (b -ℤ a)) (pos 0) (omega (arith, ints)) (omega (arith, linear)) in
    let r = floor_rises _ (pos 2 *ℤ t.d) (rounded a b t -ℤ a) (pos 1) (pos 2) (pos 0) (omega (arith, ints)) (omega (arith, ints)) f one_half (omega (arith, linear)) in
    omega (arith, linear)

whole_floor : (x : ℤ) → IsFloor (pos 2 *ℤ x +ℤ pos 1) (pos 2) x
whole_floor x = record { low = omega (arith, ints); high = omega (arith, ints) }

whole_fraction : (d x : ℤ) → (pos 2 *ℤ x +ℤ pos 1) *ℤ (pos 2 *ℤ d) ≡ pos 4 *ℤ (d *ℤ x) +ℤ pos 1 *ℤ (pos 2 *ℤ d)
whole_fraction d x = by_ring (d ∷ x ∷ []) _ _ (search quotes depth 20) (search quotes depth 20) tt

-- not above the higher end
pub to_high : (a b : ℤ) (t : Frac) → pos 1 ≤ℤ t.d → t.n ≤ℤ t.d → a ≤ℤ b → rounded a b t ≤ℤ b
to_high a b t h k l =
    let f = rounded_floor a b t h in
    let p = times_at_most (b -ℤ a) t.n t.d (omega (arith, linear)) k in
    let c1 = *ℤ_comm (b -ℤ a) t.n in
    let c2 = *ℤ_comm (b -ℤ a) t.d in
    let e = turned_fraction t.n t.d (b -ℤ a) in
    let g = whole_fraction t.d (b -ℤ a) in
    let four = times_at_most (pos 4) (t.n *ℤ (b -ℤ a)) (t.d *ℤ (b -ℤ a)) (omega (arith, ints)) (omega (arith, linear)) in
    let r = floor_rises _ (pos 2 *ℤ t.d) (rounded a b t -ℤ a) _ (pos 2) (b -ℤ a) (omega (arith, ints)) (omega (arith, ints)) f (whole_floor (b -ℤ a)) (omega (arith, linear)) in
    omega (arith, linear)

-- not below the lower end
pub to_low : (a b : ℤ) (t : Frac) → pos 1 ≤ℤ t.d → t.n ≤ℤ t.d → b ≤ℤ a → b ≤ℤ rounded a b t
to_low a b t h k l =
    let f = rounded_floor a b t h in
    let p = times_negative (b -ℤ a) t.n t.d (omega (arith, linear)) k in
    let c1 = *ℤ_comm (b -ℤ a) t.n in
    let c2 = *ℤ_comm (b -ℤ a) t.d in
    let e = turned_fraction t.n t.d (b -ℤ a) in
    let g = whole_fraction t.d (b -ℤ a) in
    let four = times_at_most (pos 4) (t.d *ℤ (b -ℤ a)) (t.n *ℤ (b -ℤ a)) (omega (arith, ints)) (omega (arith, linear)) in
    let r = floor_rises _ (pos 2) (b -ℤ a) _ (pos 2 *ℤ t.d) (rounded a b t -ℤ a) (omega (arith, ints)) (omega (arith, ints)) (whole_floor (b -ℤ a)) f (omega (arith, linear)) in
    omega (arith, linear)

-- ---- steps from the start, in the order of the fractions
abbrev pub away : ℤ → ℤ → Frac → ℕ
away a b t = unsigned_abs (rounded a b t -ℤ a)

-- a later point is at least as far from the start
pub away_rises : (a b : ℤ) (s t : Frac) → pos 1 ≤ℤ s.d → pos 1 ≤ℤ t.d → pos 0 ≤ℤ s.n → AtMost s t → away a b s ≤ away a b t
away_rises a b s t hs ht z k = by_lt_z b a down_case up_case
  where
    down_case : b <ℤ a → away a b s ≤ away a b t
    down_case h =
        let p = rounded_falls a b s t hs ht (omega (arith, linear)) k in
        let q = from_high a b s hs z (omega (arith, linear)) in
        omega (arith, linear, abs_is (rounded a b s -ℤ a), abs_is (rounded a b t -ℤ a))

    up_case : a ≤ℤ b → away a b s ≤ away a b t
    up_case h =
        let p = rounded_rises a b s t hs ht h k in
        let q = from_low a b s hs z h in
        omega (arith, linear, abs_is (rounded a b s -ℤ a), abs_is (rounded a b t -ℤ a))

-- and where it is no farther it is the same
pub away_same : (a b : ℤ) (s t : Frac) → pos 1 ≤ℤ s.d → pos 1 ≤ℤ t.d → pos 0 ≤ℤ s.n → AtMost s t → away a b t ≤ away a b s → rounded a b s ≡ rounded a b t
away_same a b s t hs ht z k l = by_lt_z b a down_case up_case
  where
    down_case : b <ℤ a → rounded a b s ≡ rounded a b t
    down_case h =
        let p = rounded_falls a b s t hs ht (omega (arith, linear)) k in
        let q = from_high a b s hs z (omega (arith, linear)) in
        omega (arith, linear, abs_is (rounded a b s -ℤ a), abs_is (rounded a b t -ℤ a))

    up_case : a ≤ℤ b → rounded a b s ≡ rounded a b t
    up_case h =
        let p = rounded_rises a b s t hs ht h k in
        let q = from_low a b s hs z h in
        omega (arith, linear, abs_is (rounded a b s -ℤ a), abs_is (rounded a b t -ℤ a))

-- the steps to the later of two points are at least as many
pub steps_rise : (e : Edge) (s t : Frac) → pos 1 ≤ℤ s.d → pos 1 ≤ℤ t.d → pos 0 ≤ℤ s.n → AtMost s t → steps_between e.v1 (point_at e s) ≤ steps_between e.v1 (point_at e t)
steps_rise e s t hs ht z k =
    let p = away_rises e.v1.x e.v2.x s t hs ht z k in
    let q = away_rises e.v1.y e.v2.y s t hs ht z k in
    omega arith

-- rounded points at equal sums are one point
pub steps_same : (e : Edge) (s t : Frac) → pos 1 ≤ℤ s.d → pos 1 ≤ℤ t.d → pos 0 ≤ℤ s.n → AtMost s t → steps_between e.v1 (point_at e s) ≡ steps_between e.v1 (point_at e t) → point_at e s ≡ point_at e t
steps_same e s t hs ht z k same =
    let p = away_rises e.v1.x e.v2.x s t hs ht z k in
    let q = away_rises e.v1.y e.v2.y s t hs ht z k in
    let x = away_same e.v1.x e.v2.x s t hs ht z k (omega arith) in
    let y = away_same e.v1.y e.v2.y s t hs ht z k (omega arith) in
    cc

-- in whatever order the fractions are
pub one_point : (e : Edge) (s t : Frac) → IsFraction s → IsFraction t → steps_between e.v1 (point_at e s) ≡ steps_between e.v1 (point_at e t) → point_at e s ≡ point_at e t
one_point e s t hs ht same =
    by_lt_z (s.n *ℤ t.d) (t.n *ℤ s.d)
    (λ k. steps_same e s t hs.positive ht.positive hs.at_least_zero (omega (arith, linear)) same)
    (λ k. sym (steps_same e t s ht.positive hs.positive ht.at_least_zero k (sym same)))

-- ---- a rounded coordinate can be drawn where the ends can
pub rounded_is : (a b : ℤ) (t : Frac) → rounded a b t ≡ a +ℤ int_div_euclid (pos 2 *ℤ t.n *ℤ (b -ℤ a) +ℤ t.d) (pos 2 *ℤ t.d)
unfolding rounded
rounded_is a b t = refl

-- between two bounds of both ends
pub rounded_in : (low high a b : ℤ) (t : Frac) → pos 1 ≤ℤ t.d → pos 0 ≤ℤ t.n → t.n ≤ℤ t.d → low ≤ℤ a → low ≤ℤ b → a ≤ℤ high → b ≤ℤ high → (low ≤ℤ rounded a b t) × (rounded a b t ≤ℤ high)
rounded_in low high a b t h z o la lb ha hb =
    by_lt_z b a
    (λ k. let p = from_high a b t h z (omega (arith, linear)) in let q = to_low a b t h o (omega (arith, linear)) in (omega (arith, linear), omega (arith, linear)))
    (λ k. let p = from_low a b t h z k in let q = to_high a b t h o k in (omega (arith, linear), omega (arith, linear)))

-- ---- the whole line
error_as : (a b : ℤ) (t : Frac) → twice_error a b t ≡ pos 2 *ℤ (t.d *ℤ rounded a b t -ℤ (t.d *ℤ a +ℤ t.n *ℤ (b -ℤ a)))
error_as a b t = by_ring (a ∷ b ∷ rounded a b t ∷ t.n ∷ t.d ∷ []) _ _ (search quotes depth 30 fits 20000) (search quotes depth 30 fits 20000) tt

-- the fraction 0/1 is the start
pub rounded_start : (a b : ℤ) (t : Frac) → t.n ≡ pos 0 → t.d ≡ pos 1 → rounded a b t ≡ a
rounded_start a b t n d =
    let e = error_bounds a b t (omega (arith, linear)) in
    let f = error_as a b t in
    let x = ap (λ (z : ℤ). z *ℤ rounded a b t) d in
    let y = ap (λ (z : ℤ). z *ℤ a) d in
    let z = ap (λ (z : ℤ). z *ℤ (b -ℤ a)) n in
    omega (arith, ints)

-- the fraction 1/1 is the end
pub rounded_end : (a b : ℤ) (t : Frac) → t.n ≡ pos 1 → t.d ≡ pos 1 → rounded a b t ≡ b
rounded_end a b t n d =
    let e = error_bounds a b t (omega (arith, linear)) in
    let f = error_as a b t in
    let x = ap (λ (z : ℤ). z *ℤ rounded a b t) d in
    let y = ap (λ (z : ℤ). z *ℤ a) d in
    let z = ap (λ (z : ℤ). z *ℤ (b -ℤ a)) n in
    omega (arith, ints)
