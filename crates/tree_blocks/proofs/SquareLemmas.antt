-- A line reaches a square with its lower left corner at the origin exactly if its box meets the square and the
-- corners don't all lie strictly on the same side of the line.
use Rattle.std.proofs.Common.{◌≡◌, ◌⊎◌, inl, inr, [], ◌∷◌, arith}
use Rattle.std.proofs.lemmas.Int.{ints, by_lt_z}
use Rattle.std.specs.Prelude.{ℤ, pos, ◌+ℤ◌, ◌-ℤ◌, ◌*ℤ◌, neg_ℤ, ◌≤ℤ◌, ◌<ℤ◌}
use Rattle.lump_records.proofs.Ring.{by_ring, quotes}
use Rattle.lump_records.proofs.Signs.{linear, times_at_most, times_below, product_not_negative, neg_times, zero_product}

-- a point of a line, seen from the corner of a square with side s: the line starts at (x, y) and runs by (u, v)
pub record Reaches (s x y u v : ℤ) : Type 0 where
  pub n : ℤ
  pub d : ℤ
  pub from_start : pos 0 ≤ℤ n
  pub to_end : n ≤ℤ d
  pub positive : pos 1 ≤ℤ d
  pub left : pos 0 ≤ℤ (d *ℤ x +ℤ n *ℤ u)
  pub right : (d *ℤ x +ℤ n *ℤ u) ≤ℤ (d *ℤ s)
  pub bottom : pos 0 ≤ℤ (d *ℤ y +ℤ n *ℤ v)
  pub top : (d *ℤ y +ℤ n *ℤ v) ≤ℤ (d *ℤ s)

-- the value of a corner (p, q) of the square: above 0 on the right of the line
abbrev pub corner : ℤ → ℤ → ℤ → ℤ → ℤ → ℤ → ℤ
corner x y u v p q = v *ℤ (p -ℤ x) -ℤ u *ℤ (q -ℤ y)

-- the line's start lies in the square
at_start : (s x y u v : ℤ) → pos 0 ≤ℤ x → x ≤ℤ s → pos 0 ≤ℤ y → y ≤ℤ s → Reaches s x y u v
at_start s x y u v a b c e =
    record {
      n = pos 0;
      d = pos 1;
      from_start = omega (arith, ints);
      to_end = omega (arith, ints);
      positive = omega (arith, ints);
      left = omega (arith, ints);
      right = omega (arith, ints);
      bottom = omega (arith, ints);
      top = omega (arith, ints);
    }

-- the line enters through the left side
enters_left : (s x y u v : ℤ) → pos 0 ≤ℤ s → pos 0 ≤ℤ u → x <ℤ pos 0 → pos 0 ≤ℤ (x +ℤ u) → pos 0 ≤ℤ (u *ℤ y -ℤ x *ℤ v) → corner x y u v (pos 0) s ≤ℤ pos 0 → Reaches s x y u v
enters_left s x y u v hs hu hx hr hc hm =
    let e1 : u *ℤ x +ℤ neg_ℤ x *ℤ u ≡ pos 0 = by_ring (x ∷ u ∷ []) _ _ (search quotes depth 20) (search quotes depth 20) tt in
    let e2 : u *ℤ y +ℤ neg_ℤ x *ℤ v ≡ u *ℤ y -ℤ x *ℤ v = by_ring (x ∷ y ∷ u ∷ v ∷ []) _ _ (search quotes depth 20) (search quotes depth 20) tt in
    let e3 : corner x y u v (pos 0) s ≡ (u *ℤ y -ℤ x *ℤ v) -ℤ u *ℤ s = by_ring (s ∷ x ∷ y ∷ u ∷ v ∷ []) _ _ (search quotes depth 20) (search quotes depth 20) tt in
    let p = product_not_negative u s hu hs in
    record {
      n = neg_ℤ x;
      d = u;
      from_start = omega (arith, linear);
      to_end = omega (arith, linear);
      positive = omega (arith, linear);
      left = omega (arith, linear);
      right = omega (arith, linear);
      bottom = omega (arith, linear);
      top = omega (arith, linear);
    }

-- the square and the line turned over: x and y exchanged
exchanged : (s x y u v : ℤ) → Reaches s y x v u → Reaches s x y u v
exchanged s x y u v r =
    record {
      n = r.n;
      d = r.d;
      from_start = r.from_start;
      to_end = r.to_end;
      positive = r.positive;
      left = r.bottom;
      right = r.top;
      bottom = r.left;
      top = r.right;
    }

-- a line that runs up and to the right
rising :
    (s x y u v : ℤ) → pos 0 ≤ℤ s → pos 0 ≤ℤ u → pos 0 ≤ℤ v → x ≤ℤ s → pos 0 ≤ℤ (x +ℤ u) → y ≤ℤ s → pos 0 ≤ℤ (y +ℤ v) → corner x y u v (pos 0) s ≤ℤ pos 0 → pos 0 ≤ℤ corner x y u v s (pos 0)
    → Reaches s x y u v
rising s x y u v hs hu hv x1 x2 y1 y2 low high =
    by_lt_z x (pos 0) (λ hx. by_lt_z (u *ℤ y -ℤ x *ℤ v) (pos 0) (λ k. below_first hx k) (λ k. enters_left s x y u v hs hu hx x2 k low)) (λ hx. from_right hx)
  where
    up_first : y <ℤ pos 0 → pos 0 ≤ℤ (v *ℤ x -ℤ y *ℤ u) → Reaches s x y u v
    up_first hy k =
        let e : corner y x v u (pos 0) s ≡ neg_ℤ (corner x y u v s (pos 0)) = by_ring (s ∷ x ∷ y ∷ u ∷ v ∷ []) _ _ (search quotes depth 20) (search quotes depth 20) tt in
        exchanged s x y u v (enters_left s y x v u hs hv hy y2 k (omega (arith, linear)))

    below_first : x <ℤ pos 0 → (u *ℤ y -ℤ x *ℤ v) <ℤ pos 0 → Reaches s x y u v
    below_first hx k =
        let e : v *ℤ x -ℤ y *ℤ u ≡ neg_ℤ (u *ℤ y -ℤ x *ℤ v) = by_ring (x ∷ y ∷ u ∷ v ∷ []) _ _ (search quotes depth 20) (search quotes depth 20) tt in
        by_lt_z y (pos 0) (λ hy. up_first hy (omega (arith, linear))) (λ hy.
        let p = product_not_negative u y hu hy in
        let q = product_not_negative (neg_ℤ x) v (omega (arith, linear)) hv in
        let f = neg_times x v in
        absurd (omega (arith, linear)))

    from_right : pos 0 ≤ℤ x → Reaches s x y u v
    from_right hx = by_lt_z y (pos 0) (λ hy.
        let p = product_not_negative v x hv hx in
        let q = product_not_negative (neg_ℤ y) u (omega (arith, linear)) hu in
        let f = neg_times y u in
        up_first hy (omega (arith, linear))) (λ hy. at_start s x y u v hx x1 hy y1)

-- the square and the line turned left to right
mirrored : (s x y u v : ℤ) → Reaches s (s -ℤ x) y (neg_ℤ u) v → Reaches s x y u v
mirrored s x y u v r =
    let e : r.d *ℤ (s -ℤ x) +ℤ r.n *ℤ neg_ℤ u ≡ r.d *ℤ s -ℤ (r.d *ℤ x +ℤ r.n *ℤ u) = by_ring (r.d ∷ r.n ∷ s ∷ x ∷ u ∷ []) _ _ (search quotes depth 20) (search quotes depth 20) tt in
    let l = r.left in
    let h = r.right in
    record {
      n = r.n;
      d = r.d;
      from_start = r.from_start;
      to_end = r.to_end;
      positive = r.positive;
      left = omega (arith, linear);
      right = omega (arith, linear);
      bottom = r.bottom;
      top = r.top;
    }

mirrored_back : (s x y u v : ℤ) → Reaches s x y u v → Reaches s (s -ℤ x) y (neg_ℤ u) v
mirrored_back s x y u v r =
    let e : r.d *ℤ (s -ℤ x) +ℤ r.n *ℤ neg_ℤ u ≡ r.d *ℤ s -ℤ (r.d *ℤ x +ℤ r.n *ℤ u) = by_ring (r.d ∷ r.n ∷ s ∷ x ∷ u ∷ []) _ _ (search quotes depth 20) (search quotes depth 20) tt in
    let l = r.left in
    let h = r.right in
    record {
      n = r.n;
      d = r.d;
      from_start = r.from_start;
      to_end = r.to_end;
      positive = r.positive;
      left = omega (arith, linear);
      right = omega (arith, linear);
      bottom = r.bottom;
      top = r.top;
    }

flipped : (s x y u v : ℤ) → Reaches s x (s -ℤ y) u (neg_ℤ v) → Reaches s x y u v
flipped s x y u v r = exchanged s x y u v (mirrored s y x v u (exchanged s (s -ℤ y) x (neg_ℤ v) u r))

flipped_back : (s x y u v : ℤ) → Reaches s x y u v → Reaches s x (s -ℤ y) u (neg_ℤ v)
flipped_back s x y u v r = exchanged s x (s -ℤ y) u (neg_ℤ v) (mirrored_back s y x v u (exchanged s y x v u r))

-- ---- what the test asks
-- the span from x to x + u meets the one from 0 to s
pub record Meets (s x u : ℤ) : Type 0 where
  pub not_below : (pos 0 ≤ℤ x) ⊎ (pos 0 ≤ℤ (x +ℤ u))
  pub not_above : (x ≤ℤ s) ⊎ ((x +ℤ u) ≤ℤ s)

-- the corners don't all lie strictly on the same side
pub record Parted (s x y u v : ℤ) : Type 0 where
  pub not_all_right : pos 0 <ℤ corner x y u v (pos 0) (pos 0) → pos 0 <ℤ corner x y u v s (pos 0) → pos 0 <ℤ corner x y u v (pos 0) s → pos 0 <ℤ corner x y u v s s → ⊥
  pub not_all_left : corner x y u v (pos 0) (pos 0) <ℤ pos 0 → corner x y u v s (pos 0) <ℤ pos 0 → corner x y u v (pos 0) s <ℤ pos 0 → corner x y u v s s <ℤ pos 0 → ⊥

-- the greatest and the least corner of a line that runs up and to the right
rising_parted : (s x y u v : ℤ) → pos 0 ≤ℤ s → pos 0 ≤ℤ u → pos 0 ≤ℤ v → Parted s x y u v → (corner x y u v (pos 0) s ≤ℤ pos 0) × (pos 0 ≤ℤ corner x y u v s (pos 0))
rising_parted s x y u v hs hu hv p =
    let us = product_not_negative u s hu hs in
    let vs = product_not_negative v s hv hs in
    let e1 : corner x y u v s (pos 0) ≡ corner x y u v (pos 0) s +ℤ v *ℤ s +ℤ u *ℤ s = by_ring (s ∷ x ∷ y ∷ u ∷ v ∷ []) _ _ (search quotes depth 20) (search quotes depth 20) tt in
    let e2 : corner x y u v (pos 0) (pos 0) ≡ corner x y u v (pos 0) s +ℤ u *ℤ s = by_ring (s ∷ x ∷ y ∷ u ∷ v ∷ []) _ _ (search quotes depth 20) (search quotes depth 20) tt in
    let e3 : corner x y u v s s ≡ corner x y u v (pos 0) s +ℤ v *ℤ s = by_ring (s ∷ x ∷ y ∷ u ∷ v ∷ []) _ _ (search quotes depth 20) (search quotes depth 20) tt in (
      by_lt_z (pos 0) (corner x y u v (pos 0) s) (λ k. absurd (p.not_all_right (omega (arith, linear)) (omega (arith, linear)) k (omega (arith, linear)))) (λ k. k),
      by_lt_z (corner x y u v s (pos 0)) (pos 0) (λ k. absurd (p.not_all_left (omega (arith, linear)) k (omega (arith, linear)) (omega (arith, linear)))) (λ k. k),
    )

rising_meets : (s x u : ℤ) → pos 0 ≤ℤ u → Meets s x u → (x ≤ℤ s) × (pos 0 ≤ℤ (x +ℤ u))
rising_meets s x u h m = (
  elim m.not_above [ inl k ↦ k | inr k ↦ omega (arith, linear) ],
  elim m.not_below [ inl k ↦ omega (arith, linear) | inr k ↦ k ],
)

rising_reaches : (s x y u v : ℤ) → pos 0 ≤ℤ s → pos 0 ≤ℤ u → pos 0 ≤ℤ v → Meets s x u → Meets s y v → Parted s x y u v → Reaches s x y u v
rising_reaches s x y u v hs hu hv mx my p =
    let a = rising_meets s x u hu mx in
    let b = rising_meets s y v hv my in
    let c = rising_parted s x y u v hs hu hv p in
    rising s x y u v hs hu hv a.0 a.1 b.0 b.1 c.0 c.1

mirrored_meets : (s x u : ℤ) → Meets s x u → Meets s (s -ℤ x) (neg_ℤ u)
mirrored_meets s x u m =
    record {
      not_below = elim m.not_above [ inl k ↦ inl (omega (arith, linear)) | inr k ↦ inr (omega (arith, linear)) ];
      not_above = elim m.not_below [ inl k ↦ inl (omega (arith, linear)) | inr k ↦ inr (omega (arith, linear)) ];
    }

mirrored_parted : (s x y u v : ℤ) → Parted s x y u v → Parted s (s -ℤ x) y (neg_ℤ u) v
mirrored_parted s x y u v p =
    let e1 : corner (s -ℤ x) y (neg_ℤ u) v (pos 0) (pos 0) ≡ neg_ℤ (corner x y u v s (pos 0)) = by_ring (s ∷ x ∷ y ∷ u ∷ v ∷ []) _ _ (search quotes depth 20) (search quotes depth 20) tt in
    let e2 : corner (s -ℤ x) y (neg_ℤ u) v s (pos 0) ≡ neg_ℤ (corner x y u v (pos 0) (pos 0)) = by_ring (s ∷ x ∷ y ∷ u ∷ v ∷ []) _ _ (search quotes depth 20) (search quotes depth 20) tt in
    let e3 : corner (s -ℤ x) y (neg_ℤ u) v (pos 0) s ≡ neg_ℤ (corner x y u v s s) = by_ring (s ∷ x ∷ y ∷ u ∷ v ∷ []) _ _ (search quotes depth 20) (search quotes depth 20) tt in
    let e4 : corner (s -ℤ x) y (neg_ℤ u) v s s ≡ neg_ℤ (corner x y u v (pos 0) s) = by_ring (s ∷ x ∷ y ∷ u ∷ v ∷ []) _ _ (search quotes depth 20) (search quotes depth 20) tt in
    record {
      not_all_right = λ a b c d. p.not_all_left (omega (arith, linear)) (omega (arith, linear)) (omega (arith, linear)) (omega (arith, linear));
      not_all_left = λ a b c d. p.not_all_right (omega (arith, linear)) (omega (arith, linear)) (omega (arith, linear)) (omega (arith, linear));
    }

exchanged_parted : (s x y u v : ℤ) → Parted s x y u v → Parted s y x v u
exchanged_parted s x y u v p =
    let e1 : corner y x v u (pos 0) (pos 0) ≡ neg_ℤ (corner x y u v (pos 0) (pos 0)) = by_ring (s ∷ x ∷ y ∷ u ∷ v ∷ []) _ _ (search quotes depth 20) (search quotes depth 20) tt in
    let e2 : corner y x v u s (pos 0) ≡ neg_ℤ (corner x y u v (pos 0) s) = by_ring (s ∷ x ∷ y ∷ u ∷ v ∷ []) _ _ (search quotes depth 20) (search quotes depth 20) tt in
    let e3 : corner y x v u (pos 0) s ≡ neg_ℤ (corner x y u v s (pos 0)) = by_ring (s ∷ x ∷ y ∷ u ∷ v ∷ []) _ _ (search quotes depth 20) (search quotes depth 20) tt in
    let e4 : corner y x v u s s ≡ neg_ℤ (corner x y u v s s) = by_ring (s ∷ x ∷ y ∷ u ∷ v ∷ []) _ _ (search quotes depth 20) (search quotes depth 20) tt in
    record {
      not_all_right = λ a b c d. p.not_all_left (omega (arith, linear)) (omega (arith, linear)) (omega (arith, linear)) (omega (arith, linear));
      not_all_left = λ a b c d. p.not_all_right (omega (arith, linear)) (omega (arith, linear)) (omega (arith, linear)) (omega (arith, linear));
    }

flipped_parted : (s x y u v : ℤ) → Parted s x y u v → Parted s x (s -ℤ y) u (neg_ℤ v)
flipped_parted s x y u v p = exchanged_parted s (s -ℤ y) x (neg_ℤ v) u (mirrored_parted s y x v u (exchanged_parted s x y u v p))

-- ---- the test finds a point
upward_reaches : (s x y u v : ℤ) → pos 0 ≤ℤ s → pos 0 ≤ℤ v → Meets s x u → Meets s y v → Parted s x y u v → Reaches s x y u v
upward_reaches s x y u v hs hv mx my p =
    by_lt_z u (pos 0)
    (λ k. mirrored s x y u v (rising_reaches s (s -ℤ x) y (neg_ℤ u) v hs (omega (arith, linear)) hv (mirrored_meets s x u mx) my (mirrored_parted s x y u v p)))
    (λ k. rising_reaches s x y u v hs k hv mx my p)

pub test_reaches : (s x y u v : ℤ) → pos 0 ≤ℤ s → Meets s x u → Meets s y v → Parted s x y u v → Reaches s x y u v
test_reaches s x y u v hs mx my p =
    by_lt_z v (pos 0)
    (λ k. flipped s x y u v (upward_reaches s x (s -ℤ y) u (neg_ℤ v) hs (omega (arith, linear)) mx (mirrored_meets s y v my) (flipped_parted s x y u v p)))
    (λ k. upward_reaches s x y u v hs k mx my p)

-- ---- a point passes the test
pub reached_meets : (s x u n d : ℤ) → pos 0 ≤ℤ n → n ≤ℤ d → pos 1 ≤ℤ d → pos 0 ≤ℤ (d *ℤ x +ℤ n *ℤ u) → (d *ℤ x +ℤ n *ℤ u) ≤ℤ (d *ℤ s) → Meets s x u
reached_meets s x u n d hn hd one l h = record { not_below = below; not_above = above }
  where
    below : (pos 0 ≤ℤ x) ⊎ (pos 0 ≤ℤ (x +ℤ u))
    below = by_lt_z x (pos 0) (λ k. by_lt_z (x +ℤ u) (pos 0) (λ j.
        let p = times_at_most (d -ℤ n) x (neg_ℤ (pos 1)) (omega (arith, linear)) (omega (arith, ints)) in
        let q = times_at_most n (x +ℤ u) (neg_ℤ (pos 1)) hn (omega (arith, ints)) in
        let e : (d -ℤ n) *ℤ x +ℤ n *ℤ (x +ℤ u) ≡ d *ℤ x +ℤ n *ℤ u = by_ring (d ∷ n ∷ x ∷ u ∷ []) _ _ (search quotes depth 20) (search quotes depth 20) tt in
        let f : (d -ℤ n) *ℤ neg_ℤ (pos 1) +ℤ n *ℤ neg_ℤ (pos 1) ≡ neg_ℤ d = by_ring (d ∷ n ∷ []) _ _ (search quotes depth 20) (search quotes depth 20) tt in
        absurd (omega (arith, linear))) inr) inl

    above : (x ≤ℤ s) ⊎ ((x +ℤ u) ≤ℤ s)
    above = by_lt_z s x (λ k. by_lt_z s (x +ℤ u) (λ j.
        let p = times_at_most (d -ℤ n) (s +ℤ pos 1) x (omega (arith, linear)) (omega (arith, ints)) in
        let q = times_at_most n (s +ℤ pos 1) (x +ℤ u) hn (omega (arith, ints)) in
        let e : (d -ℤ n) *ℤ x +ℤ n *ℤ (x +ℤ u) ≡ d *ℤ x +ℤ n *ℤ u = by_ring (d ∷ n ∷ x ∷ u ∷ []) _ _ (search quotes depth 20) (search quotes depth 20) tt in
        let f : (d -ℤ n) *ℤ (s +ℤ pos 1) +ℤ n *ℤ (s +ℤ pos 1) ≡ d *ℤ s +ℤ d = by_ring (d ∷ n ∷ s ∷ []) _ _ (search quotes depth 20) (search quotes depth 20) tt in
        absurd (omega (arith, linear))) inr) inl

rising_reached : (s x y u v : ℤ) → pos 0 ≤ℤ u → pos 0 ≤ℤ v → Reaches s x y u v → Parted s x y u v
rising_reached s x y u v hu hv r =
    let d = r.d in
    let n = r.n in
    let X : ℤ = d *ℤ x +ℤ n *ℤ u in
    let Y : ℤ = d *ℤ y +ℤ n *ℤ v in
    let e1 : d *ℤ corner x y u v (pos 0) s
    ≡ neg_ℤ (v *ℤ (d *ℤ x +ℤ n *ℤ u)) -ℤ u *ℤ (d *ℤ s -ℤ (d *ℤ y +ℤ n *ℤ v)) = by_ring (d ∷ n ∷ s ∷ x ∷ y ∷ u ∷ v ∷ []) _ _ (search quotes depth 20) (search quotes depth 20) tt in
    let e2 : d *ℤ corner x y u v s (pos 0)
    ≡ v *ℤ (d *ℤ s -ℤ (d *ℤ x +ℤ n *ℤ u)) +ℤ u *ℤ (d *ℤ y +ℤ n *ℤ v) = by_ring (d ∷ n ∷ s ∷ x ∷ y ∷ u ∷ v ∷ []) _ _ (search quotes depth 20) (search quotes depth 20) tt in
    let one = r.positive in
    let l = r.left in
    let h = r.right in
    let b = r.bottom in
    let t = r.top in
    let a1 = product_not_negative v (d *ℤ x +ℤ n *ℤ u) hv r.left in
    let a2 = product_not_negative u (d *ℤ s -ℤ (d *ℤ y +ℤ n *ℤ v)) hu (omega (arith, linear)) in
    let a3 = product_not_negative v (d *ℤ s -ℤ (d *ℤ x +ℤ n *ℤ u)) hv (omega (arith, linear)) in
    let a4 = product_not_negative u (d *ℤ y +ℤ n *ℤ v) hu r.bottom in
    let z = zero_product d in
    record {
      not_all_right = λ _ _ k _. let m = times_below d (pos 0) (corner x y u v (pos 0) s) (omega (arith, linear)) k in absurd (omega (arith, linear));
      not_all_left = λ _ k _ _. let m = times_below d (corner x y u v s (pos 0)) (pos 0) (omega (arith, linear)) k in absurd (omega (arith, linear));
    }

-- turning twice gives the line back
mirrored_parted_back : (s x y u v : ℤ) → Parted s (s -ℤ x) y (neg_ℤ u) v → Parted s x y u v
mirrored_parted_back s x y u v p =
    let e1 : corner (s -ℤ x) y (neg_ℤ u) v (pos 0) (pos 0) ≡ neg_ℤ (corner x y u v s (pos 0)) = by_ring (s ∷ x ∷ y ∷ u ∷ v ∷ []) _ _ (search quotes depth 20) (search quotes depth 20) tt in
    let e2 : corner (s -ℤ x) y (neg_ℤ u) v s (pos 0) ≡ neg_ℤ (corner x y u v (pos 0) (pos 0)) = by_ring (s ∷ x ∷ y ∷ u ∷ v ∷ []) _ _ (search quotes depth 20) (search quotes depth 20) tt in
    let e3 : corner (s -ℤ x) y (neg_ℤ u) v (pos 0) s ≡ neg_ℤ (corner x y u v s s) = by_ring (s ∷ x ∷ y ∷ u ∷ v ∷ []) _ _ (search quotes depth 20) (search quotes depth 20) tt in
    let e4 : corner (s -ℤ x) y (neg_ℤ u) v s s ≡ neg_ℤ (corner x y u v (pos 0) s) = by_ring (s ∷ x ∷ y ∷ u ∷ v ∷ []) _ _ (search quotes depth 20) (search quotes depth 20) tt in
    record {
      not_all_right = λ a b c d. p.not_all_left (omega (arith, linear)) (omega (arith, linear)) (omega (arith, linear)) (omega (arith, linear));
      not_all_left = λ a b c d. p.not_all_right (omega (arith, linear)) (omega (arith, linear)) (omega (arith, linear)) (omega (arith, linear));
    }

flipped_parted_back : (s x y u v : ℤ) → Parted s x (s -ℤ y) u (neg_ℤ v) → Parted s x y u v
flipped_parted_back s x y u v p = exchanged_parted s y x v u (mirrored_parted_back s y x v u (exchanged_parted s x (s -ℤ y) u (neg_ℤ v) p))

upward_reached : (s x y u v : ℤ) → pos 0 ≤ℤ v → Reaches s x y u v → Parted s x y u v
upward_reached s x y u v hv r =
    by_lt_z u (pos 0)
    (λ k. mirrored_parted_back s x y u v (rising_reached s (s -ℤ x) y (neg_ℤ u) v (omega (arith, linear)) hv (mirrored_back s x y u v r)))
    (λ k. rising_reached s x y u v k hv r)

pub reached_parted : (s x y u v : ℤ) → Reaches s x y u v → Parted s x y u v
reached_parted s x y u v r =
    by_lt_z v (pos 0)
    (λ k. flipped_parted_back s x y u v (upward_reached s x (s -ℤ y) u (neg_ℤ v) (omega (arith, linear)) (flipped_back s x y u v r)))
    (λ k. upward_reached s x y u v k r)
