-- If two lines have a common point that isn't an end of both, the tests by side values say that they cross.
use Rattle.std.proofs.Common.{◌≡◌, ◌≢◌, ◌∙◌, refl, sym, ap, ◌⊎◌, inl, inr, ⊎_elim, true, ◌&&◌, ◌||◌, not, [], ◌∷◌, arith}
use Rattle.std.proofs.lemmas.Int.{by_lt_z}
use Rattle.std.specs.Prelude.{ℤ, pos, ◌+ℤ◌, ◌-ℤ◌, ◌*ℤ◌, ◌≤ℤ◌, ◌<ℤ◌}
use Rattle.lump_records.specs.declared.records.Vertex.{Vertex}
use Rattle.lump_records.proofs.Ring.{by_ring, quotes}
use Rattle.lump_records.proofs.Signs.{linear, times_at_most, times_below, factor_below, product_positive, zero_product}
use Rattle.map_plane.specs.declared.places.PlacedLine.{PlacedLine}
use Rattle.map_plane.specs.Meeting.{is_under, spans_meet, boxes_meet, is_on, side_value_at, ends_at, abuts, has_on_both_sides, doubles, share}
use Rattle.map_plane.specs.Segments.{ExactPoint, IsMean, IsVertexAt, IsEnd, HaveCrossing, TestsTellCrossings}
use Rattle.map_plane.proofs.Means.{turn, along, cancel, vertex_is, even_out, differ_alike, under_means, LiesWithin, turned_sum, mean_within, IsPlacedAt, placed_at, between_within, between_against}
use Rattle.map_plane.proofs.CrossingPoints.{ends_at-from, ends_at-to, length_positive, near_end, crossing_there}
use Rattle.map_plane.proofs.Tests.{or_left, or_right, both, lt_is}

-- ---- from a point to the tests

crossed_share : (l k : PlacedLine) → has_on_both_sides l k ≡ true → has_on_both_sides k l ≡ true → share l k ≡ true
unfolding share
crossed_share l k f g =
    or_left ((has_on_both_sides l k && has_on_both_sides k l) || abuts k l || abuts l k) (doubles l k)
    (or_left ((has_on_both_sides l k && has_on_both_sides k l) || abuts k l) (abuts l k)
    (or_left (has_on_both_sides l k && has_on_both_sides k l) (abuts k l) (both (has_on_both_sides l k) (has_on_both_sides k l) f g)))

abutted_share : (l k : PlacedLine) → abuts k l ≡ true → share l k ≡ true
unfolding share
abutted_share l k f =
    or_left ((has_on_both_sides l k && has_on_both_sides k l) || abuts k l || abuts l k) (doubles l k)
    (or_left ((has_on_both_sides l k && has_on_both_sides k l) || abuts k l) (abuts l k) (or_right (has_on_both_sides l k && has_on_both_sides k l) (abuts k l) f))

abutting_share : (l k : PlacedLine) → abuts l k ≡ true → share l k ≡ true
unfolding share
abutting_share l k f =
    or_left ((has_on_both_sides l k && has_on_both_sides k l) || abuts k l || abuts l k) (doubles l k)
    (or_right ((has_on_both_sides l k && has_on_both_sides k l) || abuts k l) (abuts l k) f)

doubled_share : (l k : PlacedLine) → ends_at l k.from ≡ true → ends_at l k.to ≡ true → share l k ≡ true
unfolding share doubles
doubled_share l k f g =
    or_right ((has_on_both_sides l k && has_on_both_sides k l) || abuts k l || abuts l k) (ends_at l k.from && ends_at l k.to) (both (ends_at l k.from) (ends_at l k.to) f g)

-- an end of k within l
abuts_within : (k l : PlacedLine) (q : Vertex) → (k.from ≡ q) ⊎ (k.to ≡ q) → LiesWithin l q → abuts k l ≡ true
unfolding abuts
abuts_within k l q at w =
    ⊎_elim
    (λ f. or_left (is_on l k.from && not (ends_at l k.from)) (is_on l k.to && not (ends_at l k.to)) (whole k.from f))
    (λ f. or_right (is_on l k.from && not (ends_at l k.from)) (is_on l k.to && not (ends_at l k.to)) (whole k.to f))
    at
  where
    whole : (v : Vertex) → v ≡ q → (is_on l v && not (ends_at l v)) ≡ true
    whole v e = both (is_on l v) (not (ends_at l v)) (ap (is_on l) e ∙ w.on) (ap (λ (z : Vertex). not (ends_at l z)) e ∙ ap not w.apart)

-- ---- where on a line a point lies

-- a point of a line is an end of it, or a mean with both weights positive
pub place_on : (l : PlacedLine) (t u : ℤ) (p : ExactPoint) → IsMean l t u p → IsEnd l p ⊎ ((pos 0 <ℤ t) × (pos 0 <ℤ u))
place_on l t u p m =
    by_lt_z (pos 0) t
    (λ t0. by_lt_z (pos 0) u
    (λ u0. inr (t0, u0))
    (λ u0. inl (inl (record {
      across = one t u l.from.x l.to.x p.d p.x (zero_is u u0 m.to_weight) m.whole m.across;
      upward = one t u l.from.y l.to.y p.d p.y (zero_is u u0 m.to_weight) m.whole m.upward;
    }))))
    (λ t0. inl (inr (record {
      across = one u t l.to.x l.from.x p.d p.x (zero_is t t0 m.from_weight) (turned_sum t u p.d m.whole) (turned_sum (t *ℤ l.from.x) (u *ℤ l.to.x) p.x m.across);
      upward = one u t l.to.y l.from.y p.d p.y (zero_is t t0 m.from_weight) (turned_sum t u p.d m.whole) (turned_sum (t *ℤ l.from.y) (u *ℤ l.to.y) p.y m.upward);
    })))
  where
    zero_is : (z : ℤ) → z ≤ℤ pos 0 → pos 0 ≤ℤ z → z ≡ pos 0
    zero_is z h k = omega (arith, linear)

    one : (s v a b d x : ℤ) → v ≡ pos 0 → s +ℤ v ≡ d → s *ℤ a +ℤ v *ℤ b ≡ x → d *ℤ a ≡ x
    one s v a b d x z w m' =
        let e1 : s *ℤ a +ℤ v *ℤ b ≡ s *ℤ a = ap (λ (o : ℤ). s *ℤ a +ℤ o *ℤ b) z ∙ near_end s a b in
        let e2 : d *ℤ a ≡ s *ℤ a = ap (λ (o : ℤ). o *ℤ a) (omega (arith, linear)) in
        omega (arith, linear)

-- a vertex at a point between a line's ends
place_within : (l : PlacedLine) (v : Vertex) (t u : ℤ) (p : ExactPoint) → l.from ≢ l.to → IsMean l t u p → pos 0 <ℤ t → pos 0 <ℤ u → IsVertexAt v p → LiesWithin l v
place_within l v t u p ne m t0 u0 s =
    mean_within l v t u p.d ne t0 u0 m.whole (m.across ∙ sym s.across) (m.upward ∙ sym s.upward)

end_abuts : (k l : PlacedLine) (t u : ℤ) (p : ExactPoint) → l.from ≢ l.to → IsMean l t u p → pos 0 <ℤ t → pos 0 <ℤ u → IsEnd k p → abuts k l ≡ true
end_abuts k l t u p ne m t0 u0 end =
    ⊎_elim
    (λ s. abuts_within k l k.from (inl refl) (place_within l k.from t u p ne m t0 u0 s))
    (λ s. abuts_within k l k.to (inr refl) (place_within l k.to t u p ne m t0 u0 s))
    end

-- ---- means with both weights positive

-- if two weighted numbers add up to 0, one is above 0 if the other one is below
opposite_up : (s v a b : ℤ) → pos 0 <ℤ s → pos 0 <ℤ v → s *ℤ a +ℤ v *ℤ b ≡ pos 0 → a <ℤ pos 0 → pos 0 <ℤ b
opposite_up s v a b s0 v0 e h =
    let p = times_below s a (pos 0) s0 h in
    let z = zero_product s in
    let w = zero_product v in
    factor_below v (pos 0) b (omega (arith, linear)) (omega (arith, linear))

opposite_down : (s v a b : ℤ) → pos 0 <ℤ s → pos 0 <ℤ v → s *ℤ a +ℤ v *ℤ b ≡ pos 0 → pos 0 <ℤ a → b <ℤ pos 0
opposite_down s v a b s0 v0 e h =
    let p = times_below s (pos 0) a s0 h in
    let z = zero_product s in
    let w = zero_product v in
    factor_below v b (pos 0) (omega (arith, linear)) (omega (arith, linear))

opposite_zero : (s v a b : ℤ) → pos 0 <ℤ v → s *ℤ a +ℤ v *ℤ b ≡ pos 0 → a ≡ pos 0 → b ≡ pos 0
opposite_zero s v a b v0 e h =
    let p = ap (λ (z : ℤ). s *ℤ z) h in
    let z = zero_product s in
    let w = zero_product v in
    cancel v b (pos 0) v0 (omega (arith, linear))

parts_up : (l k : PlacedLine) → turn l.from l.to k.from <ℤ pos 0 → pos 0 <ℤ turn l.from l.to k.to → has_on_both_sides l k ≡ true
unfolding has_on_both_sides side_value_at
parts_up l k f g = or_left _ _ (both _ _ (lt_is (turn l.from l.to k.from) (pos 0) f) (lt_is (pos 0) (turn l.from l.to k.to) g))

parts_down : (l k : PlacedLine) → pos 0 <ℤ turn l.from l.to k.from → turn l.from l.to k.to <ℤ pos 0 → has_on_both_sides l k ≡ true
unfolding has_on_both_sides side_value_at
parts_down l k f g = or_right _ _ (both _ _ (lt_is (pos 0) (turn l.from l.to k.from) f) (lt_is (turn l.from l.to k.to) (pos 0) g))

-- ---- lines on one straight line

-- how far a point with denominator d lies along a line, times the line's length
abbrev along_of : Vertex → Vertex → ℤ → ℤ → ℤ → ℤ
along_of a b x y d = (b.x -ℤ a.x) *ℤ (x -ℤ d *ℤ a.x) +ℤ (b.y -ℤ a.y) *ℤ (y -ℤ d *ℤ a.y)

along_of_mean : (a b c e : Vertex) (s v : ℤ) → s *ℤ along a b c +ℤ v *ℤ along a b e ≡ along_of a b (s *ℤ c.x +ℤ v *ℤ e.x) (s *ℤ c.y +ℤ v *ℤ e.y) (s +ℤ v)
along_of_mean a b c e s v =
    by_ring (a.x ∷ a.y ∷ b.x ∷ b.y ∷ c.x ∷ c.y ∷ e.x ∷ e.y ∷ s ∷ v ∷ []) _ _ (search quotes depth 30 fits 20000) (search quotes depth 30 fits 20000) tt

along_of_own : (a b : Vertex) (t u : ℤ) → along_of a b (t *ℤ a.x +ℤ u *ℤ b.x) (t *ℤ a.y +ℤ u *ℤ b.y) (t +ℤ u) ≡ u *ℤ along a b b
along_of_own a b t u =
    by_ring (a.x ∷ a.y ∷ b.x ∷ b.y ∷ t ∷ u ∷ []) _ _ (search quotes depth 30 fits 20000) (search quotes depth 30 fits 20000) tt

means_along : (l k : PlacedLine) (t u s v : ℤ) (p : ExactPoint) → IsMean l t u p → IsMean k s v p
    → s *ℤ along l.from l.to k.from +ℤ v *ℤ along l.from l.to k.to ≡ u *ℤ along l.from l.to l.to
means_along l k t u s v p f g =
    along_of_mean l.from l.to k.from k.to s v
    ∙ (λ i. along_of l.from l.to ((g.across ∙ sym f.across) i) ((g.upward ∙ sym f.upward) i) ((g.whole ∙ sym f.whole) i))
    ∙ along_of_own l.from l.to t u

start_placed : (a b : Vertex) (n : ℤ) → IsPlacedAt a b n (pos 0) a
start_placed a b n = record { across = one a.x b.x; upward = one a.y b.y }
  where
    one : (x y : ℤ) → n *ℤ (x -ℤ x) ≡ pos 0 *ℤ (y -ℤ x)
    one x y = by_ring (n ∷ x ∷ y ∷ []) _ _ (search quotes depth 30 fits 20000) (search quotes depth 30 fits 20000) tt

end_placed : (a b : Vertex) (n : ℤ) → IsPlacedAt a b n n b
end_placed a b n = record { across = refl; upward = refl }

same_placed : (a b : Vertex) (n i j : ℤ) (p q : Vertex) → pos 0 <ℤ n → IsPlacedAt a b n i p → IsPlacedAt a b n j q → i ≡ j → p ≡ q
same_placed a b n i j p q h f g e = vertex_is p q (one a.x b.x p.x q.x f.across g.across) (one a.y b.y p.y q.y f.upward g.upward)
  where
    one : (x y z w : ℤ) → n *ℤ (z -ℤ x) ≡ i *ℤ (y -ℤ x) → n *ℤ (w -ℤ x) ≡ j *ℤ (y -ℤ x) → z ≡ w
    one x y z w f' g' =
        let k = cancel n (z -ℤ x) (w -ℤ x) h (f' ∙ ap (λ (o : ℤ). o *ℤ (y -ℤ x)) e ∙ sym g') in
        omega (arith, linear)

-- if neither end of k lies within l, then k reaches past l on both sides, or doubles it
module _ (l k : PlacedLine) (ne : l.from ≢ l.to) (nk : k.from ≢ k.to) (n g e : ℤ) (h : pos 0 <ℤ n)
    (c : IsPlacedAt l.from l.to n g k.from) (d : IsPlacedAt l.from l.to n e k.to) where
  reached_along : g ≤ℤ pos 0 → n ≤ℤ e → share l k ≡ true
  reached_along gl eh =
      by_lt_z g (pos 0)
      (λ lt. abutting_share l k (abuts_within l k l.from (inl refl)
      (between_within l.from l.to n h k l.from g (pos 0) e nk c (start_placed l.from l.to n) d lt (omega (arith, linear)))))
      (λ ge. by_lt_z n e
      (λ lt. abutting_share l k (abuts_within l k l.to (inr refl)
      (between_within l.from l.to n h k l.to g n e nk c (end_placed l.from l.to n) d (omega (arith, linear)) lt)))
      (λ le. doubled_share l k
      (ends_at-from l k.from (same_placed l.from l.to n (pos 0) g l.from k.from h (start_placed l.from l.to n) c (omega (arith, linear))))
      (ends_at-to l k.to (same_placed l.from l.to n n e l.to k.to h (end_placed l.from l.to n) d (omega (arith, linear))))))

  reached_against : e ≤ℤ pos 0 → n ≤ℤ g → share l k ≡ true
  reached_against el gh =
      by_lt_z e (pos 0)
      (λ lt. abutting_share l k (abuts_within l k l.from (inl refl)
      (between_against l.from l.to n h k l.from e (pos 0) g nk c (start_placed l.from l.to n) d lt (omega (arith, linear)))))
      (λ ge. by_lt_z n g
      (λ lt. abutting_share l k (abuts_within l k l.to (inr refl)
      (between_against l.from l.to n h k l.to e n g nk c (end_placed l.from l.to n) d (omega (arith, linear)) lt)))
      (λ le. doubled_share l k
      (ends_at-to l k.from (same_placed l.from l.to n n g l.to k.from h (end_placed l.from l.to n) c (omega (arith, linear))))
      (ends_at-from l k.to (same_placed l.from l.to n (pos 0) e l.from k.to h (start_placed l.from l.to n) d (omega (arith, linear))))))

  from_within : pos 0 <ℤ g → g <ℤ n → share l k ≡ true
  from_within low high =
      abutted_share l k (abuts_within k l k.from (inl refl)
      (between_within l.from l.to n h l k.from (pos 0) g n ne (start_placed l.from l.to n) c (end_placed l.from l.to n) low high))

  to_within : pos 0 <ℤ e → e <ℤ n → share l k ≡ true
  to_within low high =
      abutted_share l k (abuts_within k l k.to (inr refl)
      (between_within l.from l.to n h l k.to (pos 0) e n ne (start_placed l.from l.to n) d (end_placed l.from l.to n) low high))

  -- if a mean of k's ends lies within l, one of these holds
  shared_along : (t u s v w : ℤ) → pos 0 <ℤ t → pos 0 <ℤ u → pos 0 <ℤ s → pos 0 <ℤ v → t +ℤ u ≡ w → s +ℤ v ≡ w → s *ℤ g +ℤ v *ℤ e ≡ u *ℤ n
      → share l k ≡ true
  shared_along t u s v w t0 u0 s0 v0 tw sw m =
      by_lt_z (pos 0) g
      (λ gp. by_lt_z g n
      (λ gn. from_within gp gn)
      (λ ng. by_lt_z (pos 0) e
      (λ ep. by_lt_z e n
      (λ en. to_within ep en)
      (λ nf. absurd (past ng nf)))
      (λ el. reached_against el ng)))
      (λ gl. by_lt_z (pos 0) e
      (λ ep. by_lt_z e n
      (λ en. to_within ep en)
      (λ nf. reached_along gl nf))
      (λ el. absurd (before gl el)))
    where
      past : n ≤ℤ g → n ≤ℤ e → ⊥
      past ng nf =
          let p = times_at_most s n g (omega (arith, linear)) ng in
          let q = times_at_most v n e (omega (arith, linear)) nf in
          let r = product_positive t n t0 h in
          let e1 : s *ℤ n +ℤ v *ℤ n ≡ (s +ℤ v) *ℤ n = by_ring (s ∷ v ∷ n ∷ []) _ _ (search quotes depth 30 fits 20000) (search quotes depth 30 fits 20000) tt in
          let e2 : (s +ℤ v) *ℤ n ≡ (t +ℤ u) *ℤ n = ap (λ (z : ℤ). z *ℤ n) (sw ∙ sym tw) in
          let e3 : (t +ℤ u) *ℤ n ≡ t *ℤ n +ℤ u *ℤ n = by_ring (t ∷ u ∷ n ∷ []) _ _ (search quotes depth 30 fits 20000) (search quotes depth 30 fits 20000) tt in
          omega (arith, linear)

      before : g ≤ℤ pos 0 → e ≤ℤ pos 0 → ⊥
      before gl el =
          let p = times_at_most s g (pos 0) (omega (arith, linear)) gl in
          let q = times_at_most v e (pos 0) (omega (arith, linear)) el in
          let r = product_positive u n u0 h in
          let z = zero_product s in
          let y = zero_product v in
          omega (arith, linear)

-- ---- both at one point

-- if the weighted side values of two lines' ends add up to 0, each line has the other's ends on both sides, or all
-- side values are 0
record AreEven (s v t u A B F G : ℤ) : Type 0 where
  first : s *ℤ A +ℤ v *ℤ B ≡ pos 0
  second : t *ℤ F +ℤ u *ℤ G ≡ pos 0
  alike : A -ℤ B ≡ G -ℤ F

falls_then : (s v t u A B F G : ℤ) → pos 0 <ℤ s → pos 0 <ℤ v → pos 0 <ℤ t → pos 0 <ℤ u → AreEven s v t u A B F G → A <ℤ pos 0
    → (pos 0 <ℤ B) × (pos 0 <ℤ F) × (G <ℤ pos 0)
falls_then s v t u A B F G s0 v0 t0 u0 e lt =
    let b = opposite_up s v A B s0 v0 e.first lt in
    let alike = e.alike in
    let below : G <ℤ F = omega (arith, linear) in
    by_lt_z (pos 0) F
    (λ h. (b, h, opposite_down t u F G t0 u0 e.second h))
    (λ le. by_lt_z F (pos 0)
    (λ h. let k = opposite_up t u F G t0 u0 e.second h in absurd (omega (arith, linear)))
    (λ ge. let k = opposite_zero t u F G u0 e.second (omega (arith, linear)) in absurd (omega (arith, linear))))

rises_then : (s v t u A B F G : ℤ) → pos 0 <ℤ s → pos 0 <ℤ v → pos 0 <ℤ t → pos 0 <ℤ u → AreEven s v t u A B F G → pos 0 <ℤ A
    → (B <ℤ pos 0) × (F <ℤ pos 0) × (pos 0 <ℤ G)
rises_then s v t u A B F G s0 v0 t0 u0 e gt =
    let b = opposite_down s v A B s0 v0 e.first gt in
    let alike = e.alike in
    let above : F <ℤ G = omega (arith, linear) in
    by_lt_z F (pos 0)
    (λ h. (b, h, opposite_up t u F G t0 u0 e.second h))
    (λ le. by_lt_z (pos 0) F
    (λ h. let k = opposite_down t u F G t0 u0 e.second h in absurd (omega (arith, linear)))
    (λ ge. let k = opposite_zero t u F G u0 e.second (omega (arith, linear)) in absurd (omega (arith, linear))))

module _ (l k : PlacedLine) (ne : l.from ≢ l.to) (nk : k.from ≢ k.to) (p : ExactPoint) (positive : pos 0 <ℤ p.d)
    (t u s v : ℤ) (f : IsMean l t u p) (g : IsMean k s v p) where
  even : AreEven s v t u (turn l.from l.to k.from) (turn l.from l.to k.to) (turn k.from k.to l.from) (turn k.from k.to l.to)
  even = record {
    first = even_out l.from l.to k.from k.to t u s v p.x p.y p.d f.whole f.across f.upward g.whole g.across g.upward;
    second = even_out k.from k.to l.from l.to s v t u p.x p.y p.d g.whole g.across g.upward f.whole f.across f.upward;
    alike = differ_alike l.from l.to k.from k.to;
  }

  shared_inside : pos 0 <ℤ t → pos 0 <ℤ u → pos 0 <ℤ s → pos 0 <ℤ v → share l k ≡ true
  shared_inside t0 u0 s0 v0 =
      let A = turn l.from l.to k.from in
      let B = turn l.from l.to k.to in
      let F = turn k.from k.to l.from in
      let G = turn k.from k.to l.to in
      by_lt_z A (pos 0)
      (λ lt. let w = falls_then s v t u A B F G s0 v0 t0 u0 even lt in crossed_share l k (parts_up l k lt w.0) (parts_down k l w.1 w.2))
      (λ ge. by_lt_z (pos 0) A
      (λ gt. let w = rises_then s v t u A B F G s0 v0 t0 u0 even gt in crossed_share l k (parts_down l k gt w.0) (parts_up k l w.1 w.2))
      (λ le.
      let zero : A ≡ pos 0 = zero_is A le ge in
      shared_along l k ne nk (along l.from l.to l.to) (along l.from l.to k.from) (along l.from l.to k.to) (length_positive l.from l.to ne)
      (placed_at l.from l.to k.from zero) (placed_at l.from l.to k.to (opposite_zero s v A B v0 even.first zero))
      t u s v p.d t0 u0 s0 v0 f.whole g.whole (means_along l k t u s v p f g)))
    where
      zero_is : (z : ℤ) → z ≤ℤ pos 0 → pos 0 ≤ℤ z → z ≡ pos 0
      zero_is z h j = omega (arith, linear)

  shared_there : (IsEnd l p → IsEnd k p → ⊥) → share l k ≡ true
  shared_there inside =
      ⊎_elim
      (λ (a : IsEnd l p). ⊎_elim
      (λ (b : IsEnd k p). absurd (inside a b))
      (λ (b : (pos 0 <ℤ s) × (pos 0 <ℤ v)). abutting_share l k (end_abuts l k s v p nk g b.0 b.1 a))
      (place_on k s v p g))
      (λ (a : (pos 0 <ℤ t) × (pos 0 <ℤ u)). ⊎_elim
      (λ (b : IsEnd k p). abutted_share l k (end_abuts k l t u p ne f a.0 a.1 b))
      (λ (b : (pos 0 <ℤ s) × (pos 0 <ℤ v)). shared_inside a.0 a.1 b.0 b.1)
      (place_on k s v p g))
      (place_on l t u p f)

  boxes_there : boxes_meet l k ≡ true
  unfolding boxes_meet spans_meet
  boxes_there =
      both (is_under l.from.x l.to.x k.from.x k.to.x && is_under k.from.x k.to.x l.from.x l.to.x)
      (is_under l.from.y l.to.y k.from.y k.to.y && is_under k.from.y k.to.y l.from.y l.to.y)
      (both (is_under l.from.x l.to.x k.from.x k.to.x) (is_under k.from.x k.to.x l.from.x l.to.x)
      (under_means l.from.x l.to.x k.from.x k.to.x t u s v p.d p.x positive f.from_weight f.to_weight f.whole f.across g.from_weight g.to_weight g.whole g.across)
      (under_means k.from.x k.to.x l.from.x l.to.x s v t u p.d p.x positive g.from_weight g.to_weight g.whole g.across f.from_weight f.to_weight f.whole f.across))
      (both (is_under l.from.y l.to.y k.from.y k.to.y) (is_under k.from.y k.to.y l.from.y l.to.y)
      (under_means l.from.y l.to.y k.from.y k.to.y t u s v p.d p.y positive f.from_weight f.to_weight f.whole f.upward g.from_weight g.to_weight g.whole g.upward)
      (under_means k.from.y k.to.y l.from.y l.to.y s v t u p.d p.y positive g.from_weight g.to_weight g.whole g.upward f.from_weight f.to_weight f.whole f.upward))

tests_tell : (l k : PlacedLine) → l.from ≢ l.to → k.from ≢ k.to → HaveCrossing l k → (boxes_meet l k && share l k) ≡ true
tests_tell l k ne nk (p, c) =
    let f = c.first in
    let g = c.second in
    both (boxes_meet l k) (share l k) (boxes_there l k ne nk p c.positive f.0 f.1 g.0 g.1 f.2 g.2)
    (shared_there l k ne nk p c.positive f.0 f.1 g.0 g.1 f.2 g.2 c.inside)

pub tests_tell_crossings : TestsTellCrossings
tests_tell_crossings l k ne nk = (crossing_there l k ne nk, tests_tell l k ne nk)
