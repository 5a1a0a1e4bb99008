-- If the tests by side values say that two lines cross, the lines have a common point that isn't an end of both.
use Rattle.std.proofs.Common.{◌≡◌, ◌≢◌, ◌∙◌, refl, sym, ap, ◌⊎◌, inl, inr, ⊎_elim, true, false, ◌&&◌, ◌||◌, [], ◌∷◌, arith}
use Rattle.std.proofs.lemmas.Int.{ints, clamps, by_lt_z}
use Rattle.std.proofs.lemmas.Bool.{false≢true}
use Rattle.std.proofs.lemmas.Bool.Decides.{Decides-int_eq}
use Rattle.std.specs.Prelude.{ℤ, pos, negsuc, zero, suc, ◌+ℤ◌, ◌-ℤ◌, ◌*ℤ◌, neg_ℤ, ◌≤ℤ◌, ◌<ℤ◌}
use Rattle.lump_records.specs.declared.records.Vertex.{Vertex}
use Rattle.lump_records.proofs.Ring.{by_ring, quotes}
use Rattle.lump_records.proofs.Signs.{linear, product_not_negative}
use Rattle.map_plane.specs.declared.places.PlacedLine.{PlacedLine}
use Rattle.map_plane.specs.Meeting.{is_under, spans_meet, boxes_meet, is_on, side_value_at, ends_at, abuts, has_on_both_sides, doubles, share}
use Rattle.map_plane.specs.Segments.{ExactPoint, IsMean, LiesOnLine, IsEnd, HaveCrossing}
use Rattle.map_plane.proofs.Means.{turn, along, cancel, vertex_is, differ_alike, at_is, is_at-same, far_from, turned_sum, placed_at}
use Rattle.map_plane.proofs.Tests.{and_both, or_either, or_left, or_right, lt_says, not_says, under_says}

-- ---- ends

pub ends_at-from : (l : PlacedLine) (p : Vertex) → l.from ≡ p → ends_at l p ≡ true
unfolding ends_at
ends_at-from l p h = or_left _ _ (is_at-same l.from p h)

pub ends_at-to : (l : PlacedLine) (p : Vertex) → l.to ≡ p → ends_at l p ≡ true
unfolding ends_at
ends_at-to l p h = or_right _ _ (is_at-same l.to p h)

ends_at-says : (l : PlacedLine) (p : Vertex) → ends_at l p ≡ true → (l.from ≡ p) ⊎ (l.to ≡ p)
unfolding ends_at
ends_at-says l p h = ⊎_elim (λ f. inl (at_is l.from p f)) (λ t. inr (at_is l.to p t)) (or_either _ _ h)

-- a mean with both weights positive isn't an end
mean_no_end : (l : PlacedLine) (t u : ℤ) (p : ExactPoint) → l.from ≢ l.to → pos 0 <ℤ t → pos 0 <ℤ u → IsMean l t u p → IsEnd l p → ⊥
mean_no_end l t u p ne t0 u0 m end =
    ⊎_elim
    (λ f. far_from l.from l.to t u p.x p.y p.d ne u0 m.whole m.across m.upward f.across f.upward)
    (λ e. far_from l.to l.from u t p.x p.y p.d (λ k. ne (sym k)) t0 (turned_sum t u p.d m.whole)
    (turned_sum (t *ℤ l.from.x) (u *ℤ l.to.x) p.x m.across)
    (turned_sum (t *ℤ l.from.y) (u *ℤ l.to.y) p.y m.upward) e.across e.upward)
    end

-- ---- from the tests to a point

swapped : (l k : PlacedLine) → HaveCrossing k l → HaveCrossing l k
swapped l k (p, c) = (p, record { positive = c.positive; first = c.second; second = c.first; inside = λ e f. c.inside f e })

-- the point where two straight lines meet, as a mean of the ends of each
same_point : (a b c e : Vertex) → turn a b e *ℤ c.x +ℤ neg_ℤ (turn a b c) *ℤ e.x ≡ neg_ℤ (turn c e b) *ℤ a.x +ℤ turn c e a *ℤ b.x
same_point a b c e =
    by_ring (a.x ∷ a.y ∷ b.x ∷ b.y ∷ c.x ∷ c.y ∷ e.x ∷ e.y ∷ []) _ _ (search quotes depth 30 fits 20000) (search quotes depth 30 fits 20000) tt

same_height : (a b c e : Vertex) → turn a b e *ℤ c.y +ℤ neg_ℤ (turn a b c) *ℤ e.y ≡ neg_ℤ (turn c e b) *ℤ a.y +ℤ turn c e a *ℤ b.y
same_height a b c e =
    by_ring (a.x ∷ a.y ∷ b.x ∷ b.y ∷ c.x ∷ c.y ∷ e.x ∷ e.y ∷ []) _ _ (search quotes depth 30 fits 20000) (search quotes depth 30 fits 20000) tt

negated_sum : (a b x y : ℤ) → neg_ℤ (b *ℤ x +ℤ neg_ℤ a *ℤ y) ≡ neg_ℤ b *ℤ x +ℤ a *ℤ y
negated_sum a b x y = by_ring (a ∷ b ∷ x ∷ y ∷ []) _ _ (search quotes depth 30 fits 20000) (search quotes depth 30 fits 20000) tt

negated_other : (a b x y : ℤ) → neg_ℤ (neg_ℤ b *ℤ x +ℤ a *ℤ y) ≡ b *ℤ x +ℤ neg_ℤ a *ℤ y
negated_other a b x y = by_ring (a ∷ b ∷ x ∷ y ∷ []) _ _ (search quotes depth 30 fits 20000) (search quotes depth 30 fits 20000) tt

-- lines that each have the other's ends on both sides cross: k runs from the left of l to its right
crossed_rightward : (l k : PlacedLine) → k.from ≢ k.to → turn l.from l.to k.from <ℤ pos 0 → pos 0 <ℤ turn l.from l.to k.to
    → turn k.from k.to l.to <ℤ pos 0 → pos 0 <ℤ turn k.from k.to l.from → HaveCrossing l k
crossed_rightward l k ne cn ep bn ap' =
    let A = turn l.from l.to k.from in
    let B = turn l.from l.to k.to in
    let F = turn k.from k.to l.from in
    let G = turn k.from k.to l.to in
    let p : ExactPoint = record { x = B *ℤ k.from.x +ℤ neg_ℤ A *ℤ k.to.x; y = B *ℤ k.from.y +ℤ neg_ℤ A *ℤ k.to.y; d = B +ℤ neg_ℤ A } in
    let m : IsMean k B (neg_ℤ A) p = record { from_weight = omega (arith, linear); to_weight = omega (arith, linear); whole = refl; across = refl; upward = refl } in
    let alike = differ_alike l.from l.to k.from k.to in (
      p,
      record {
        positive = omega (arith, linear);
        first = (
          neg_ℤ G,
          F,
          record {
            from_weight = omega (arith, linear);
            to_weight = omega (arith, linear);
            whole = omega (arith, linear);
            across = sym (same_point l.from l.to k.from k.to);
            upward = sym (same_height l.from l.to k.from k.to);
          },
        );
        second = (B, neg_ℤ A, m);
        inside = λ e f. mean_no_end k B (neg_ℤ A) p ne (omega (arith, linear)) (omega (arith, linear)) m f;
      },
    )

-- or from its right to its left
crossed_leftward : (l k : PlacedLine) → k.from ≢ k.to → pos 0 <ℤ turn l.from l.to k.from → turn l.from l.to k.to <ℤ pos 0
    → pos 0 <ℤ turn k.from k.to l.to → turn k.from k.to l.from <ℤ pos 0 → HaveCrossing l k
crossed_leftward l k ne cp en bp an =
    let A = turn l.from l.to k.from in
    let B = turn l.from l.to k.to in
    let F = turn k.from k.to l.from in
    let G = turn k.from k.to l.to in
    let p : ExactPoint = record { x = neg_ℤ B *ℤ k.from.x +ℤ A *ℤ k.to.x; y = neg_ℤ B *ℤ k.from.y +ℤ A *ℤ k.to.y; d = neg_ℤ B +ℤ A } in
    let m : IsMean k (neg_ℤ B) A p = record { from_weight = omega (arith, linear); to_weight = omega (arith, linear); whole = refl; across = refl; upward = refl } in
    let alike = differ_alike l.from l.to k.from k.to in (
      p,
      record {
        positive = omega (arith, linear);
        first = (
          G,
          neg_ℤ F,
          record {
            from_weight = omega (arith, linear);
            to_weight = omega (arith, linear);
            whole = omega (arith, linear);
            across =
                sym (negated_other F G l.from.x l.to.x) ∙ ap neg_ℤ (sym (same_point l.from l.to k.from k.to)) ∙ negated_sum A B k.from.x k.to.x;
            upward =
                sym (negated_other F G l.from.y l.to.y) ∙ ap neg_ℤ (sym (same_height l.from l.to k.from k.to)) ∙ negated_sum A B k.from.y k.to.y;
          },
        );
        second = (neg_ℤ B, A, m);
        inside = λ e f. mean_no_end k (neg_ℤ B) A p ne (omega (arith, linear)) (omega (arith, linear)) m f;
      },
    )

parts_says : (l k : PlacedLine) → has_on_both_sides l k ≡ true
    → ((turn l.from l.to k.from <ℤ pos 0) × (pos 0 <ℤ turn l.from l.to k.to)) ⊎ ((pos 0 <ℤ turn l.from l.to k.from) × (turn l.from l.to k.to <ℤ pos 0))
unfolding has_on_both_sides side_value_at
parts_says l k h =
    ⊎_elim
    (λ f. let two = and_both _ _ f in inl (lt_says _ _ two.0, lt_says _ _ two.1))
    (λ f. let two = and_both _ _ f in inr (lt_says _ _ two.0, lt_says _ _ two.1))
    (or_either _ _ h)

crossed_by_parts : (l k : PlacedLine) → k.from ≢ k.to → has_on_both_sides l k ≡ true → has_on_both_sides k l ≡ true → HaveCrossing l k
crossed_by_parts l k ne h g =
    let alike = differ_alike l.from l.to k.from k.to in
    ⊎_elim
    (λ (f : (turn l.from l.to k.from <ℤ pos 0) × (pos 0 <ℤ turn l.from l.to k.to)). ⊎_elim
    (λ (w : (turn k.from k.to l.from <ℤ pos 0) × (pos 0 <ℤ turn k.from k.to l.to)). let a = f.0 in let b = f.1 in let c = w.0 in let d = w.1 in absurd (omega (arith, linear)))
    (λ (w : (pos 0 <ℤ turn k.from k.to l.from) × (turn k.from k.to l.to <ℤ pos 0)). crossed_rightward l k ne f.0 f.1 w.1 w.0)
    (parts_says k l g))
    (λ (f : (pos 0 <ℤ turn l.from l.to k.from) × (turn l.from l.to k.to <ℤ pos 0)). ⊎_elim
    (λ (w : (turn k.from k.to l.from <ℤ pos 0) × (pos 0 <ℤ turn k.from k.to l.to)). crossed_leftward l k ne f.0 f.1 w.1 w.0)
    (λ (w : (pos 0 <ℤ turn k.from k.to l.from) × (turn k.from k.to l.to <ℤ pos 0)). let a = f.0 in let b = f.1 in let c = w.0 in let d = w.1 in absurd (omega (arith, linear)))
    (parts_says k l g))
    (parts_says l k h)

-- ---- a place on a line

-- a number in a span: the step from either end to it doesn't run against the span
in_span : (a b x : ℤ) → spans_meet a b x x ≡ true → (pos 0 ≤ℤ ((b -ℤ a) *ℤ (x -ℤ a))) × (pos 0 ≤ℤ ((b -ℤ a) *ℤ (b -ℤ x)))
unfolding spans_meet
in_span a b x h =
    let two = and_both (is_under a b x x) (is_under x x a b) h in
    let low = under_says a b x x two.0 in
    let high = under_says x x a b two.1 in
    by_lt_z a b
    (λ lt. (
      product_not_negative (b -ℤ a) (x -ℤ a) (omega (arith, linear)) (omega (arith, ints, clamps, low, lt)),
      product_not_negative (b -ℤ a) (b -ℤ x) (omega (arith, linear)) (omega (arith, ints, clamps, high, lt)),
    ))
    (λ ge.
    let p = product_not_negative (a -ℤ b) (a -ℤ x) (omega (arith, linear)) (omega (arith, ints, clamps, high, ge)) in
    let q = product_not_negative (a -ℤ b) (x -ℤ b) (omega (arith, linear)) (omega (arith, ints, clamps, low, ge)) in
    let e1 : (a -ℤ b) *ℤ (a -ℤ x) ≡ (b -ℤ a) *ℤ (x -ℤ a) = by_ring (a ∷ b ∷ x ∷ []) _ _ (search quotes depth 30 fits 20000) (search quotes depth 30 fits 20000) tt in
    let e2 : (a -ℤ b) *ℤ (x -ℤ b) ≡ (b -ℤ a) *ℤ (b -ℤ x) = by_ring (a ∷ b ∷ x ∷ []) _ _ (search quotes depth 30 fits 20000) (search quotes depth 30 fits 20000) tt in
    (omega (arith, linear), omega (arith, linear)))

square_positive : (z : ℤ) → (z ≡ pos 0 → ⊥) → pos 0 <ℤ (z *ℤ z)
square_positive (pos zero) ne = absurd (ne refl)
square_positive (pos (suc n)) ne = omega (arith, ints)
square_positive (negsuc n) ne = omega (arith, ints)

square_not_negative : (z : ℤ) → pos 0 ≤ℤ (z *ℤ z)
square_not_negative (pos n) = omega (arith, ints)
square_not_negative (negsuc n) = omega (arith, ints)

by_zero : {A : Type 0} (z : ℤ) → (z ≡ pos 0 → A) → ((z ≡ pos 0 → ⊥) → A) → A
by_zero (pos zero) f g = f refl
by_zero (pos (suc n)) f g = g (λ e. cc)
by_zero (negsuc n) f g = g (λ e. cc)

-- different ends are at a distance
pub length_positive : (a b : Vertex) → a ≢ b → pos 0 <ℤ along a b b
length_positive a b ne =
    let x = square_not_negative (b.x -ℤ a.x) in
    let y = square_not_negative (b.y -ℤ a.y) in
    by_zero (b.x -ℤ a.x)
    (λ dx. by_zero (b.y -ℤ a.y)
    (λ dy. absurd (ne (vertex_is a b (omega (arith, linear)) (omega (arith, linear)))))
    (λ dy. let p = square_positive (b.y -ℤ a.y) dy in omega (arith, linear)))
    (λ dx. let p = square_positive (b.x -ℤ a.x) dx in omega (arith, linear))

mean_of_place : (n j a b q : ℤ) → n *ℤ (q -ℤ a) ≡ j *ℤ (b -ℤ a) → (n -ℤ j) *ℤ a +ℤ j *ℤ b ≡ n *ℤ q
mean_of_place n j a b q h =
    let e1 : (n -ℤ j) *ℤ a +ℤ j *ℤ b ≡ n *ℤ a +ℤ j *ℤ (b -ℤ a) = by_ring (n ∷ j ∷ a ∷ b ∷ []) _ _ (search quotes depth 30 fits 20000) (search quotes depth 30 fits 20000) tt in
    let e2 : n *ℤ (q -ℤ a) ≡ n *ℤ q -ℤ n *ℤ a = by_ring (n ∷ a ∷ q ∷ []) _ _ (search quotes depth 30 fits 20000) (search quotes depth 30 fits 20000) tt in
    omega (arith, linear)

pub near_end : (n z w : ℤ) → n *ℤ z +ℤ pos 0 *ℤ w ≡ n *ℤ z
near_end n z w = by_ring (n ∷ z ∷ w ∷ []) _ _ (search quotes depth 30 fits 20000) (search quotes depth 30 fits 20000) tt

far_end : (n z w : ℤ) → pos 0 *ℤ w +ℤ n *ℤ z ≡ n *ℤ z
far_end n z w = by_ring (n ∷ z ∷ w ∷ []) _ _ (search quotes depth 30 fits 20000) (search quotes depth 30 fits 20000) tt

-- a place as an exact point with denominator n
abbrev point_at : ℤ → Vertex → ExactPoint
point_at n q = record { x = n *ℤ q.x; y = n *ℤ q.y; d = n }

-- an end of line k at a place
ends_there : (k : PlacedLine) (q : Vertex) (n : ℤ) → pos 0 <ℤ n → (k.from ≡ q) ⊎ (k.to ≡ q) → LiesOnLine k (point_at n q)
ends_there k q n h at =
    ⊎_elim
    (λ f. (
      n,
      pos 0,
      record {
        from_weight = omega (arith, linear);
        to_weight = omega (arith, linear);
        whole = omega (arith, linear);
        across = near_end n k.from.x k.to.x ∙ ap (λ (z : Vertex). n *ℤ z.x) f;
        upward = near_end n k.from.y k.to.y ∙ ap (λ (z : Vertex). n *ℤ z.y) f;
      },
    ))
    (λ f. (
      pos 0,
      n,
      record {
        from_weight = omega (arith, linear);
        to_weight = omega (arith, linear);
        whole = omega (arith, linear);
        across = far_end n k.to.x k.from.x ∙ ap (λ (z : Vertex). n *ℤ z.x) f;
        upward = far_end n k.to.y k.from.y ∙ ap (λ (z : Vertex). n *ℤ z.y) f;
      },
    ))
    at

on_says : (l : PlacedLine) (q : Vertex) → is_on l q ≡ true
    → (turn l.from l.to q ≡ pos 0) × (spans_meet l.from.x l.to.x q.x q.x ≡ true) × (spans_meet l.from.y l.to.y q.y q.y ≡ true)
unfolding is_on side_value_at
on_says l q h =
    let two = and_both _ _ h in
    let one = and_both _ _ two.0 in
    ((Decides-int_eq (turn l.from l.to q) (pos 0)).0 one.0, one.1, two.1)

-- an end of k on l that isn't an end of l is such a point
crossed_at : (l k : PlacedLine) (q : Vertex) → l.from ≢ l.to → is_on l q ≡ true → ends_at l q ≡ false → (k.from ≡ q) ⊎ (k.to ≡ q) → HaveCrossing l k
crossed_at l k q ne on apart at =
    let a = l.from in
    let b = l.to in
    let n = along a b b in
    let j = along a b q in
    let h = length_positive a b ne in
    let says = on_says l q on in
    let place = placed_at a b q says.0 in
    let x = in_span a.x b.x q.x says.1 in
    let y = in_span a.y b.y q.y says.2 in
    let e : n -ℤ j ≡ (b.x -ℤ a.x) *ℤ (b.x -ℤ q.x) +ℤ (b.y -ℤ a.y) *ℤ (b.y -ℤ q.y) =
    by_ring (a.x ∷ a.y ∷ b.x ∷ b.y ∷ q.x ∷ q.y ∷ []) _ _ (search quotes depth 30 fits 20000) (search quotes depth 30 fits 20000) tt in
    let x0 = x.0 in let x1 = x.1 in let y0 = y.0 in let y1 = y.1 in (
      point_at n q,
      record {
        positive = h;
        first = (
          n -ℤ j,
          j,
          record {
            from_weight = omega (arith, linear);
            to_weight = omega (arith, linear);
            whole = omega (arith, linear);
            across = mean_of_place n j a.x b.x q.x place.across;
            upward = mean_of_place n j a.y b.y q.y place.upward;
          },
        );
        second = ends_there k q n h at;
        inside = λ end f. false≢true (sym apart ∙ ⊎_elim
            (λ s. ends_at-from l q (vertex_is a q (cancel n a.x q.x h s.across) (cancel n a.y q.y h s.upward)))
            (λ s. ends_at-to l q (vertex_is b q (cancel n b.x q.x h s.across) (cancel n b.y q.y h s.upward))) end);
      },
    )

crossed_by_abuts : (l k : PlacedLine) → l.from ≢ l.to → abuts k l ≡ true → HaveCrossing l k
unfolding abuts
crossed_by_abuts l k ne h =
    ⊎_elim
    (λ f. let two = and_both _ _ f in crossed_at l k k.from ne two.0 (not_says _ two.1) (inl refl))
    (λ f. let two = and_both _ _ f in crossed_at l k k.to ne two.0 (not_says _ two.1) (inr refl))
    (or_either _ _ h)

-- ---- lines between the same places

halves : (l k : PlacedLine) → l.from ≢ l.to → (pos 1 *ℤ k.from.x +ℤ pos 1 *ℤ k.to.x ≡ pos 1 *ℤ l.from.x +ℤ pos 1 *ℤ l.to.x)
    → (pos 1 *ℤ k.from.y +ℤ pos 1 *ℤ k.to.y ≡ pos 1 *ℤ l.from.y +ℤ pos 1 *ℤ l.to.y) → HaveCrossing l k
halves l k ne x y =
    let p : ExactPoint = record { x = pos 1 *ℤ l.from.x +ℤ pos 1 *ℤ l.to.x; y = pos 1 *ℤ l.from.y +ℤ pos 1 *ℤ l.to.y; d = pos 2 } in
    let m : IsMean l (pos 1) (pos 1) p = record { from_weight = omega (arith, linear); to_weight = omega (arith, linear); whole = refl; across = refl; upward = refl } in (
      p,
      record {
        positive = omega (arith, linear);
        first = (pos 1, pos 1, m);
        second = (pos 1, pos 1, record { from_weight = omega (arith, linear); to_weight = omega (arith, linear); whole = refl; across = x; upward = y });
        inside = λ e f. mean_no_end l (pos 1) (pos 1) p ne (omega (arith, linear)) (omega (arith, linear)) m e;
      },
    )

crossed_by_doubles : (l k : PlacedLine) → l.from ≢ l.to → k.from ≢ k.to → doubles l k ≡ true → HaveCrossing l k
unfolding doubles
crossed_by_doubles l k ne nk h =
    let two = and_both (ends_at l k.from) (ends_at l k.to) h in
    ⊎_elim
    (λ (f : l.from ≡ k.from). ⊎_elim
    (λ (g : l.from ≡ k.to). absurd (nk (sym f ∙ g)))
    (λ (g : l.to ≡ k.to). halves l k ne (λ i. pos 1 *ℤ (sym f i).x +ℤ pos 1 *ℤ (sym g i).x) (λ i. pos 1 *ℤ (sym f i).y +ℤ pos 1 *ℤ (sym g i).y))
    (ends_at-says l k.to two.1))
    (λ (f : l.to ≡ k.from). ⊎_elim
    (λ (g : l.from ≡ k.to). halves l k ne
    (turned_sum (pos 1 *ℤ k.to.x) (pos 1 *ℤ k.from.x) (pos 1 *ℤ l.from.x +ℤ pos 1 *ℤ l.to.x) (λ i. pos 1 *ℤ (sym g i).x +ℤ pos 1 *ℤ (sym f i).x))
    (turned_sum (pos 1 *ℤ k.to.y) (pos 1 *ℤ k.from.y) (pos 1 *ℤ l.from.y +ℤ pos 1 *ℤ l.to.y) (λ i. pos 1 *ℤ (sym g i).y +ℤ pos 1 *ℤ (sym f i).y)))
    (λ (g : l.to ≡ k.to). absurd (nk (sym f ∙ g)))
    (ends_at-says l k.to two.1))
    (ends_at-says l k.from two.0)

pub crossing_there : (l k : PlacedLine) → l.from ≢ l.to → k.from ≢ k.to → (boxes_meet l k && share l k) ≡ true → HaveCrossing l k
unfolding share
crossing_there l k ne nk h =
    let two = and_both _ _ h in
    ⊎_elim
    (λ f. ⊎_elim
    (λ g. ⊎_elim
    (λ w. let cross = and_both _ _ w in crossed_by_parts l k nk cross.0 cross.1)
    (λ w. crossed_by_abuts l k ne w)
    (or_either (has_on_both_sides l k && has_on_both_sides k l) (abuts k l) g))
    (λ g. swapped l k (crossed_by_abuts k l nk g))
    (or_either ((has_on_both_sides l k && has_on_both_sides k l) || abuts k l) (abuts l k) f))
    (λ f. crossed_by_doubles l k ne nk f)
    (or_either ((has_on_both_sides l k && has_on_both_sides k l) || abuts k l || abuts l k) (doubles l k) two.1)
