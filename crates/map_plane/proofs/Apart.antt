-- Two lines of which one doesn't reach to the left of a divider and the other one not to its right don't meet.
use Rattle.std.proofs.Common.{◌≡◌, ◌≢◌, ◌∙◌, refl, sym, ap, ◌⊎◌, inl, inr, ⊎_elim, Bool, true, false, ◌&&◌, ◌||◌, ◌==◌, not, [], ◌∷◌, arith}
use Rattle.std.proofs.lemmas.Int.{by_lt_z}
use Rattle.std.specs.Prelude.{ℤ, pos, ◌+ℤ◌, ◌-ℤ◌, ◌*ℤ◌, neg_ℤ, ◌≤ℤ◌, ◌<ℤ◌, int_lt}
use Rattle.lump_records.proofs.Signs.{linear, product_positive, product_not_negative, times_neg}
use Rattle.map_plane.specs.declared.places.PlacedLine.{PlacedLine}
use Rattle.map_plane.specs.Crossed.{reaches_right, reaches_left, is_dot, goes_right, goes_left}
use Rattle.map_plane.specs.Meeting.{boxes_meet, meets, share, side_value_at}
use Rattle.map_plane.specs.Segments.{ExactPoint, IsMean, IsEnd, HaveCrossing}
use Rattle.map_plane.proofs.Means.{is_at-same, turn, turn_of, turn_of_mean}
use Rattle.map_plane.proofs.CrossingPoints.{crossing_there}
use Rattle.map_plane.proofs.Crossings.{place_on}
use Rattle.map_plane.proofs.Tests.{and_both, or_either, or_left, or_right, both, lt_says, lt_is}

-- ---- two lines

-- the side value of a point of a line is the mean of those of its ends
mean_turn : (d l : PlacedLine) (t u : ℤ) (p : ExactPoint) → IsMean l t u p
    → t *ℤ turn d.from d.to l.from +ℤ u *ℤ turn d.from d.to l.to ≡ turn_of d.from d.to p.x p.y p.d
mean_turn d l t u p m = turn_of_mean d.from d.to l.from l.to t u ∙ (λ i. turn_of d.from d.to (m.across i) (m.upward i) (m.whole i))

-- a line with no end on one side and one on the other: a point of it that isn't on the other side is an end
only_touches : (l : PlacedLine) (t u : ℤ) (p : ExactPoint) (a b : ℤ) → IsMean l t u p → pos 0 ≤ℤ a → pos 0 ≤ℤ b → (pos 0 <ℤ a) ⊎ (pos 0 <ℤ b)
    → (t *ℤ a +ℤ u *ℤ b) ≤ℤ pos 0 → IsEnd l p
only_touches l t u p a b m a0 b0 far h =
    ⊎_elim
    (λ (end : IsEnd l p). end)
    (λ (w : (pos 0 <ℤ t) × (pos 0 <ℤ u)). absurd (⊎_elim
    (λ lt. let x = product_positive t a w.0 lt in let y = product_not_negative u b m.to_weight b0 in omega (arith, linear))
    (λ lt. let x = product_not_negative t a m.from_weight a0 in let y = product_positive u b w.1 lt in omega (arith, linear))
    far))
    (place_on l t u p m)

-- no end has a side value below 0, and one has one above
record Keeps (a b : ℤ) : Type 0 where
  first : pos 0 ≤ℤ a
  second : pos 0 ≤ℤ b
  far : (pos 0 <ℤ a) ⊎ (pos 0 <ℤ b)

no_crossing : (d l k : PlacedLine) → Keeps (turn d.from d.to l.from) (turn d.from d.to l.to)
    → Keeps (neg_ℤ (turn d.from d.to k.from)) (neg_ℤ (turn d.from d.to k.to)) → HaveCrossing l k → ⊥
no_crossing d l k right left (p, c) =
    let a = turn d.from d.to l.from in
    let b = turn d.from d.to l.to in
    let e = turn d.from d.to k.from in
    let f = turn d.from d.to k.to in
    let t = c.first.0 in
    let u = c.first.1 in
    let m = c.first.2 in
    let s = c.second.0 in
    let v = c.second.1 in
    let n = c.second.2 in
    let even : t *ℤ a +ℤ u *ℤ b ≡ s *ℤ e +ℤ v *ℤ f = mean_turn d l t u p m ∙ sym (mean_turn d k s v p n) in
    let p1 = product_not_negative t a m.from_weight right.first in
    let p2 = product_not_negative u b m.to_weight right.second in
    let p3 = product_not_negative s (neg_ℤ e) n.from_weight left.first in
    let p4 = product_not_negative v (neg_ℤ f) n.to_weight left.second in
    let e3 = times_neg s e in
    let e4 = times_neg v f in
    c.inside
    (only_touches l t u p a b m right.first right.second right.far (omega (arith, linear)))
    (only_touches k s v p (neg_ℤ e) (neg_ℤ f) n left.first left.second left.far (omega (arith, linear)))

-- ---- what the tests of a divider say

not_lt_says : (a b : ℤ) → int_lt a b ≡ false → b ≤ℤ a
not_lt_says a b h = by_lt_z a b (λ lt. absurd (differ (sym h ∙ lt_is a b lt))) (λ ge. ge)
  where
    differ : false ≡ true → ⊥
    differ e = cc

neither_either : (a b : Bool) → (a || b) ≡ false → (a ≡ false) × (b ≡ false)
neither_either true b h = cc
neither_either false b h = (refl, h)

keeps_right : (d l : PlacedLine) → reaches_right d l ≡ true → reaches_left d l ≡ false → Keeps (turn d.from d.to l.from) (turn d.from d.to l.to)
unfolding reaches_right reaches_left side_value_at
keeps_right d l r h =
    let two = neither_either (int_lt (turn d.from d.to l.from) (pos 0)) (int_lt (turn d.from d.to l.to) (pos 0)) h in
    record {
      first = not_lt_says _ _ two.0;
      second = not_lt_says _ _ two.1;
      far = ⊎_elim (λ x. inl (lt_says _ _ x)) (λ x. inr (lt_says _ _ x)) (or_either _ _ r);
    }

keeps_left : (d l : PlacedLine) → reaches_left d l ≡ true → reaches_right d l ≡ false
    → Keeps (neg_ℤ (turn d.from d.to l.from)) (neg_ℤ (turn d.from d.to l.to))
unfolding reaches_right reaches_left side_value_at
keeps_left d l r h =
    let two = neither_either (int_lt (pos 0) (turn d.from d.to l.from)) (int_lt (pos 0) (turn d.from d.to l.to)) h in
    let x : turn d.from d.to l.from ≤ℤ pos 0 = not_lt_says _ _ two.0 in
    let y : turn d.from d.to l.to ≤ℤ pos 0 = not_lt_says _ _ two.1 in
    record {
      first = omega (arith, linear);
      second = omega (arith, linear);
      far = ⊎_elim (λ z. inl (let w : turn d.from d.to l.from <ℤ pos 0 = lt_says _ _ z in omega (arith, linear))) (λ z. inr (let w : turn d.from d.to l.to <ℤ pos 0 = lt_says _ _ z in omega (arith, linear))) (or_either _ _ r);
    }

not_dot : (l : PlacedLine) → is_dot l ≡ false → l.from ≢ l.to
unfolding is_dot
not_dot l h e = differ (sym h ∙ is_at-same l.from l.to e)
  where
    differ : false ≡ true → ⊥
    differ x = cc

meets_crossing : (l k : PlacedLine) → l.from ≢ l.to → k.from ≢ k.to → meets l k ≡ true → HaveCrossing l k
unfolding meets
meets_crossing l k ne nk h =
    let two = and_both (not (l.number == k.number) && boxes_meet l k) (share l k) h in
    let one = and_both (not (l.number == k.number)) (boxes_meet l k) two.0 in
    crossing_there l k ne nk (both (boxes_meet l k) (share l k) one.1 two.1)

-- ---- together in one part

-- a line that goes to the right alone
record IsOnlyRight (d l : PlacedLine) : Type 0 where
  reaches : reaches_right d l ≡ true
  stays : reaches_left d l ≡ false
  proper : is_dot l ≡ false

-- a line that goes to the left alone
record IsOnlyLeft (d l : PlacedLine) : Type 0 where
  reaches : reaches_left d l ≡ true
  stays : reaches_right d l ≡ false
  proper : is_dot l ≡ false

alone : (r f dot : Bool) → (r || not f || dot) ≡ false → (r ≡ false) × (f ≡ true) × (dot ≡ false)
alone true f dot h = cc
alone false true dot h = (refl, refl, h)
alone false false dot h = cc

only_left : (d l : PlacedLine) → goes_right d l ≡ false → IsOnlyLeft d l
unfolding goes_right
only_left d l h = let a = alone (reaches_right d l) (reaches_left d l) (is_dot l) h in record { reaches = a.1; stays = a.0; proper = a.2 }

only_right : (d l : PlacedLine) → goes_left d l ≡ false → IsOnlyRight d l
unfolding goes_left
only_right d l h = let a = alone (reaches_left d l) (reaches_right d l) (is_dot l) h in record { reaches = a.1; stays = a.0; proper = a.2 }

apart : (d l k : PlacedLine) → IsOnlyRight d l → IsOnlyLeft d k → meets l k ≡ true → ⊥
apart d l k r f h =
    no_crossing d l k (keeps_right d l r.reaches r.stays) (keeps_left d k f.reaches f.stays)
    (meets_crossing l k (not_dot l r.proper) (not_dot k f.proper) h)

apart_turned : (d l k : PlacedLine) → IsOnlyLeft d l → IsOnlyRight d k → meets l k ≡ true → ⊥
apart_turned d l k f r h =
    no_crossing d k l (keeps_right d k r.reaches r.stays) (keeps_left d l f.reaches f.stays) (swapped (meets_crossing l k (not_dot l f.proper) (not_dot k r.proper) h))
  where
    swapped : HaveCrossing l k → HaveCrossing k l
    swapped (p, c) = (p, record { positive = c.positive; first = c.second; second = c.first; inside = λ e g. c.inside g e })

either : (b : Bool) → (b ≡ true) ⊎ (b ≡ false)
either true = inl refl
either false = inr refl

left_of : (d j : PlacedLine) → IsOnlyLeft d j → goes_left d j ≡ true
unfolding goes_left
left_of d j f = or_left (reaches_left d j || not (reaches_right d j)) (is_dot j) (or_left (reaches_left d j) (not (reaches_right d j)) f.reaches)

-- lines that meet are together in the right part or in the left one
pub together : (d l k : PlacedLine) → meets l k ≡ true
    → ((goes_right d l ≡ true) × (goes_right d k ≡ true)) ⊎ ((goes_left d l ≡ true) × (goes_left d k ≡ true))
together d l k h =
    ⊎_elim
    (λ (lr : goes_right d l ≡ true). ⊎_elim
    (λ (kr : goes_right d k ≡ true). inl (lr, kr))
    (λ (kn : goes_right d k ≡ false). let f = only_left d k kn in ⊎_elim
    (λ (lf : goes_left d l ≡ true). inr (lf, left_of d k f))
    (λ (ln : goes_left d l ≡ false). absurd (apart d l k (only_right d l ln) f h))
    (either (goes_left d l)))
    (either (goes_right d k)))
    (λ (ln : goes_right d l ≡ false). let f = only_left d l ln in ⊎_elim
    (λ (kf : goes_left d k ≡ true). inr (left_of d l f, kf))
    (λ (kn : goes_left d k ≡ false). absurd (apart_turned d l k f (only_right d k kn) h))
    (either (goes_left d k)))
    (either (goes_right d l))
