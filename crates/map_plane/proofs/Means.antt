-- Means of a line's ends, and the places of a straight line in their order.
use Rattle.std.proofs.Common.{◌≡◌, ◌≢◌, ◌∙◌, refl, sym, ap, Bool, true, false, ◌&&◌, ◌||◌, [], ◌∷◌, arith}
use Rattle.std.proofs.lemmas.Int.{by_lt_z}
use Rattle.std.proofs.lemmas.Bool.Decides.{Decides-int_eq}
use Rattle.std.specs.Ordering.{int_eq}
use Rattle.std.specs.Prelude.{ℤ, pos, ◌+ℤ◌, ◌-ℤ◌, ◌*ℤ◌, ◌≤ℤ◌, ◌<ℤ◌, int_le}
use Rattle.lump_records.specs.declared.records.Vertex.{Vertex}
use Rattle.lump_records.proofs.Ring.{by_ring, quotes}
use Rattle.lump_records.proofs.Signs.{linear, times_at_most, factor_at_most, zero_product}
use Rattle.map_plane.specs.declared.places.PlacedLine.{PlacedLine}
use Rattle.map_plane.specs.Meeting.{is_under, spans_meet, is_on, side_value_at, is_at, ends_at}
use Rattle.map_plane.proofs.Tests.{and_both, or_left, or_right, le_is, both}

-- the side value of p by the straight line from a to b
abbrev pub turn : Vertex → Vertex → Vertex → ℤ
turn a b p = (b.y -ℤ a.y) *ℤ (p.x -ℤ a.x) -ℤ (b.x -ℤ a.x) *ℤ (p.y -ℤ a.y)

-- how far p lies along that line, times its length
abbrev pub along : Vertex → Vertex → Vertex → ℤ
along a b p = (b.x -ℤ a.x) *ℤ (p.x -ℤ a.x) +ℤ (b.y -ℤ a.y) *ℤ (p.y -ℤ a.y)

-- ---- numbers

pub cancel : (c a b : ℤ) → pos 0 <ℤ c → c *ℤ a ≡ c *ℤ b → a ≡ b
cancel c a b h e =
    let p = factor_at_most c a b h (omega (arith, linear)) in
    let q = factor_at_most c b a h (omega (arith, linear)) in
    omega (arith, linear)

pub vertex_is : (u v : Vertex) → u.x ≡ v.x → u.y ≡ v.y → u ≡ v
vertex_is u v x y = λ i. record { x = x i; y = y i }

-- ---- a mean's side values

-- the side value of a point with denominator d
abbrev pub turn_of : Vertex → Vertex → ℤ → ℤ → ℤ → ℤ
turn_of a b x y d = (b.y -ℤ a.y) *ℤ (x -ℤ d *ℤ a.x) -ℤ (b.x -ℤ a.x) *ℤ (y -ℤ d *ℤ a.y)

pub turn_of_mean : (a b c e : Vertex) (s v : ℤ) → s *ℤ turn a b c +ℤ v *ℤ turn a b e ≡ turn_of a b (s *ℤ c.x +ℤ v *ℤ e.x) (s *ℤ c.y +ℤ v *ℤ e.y) (s +ℤ v)
turn_of_mean a b c e s v =
    by_ring (a.x ∷ a.y ∷ b.x ∷ b.y ∷ c.x ∷ c.y ∷ e.x ∷ e.y ∷ s ∷ v ∷ []) _ _ (search quotes depth 30 fits 20000) (search quotes depth 30 fits 20000) tt

turn_of_own : (a b : Vertex) (t u : ℤ) → turn_of a b (t *ℤ a.x +ℤ u *ℤ b.x) (t *ℤ a.y +ℤ u *ℤ b.y) (t +ℤ u) ≡ pos 0
turn_of_own a b t u =
    by_ring (a.x ∷ a.y ∷ b.x ∷ b.y ∷ t ∷ u ∷ []) _ _ (search quotes depth 30 fits 20000) (search quotes depth 30 fits 20000) tt

turn_of_place : (a b p : Vertex) (d : ℤ) → d *ℤ turn a b p ≡ turn_of a b (d *ℤ p.x) (d *ℤ p.y) d
turn_of_place a b p d =
    by_ring (a.x ∷ a.y ∷ b.x ∷ b.y ∷ p.x ∷ p.y ∷ d ∷ []) _ _ (search quotes depth 30 fits 20000) (search quotes depth 30 fits 20000) tt

-- two means at the same point: the weighted side values of one line's ends by the other line add up to 0
pub even_out : (a b c e : Vertex) (t u s v x y d : ℤ) → t +ℤ u ≡ d → t *ℤ a.x +ℤ u *ℤ b.x ≡ x → t *ℤ a.y +ℤ u *ℤ b.y ≡ y
    → s +ℤ v ≡ d → s *ℤ c.x +ℤ v *ℤ e.x ≡ x → s *ℤ c.y +ℤ v *ℤ e.y ≡ y → s *ℤ turn a b c +ℤ v *ℤ turn a b e ≡ pos 0
even_out a b c e t u s v x y d tw tx ty sw sx sy =
    turn_of_mean a b c e s v ∙ (λ i. turn_of a b ((sx ∙ sym tx) i) ((sy ∙ sym ty) i) ((sw ∙ sym tw) i)) ∙ turn_of_own a b t u

-- by how much the ends of each line differ in their side values by the other one
pub differ_alike : (a b c e : Vertex) → turn a b c -ℤ turn a b e ≡ turn c e b -ℤ turn c e a
differ_alike a b c e =
    by_ring (a.x ∷ a.y ∷ b.x ∷ b.y ∷ c.x ∷ c.y ∷ e.x ∷ e.y ∷ []) _ _ (search quotes depth 30 fits 20000) (search quotes depth 30 fits 20000) tt

-- ---- spans of means

-- two means with the same value: an end of the first is at most an end of the second
pub under_means : (a b c e t u s v d x : ℤ) → pos 0 <ℤ d → pos 0 ≤ℤ t → pos 0 ≤ℤ u → t +ℤ u ≡ d → t *ℤ a +ℤ u *ℤ b ≡ x
    → pos 0 ≤ℤ s → pos 0 ≤ℤ v → s +ℤ v ≡ d → s *ℤ c +ℤ v *ℤ e ≡ x → is_under a b c e ≡ true
unfolding is_under
under_means a b c e t u s v d x h t0 u0 tw tx s0 v0 sw sx =
    by_lt_z c a
    (λ ca. by_lt_z e a
    (λ ea. by_lt_z c b
    (λ cb. by_lt_z e b
    (λ eb. absurd (by_lt_z a b (λ ab. apart a t u b ca ea tw tx (times_at_most u a b u0 (omega (arith, linear))))
    (λ ba. apart b u t a cb eb (turned t u d tw) (turned (t *ℤ a) (u *ℤ b) x tx) (times_at_most t b a t0 ba))))
    (λ be. or_right (int_le a c || int_le a e || int_le b c) (int_le b e) (le_is b e be)))
    (λ bc. or_left (int_le a c || int_le a e || int_le b c) (int_le b e) (or_right (int_le a c || int_le a e) (int_le b c) (le_is b c bc))))
    (λ ae. or_left (int_le a c || int_le a e || int_le b c) (int_le b e)
    (or_left (int_le a c || int_le a e) (int_le b c) (or_right (int_le a c) (int_le a e) (le_is a e ae)))))
    (λ ac. or_left (int_le a c || int_le a e || int_le b c) (int_le b e)
    (or_left (int_le a c || int_le a e) (int_le b c) (or_left (int_le a c) (int_le a e) (le_is a c ac))))
  where
    turned : (p q r : ℤ) → p +ℤ q ≡ r → q +ℤ p ≡ r
    turned p q r k = omega (arith, linear)

    apart : (low o w high : ℤ) → c <ℤ low → e <ℤ low → o +ℤ w ≡ d → o *ℤ low +ℤ w *ℤ high ≡ x → (w *ℤ low) ≤ℤ (w *ℤ high) → ⊥
    apart low o w high cl el whole is more =
        let p = times_at_most s c (low -ℤ pos 1) s0 (omega (arith, linear)) in
        let q = times_at_most v e (low -ℤ pos 1) v0 (omega (arith, linear)) in
        let e1 : s *ℤ (low -ℤ pos 1) +ℤ v *ℤ (low -ℤ pos 1) ≡ (s +ℤ v) *ℤ low -ℤ (s +ℤ v) =
        by_ring (s ∷ v ∷ low ∷ []) _ _ (search quotes depth 30 fits 20000) (search quotes depth 30 fits 20000) tt in
        let e2 : o *ℤ low +ℤ w *ℤ low ≡ (o +ℤ w) *ℤ low = by_ring (o ∷ w ∷ low ∷ []) _ _ (search quotes depth 30 fits 20000) (search quotes depth 30 fits 20000) tt in
        let e3 : (o +ℤ w) *ℤ low ≡ (s +ℤ v) *ℤ low = ap (λ (z : ℤ). z *ℤ low) (whole ∙ sym sw) in
        omega (arith, linear)

-- ---- a place between a line's ends

-- the place lies on the line, and isn't an end of it
pub record LiesWithin (l : PlacedLine) (p : Vertex) : Type 0 where
  pub on : is_on l p ≡ true
  pub apart : ends_at l p ≡ false

test_false : (b : Bool) → (b ≡ true → ⊥) → b ≡ false
test_false true h = absurd (h refl)
test_false false h = refl

pub at_is : (v w : Vertex) → is_at v w ≡ true → v ≡ w
unfolding is_at
at_is v w h =
    let two = and_both (int_eq v.x w.x) (int_eq v.y w.y) h in
    vertex_is v w ((Decides-int_eq v.x w.x).0 two.0) ((Decides-int_eq v.y w.y).0 two.1)

pub is_at-same : (v w : Vertex) → v ≡ w → is_at v w ≡ true
unfolding is_at
is_at-same v w h =
    both (int_eq v.x w.x) (int_eq v.y w.y) ((Decides-int_eq v.x w.x).1 (ap (λ (z : Vertex). z.x) h)) ((Decides-int_eq v.y w.y).1 (ap (λ (z : Vertex). z.y) h))

neither : (a b : Bool) → a ≡ false → b ≡ false → (a || b) ≡ false
neither true b h k = cc
neither false b h k = k

pub ends_at-none : (l : PlacedLine) (p : Vertex) → (l.from ≡ p → ⊥) → (l.to ≡ p → ⊥) → ends_at l p ≡ false
unfolding ends_at
ends_at-none l p f g =
    neither (is_at l.from p) (is_at l.to p) (test_false (is_at l.from p) (λ h. f (at_is l.from p h))) (test_false (is_at l.to p) (λ h. g (at_is l.to p h)))

-- a mean with a positive weight of the far end isn't the near end
pub far_from : (c e : Vertex) (s v x y d : ℤ) → c ≢ e → pos 0 <ℤ v → s +ℤ v ≡ d → s *ℤ c.x +ℤ v *ℤ e.x ≡ x → s *ℤ c.y +ℤ v *ℤ e.y ≡ y
    → d *ℤ c.x ≡ x → d *ℤ c.y ≡ y → ⊥
far_from c e s v x y d ne h w mx my ex ey = ne (vertex_is c e (one c.x e.x x mx ex) (one c.y e.y y my ey))
  where
    one : (a b z : ℤ) → s *ℤ a +ℤ v *ℤ b ≡ z → d *ℤ a ≡ z → a ≡ b
    one a b z m k =
        let e1 : (s +ℤ v) *ℤ a ≡ s *ℤ a +ℤ v *ℤ a = by_ring (s ∷ v ∷ a ∷ []) _ _ (search quotes depth 30 fits 20000) (search quotes depth 30 fits 20000) tt in
        let e2 : (s +ℤ v) *ℤ a ≡ d *ℤ a = ap (λ (q : ℤ). q *ℤ a) w in
        cancel v a b h (omega (arith, linear))

pub turned_sum : (p q r : ℤ) → p +ℤ q ≡ r → q +ℤ p ≡ r
turned_sum p q r k = omega (arith, linear)

-- a place that is a mean with both weights positive lies between the ends
pub mean_within : (l : PlacedLine) (p : Vertex) (s v d : ℤ) → l.from ≢ l.to → pos 0 <ℤ s → pos 0 <ℤ v → s +ℤ v ≡ d
    → s *ℤ l.from.x +ℤ v *ℤ l.to.x ≡ d *ℤ p.x → s *ℤ l.from.y +ℤ v *ℤ l.to.y ≡ d *ℤ p.y → LiesWithin l p
unfolding is_on side_value_at spans_meet
mean_within l p s v d ne s0 v0 w mx my =
    let c = l.from in
    let e = l.to in
    let d0 : pos 0 <ℤ d = omega (arith, linear) in
    let zero : turn c e p ≡ pos 0 =
    cancel d (turn c e p) (pos 0) d0
    (turn_of_place c e p d ∙ (λ i. turn_of c e (sym mx i) (sym my i) (sym w i)) ∙ turn_of_own c e s v ∙ sym (zero_product d)) in
    let own : (z : ℤ) → d *ℤ z +ℤ pos 0 *ℤ z ≡ d *ℤ z =
    λ z. by_ring (d ∷ z ∷ []) _ _ (search quotes depth 30 fits 20000) (search quotes depth 30 fits 20000) tt in
    let span : (a b z : ℤ) → s *ℤ a +ℤ v *ℤ b ≡ d *ℤ z → (is_under a b z z && is_under z z a b) ≡ true =
    λ a b z m.
    both (is_under a b z z) (is_under z z a b)
    (under_means a b z z s v d (pos 0) d (d *ℤ z) d0 (omega (arith, linear)) (omega (arith, linear)) w m (omega (arith, linear)) (omega (arith, linear)) (omega (arith, linear)) (own z))
    (under_means z z a b d (pos 0) s v d (d *ℤ z) d0 (omega (arith, linear)) (omega (arith, linear)) (omega (arith, linear)) (own z) (omega (arith, linear)) (omega (arith, linear)) w m) in
    record {
      on =
          both (int_eq (turn c e p) (pos 0) && (is_under c.x e.x p.x p.x && is_under p.x p.x c.x e.x)) (is_under c.y e.y p.y p.y && is_under p.y p.y c.y e.y)
          (both (int_eq (turn c e p) (pos 0)) (is_under c.x e.x p.x p.x && is_under p.x p.x c.x e.x) ((Decides-int_eq (turn c e p) (pos 0)).1 zero) (span c.x e.x p.x mx))
          (span c.y e.y p.y my);
      apart =
          ends_at-none l p
          (λ h. far_from c e s v (d *ℤ p.x) (d *ℤ p.y) d ne v0 w mx my (ap (λ (z : Vertex). d *ℤ z.x) h) (ap (λ (z : Vertex). d *ℤ z.y) h))
          (λ h. far_from e c v s (d *ℤ p.x) (d *ℤ p.y) d (λ k. ne (sym k)) s0 (turned_sum s v d w) (turned_sum (s *ℤ c.x) (v *ℤ e.x) (d *ℤ p.x) mx) (turned_sum (s *ℤ c.y) (v *ℤ e.y) (d *ℤ p.y) my)
          (ap (λ (z : Vertex). d *ℤ z.x) h) (ap (λ (z : Vertex). d *ℤ z.y) h));
    }

-- ---- places on one straight line, in their order

-- the place lies at k on the straight line from a to b, whose length squared is n
pub record IsPlacedAt (a b : Vertex) (n k : ℤ) (p : Vertex) : Type 0 where
  pub across : n *ℤ (p.x -ℤ a.x) ≡ k *ℤ (b.x -ℤ a.x)
  pub upward : n *ℤ (p.y -ℤ a.y) ≡ k *ℤ (b.y -ℤ a.y)

pub placed_at : (a b p : Vertex) → turn a b p ≡ pos 0 → IsPlacedAt a b (along a b b) (along a b p) p
placed_at a b p zero = record { across = across; upward = upward }
  where
    across : along a b b *ℤ (p.x -ℤ a.x) ≡ along a b p *ℤ (b.x -ℤ a.x)
    across =
        let e1 : along a b b *ℤ (p.x -ℤ a.x) ≡ along a b p *ℤ (b.x -ℤ a.x) +ℤ (b.y -ℤ a.y) *ℤ turn a b p =
        by_ring (a.x ∷ a.y ∷ b.x ∷ b.y ∷ p.x ∷ p.y ∷ []) _ _ (search quotes depth 30 fits 20000) (search quotes depth 30 fits 20000) tt in
        let e2 : (b.y -ℤ a.y) *ℤ turn a b p ≡ pos 0 = ap (λ (z : ℤ). (b.y -ℤ a.y) *ℤ z) zero ∙ zero_product (b.y -ℤ a.y) in
        omega (arith, linear)

    upward : along a b b *ℤ (p.y -ℤ a.y) ≡ along a b p *ℤ (b.y -ℤ a.y)
    upward =
        let e1 : along a b b *ℤ (p.y -ℤ a.y) ≡ along a b p *ℤ (b.y -ℤ a.y) -ℤ (b.x -ℤ a.x) *ℤ turn a b p =
        by_ring (a.x ∷ a.y ∷ b.x ∷ b.y ∷ p.x ∷ p.y ∷ []) _ _ (search quotes depth 30 fits 20000) (search quotes depth 30 fits 20000) tt in
        let e2 : (b.x -ℤ a.x) *ℤ turn a b p ≡ pos 0 = ap (λ (z : ℤ). (b.x -ℤ a.x) *ℤ z) zero ∙ zero_product (b.x -ℤ a.x) in
        omega (arith, linear)

-- the middle one of three is the mean of the others by the distances
middle_is : (n a g p q r i j k : ℤ) → pos 0 <ℤ n → n *ℤ (p -ℤ a) ≡ i *ℤ g → n *ℤ (q -ℤ a) ≡ j *ℤ g → n *ℤ (r -ℤ a) ≡ k *ℤ g
    → (k -ℤ j) *ℤ p +ℤ (j -ℤ i) *ℤ r ≡ (k -ℤ i) *ℤ q
middle_is n a g p q r i j k h ip jq kr =
    cancel n ((k -ℤ j) *ℤ p +ℤ (j -ℤ i) *ℤ r) ((k -ℤ i) *ℤ q) h (left ∙ (λ o. (k -ℤ j) *ℤ ip o +ℤ (j -ℤ i) *ℤ kr o +ℤ (k -ℤ i) *ℤ (n *ℤ a))
    ∙ even ∙ (λ o. (k -ℤ i) *ℤ sym jq o +ℤ (k -ℤ i) *ℤ (n *ℤ a)) ∙ right)
  where
    left : n *ℤ ((k -ℤ j) *ℤ p +ℤ (j -ℤ i) *ℤ r) ≡ (k -ℤ j) *ℤ (n *ℤ (p -ℤ a)) +ℤ (j -ℤ i) *ℤ (n *ℤ (r -ℤ a)) +ℤ (k -ℤ i) *ℤ (n *ℤ a)
    left = by_ring (n ∷ a ∷ p ∷ r ∷ i ∷ j ∷ k ∷ []) _ _ (search quotes depth 30 fits 20000) (search quotes depth 30 fits 20000) tt

    even : (k -ℤ j) *ℤ (i *ℤ g) +ℤ (j -ℤ i) *ℤ (k *ℤ g) +ℤ (k -ℤ i) *ℤ (n *ℤ a) ≡ (k -ℤ i) *ℤ (j *ℤ g) +ℤ (k -ℤ i) *ℤ (n *ℤ a)
    even = by_ring (n ∷ a ∷ g ∷ i ∷ j ∷ k ∷ []) _ _ (search quotes depth 30 fits 20000) (search quotes depth 30 fits 20000) tt

    right : (k -ℤ i) *ℤ (n *ℤ (q -ℤ a)) +ℤ (k -ℤ i) *ℤ (n *ℤ a) ≡ n *ℤ ((k -ℤ i) *ℤ q)
    right = by_ring (n ∷ a ∷ q ∷ i ∷ k ∷ []) _ _ (search quotes depth 30 fits 20000) (search quotes depth 30 fits 20000) tt

-- a place between a line's ends in that order lies within the line
pub between_within : (a b : Vertex) (n : ℤ) → pos 0 <ℤ n → (l : PlacedLine) (q : Vertex) (i j k : ℤ) → l.from ≢ l.to
    → IsPlacedAt a b n i l.from → IsPlacedAt a b n j q → IsPlacedAt a b n k l.to → i <ℤ j → j <ℤ k → LiesWithin l q
between_within a b n h l q i j k ne p m r ij jk =
    mean_within l q (k -ℤ j) (j -ℤ i) (k -ℤ i) ne (omega (arith, linear)) (omega (arith, linear)) (omega (arith, linear))
    (middle_is n a.x (b.x -ℤ a.x) l.from.x q.x l.to.x i j k h p.across m.across r.across)
    (middle_is n a.y (b.y -ℤ a.y) l.from.y q.y l.to.y i j k h p.upward m.upward r.upward)

-- the same, where the line runs against it
pub between_against : (a b : Vertex) (n : ℤ) → pos 0 <ℤ n → (l : PlacedLine) (q : Vertex) (i j k : ℤ) → l.from ≢ l.to
    → IsPlacedAt a b n k l.from → IsPlacedAt a b n j q → IsPlacedAt a b n i l.to → i <ℤ j → j <ℤ k → LiesWithin l q
between_against a b n h l q i j k ne p m r ij jk =
    mean_within l q (j -ℤ i) (k -ℤ j) (k -ℤ i) ne (omega (arith, linear)) (omega (arith, linear)) (omega (arith, linear))
    (turned_sum ((k -ℤ j) *ℤ l.to.x) ((j -ℤ i) *ℤ l.from.x) ((k -ℤ i) *ℤ q.x) (middle_is n a.x (b.x -ℤ a.x) l.to.x q.x l.from.x i j k h r.across m.across p.across))
    (turned_sum ((k -ℤ j) *ℤ l.to.y) ((j -ℤ i) *ℤ l.from.y) ((k -ℤ i) *ℤ q.y) (middle_is n a.y (b.y -ℤ a.y) l.to.y q.y l.from.y i j k h r.upward m.upward p.upward))
