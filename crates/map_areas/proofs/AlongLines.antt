-- Places along a line, in their order, and where a line crosses a part of it.
use Rattle.std.proofs.Common.{◌≡◌, ◌≢◌, sym, ap, ◌∙◌, ◌⊎◌, inl, inr, ⊎_elim, [], ◌∷◌, true, ◌&&◌, not, arith}
use Rattle.std.proofs.lemmas.Int.{ints, clamps, by_lt_z}
use Rattle.std.proofs.lemmas.Bool.Decides.{Decides-int_eq}
use Rattle.std.specs.Prelude.{ℤ, pos, ◌+ℤ◌, ◌-ℤ◌, ◌*ℤ◌, ◌<ℤ◌, ◌≤ℤ◌}
use Rattle.lump_records.proofs.Ring.{by_ring, quotes}
use Rattle.lump_records.proofs.Signs.{linear, factor_below, product_not_negative, times_below, zero_product}
use Rattle.lump_records.specs.declared.records.Vertex.{Vertex}
use Rattle.map_plane.proofs.CrossingPoints.{length_positive}
use Rattle.map_plane.proofs.Means.{IsPlacedAt, along, between_within, cancel, placed_at, turn, vertex_is}
use Rattle.map_plane.proofs.Tests.{and_both, both, lt_is, lt_says, or_either, or_left, or_right, under_says}
use Rattle.map_plane.specs.Meeting.{boxes_meet, ends_at, has_on_both_sides, is_on, is_under, side_value_at, spans_meet}
use Rattle.map_plane.specs.declared.places.PlacedLine.{PlacedLine}
use Rattle.map_areas.proofs.Crossed.{on_line}
use Rattle.map_areas.specs.Stops.{far_along, comes_first}
use Rattle.map_areas.specs.Ways.{crosses_way, is_between, way}

-- ---- how far a place is along a line

-- of a line with its ends
abbrev pub far : PlacedLine → Vertex → ℤ
far l p = along l.from l.to p

pub first_says : (l : PlacedLine) (p q : Vertex) → comes_first l p q ≡ true → far l p <ℤ far l q
unfolding far_along
first_says l p q h = lt_says (far l p) (far l q) h

-- on a line whose ends are at one place no place is further than another one
flat : (a p : Vertex) → along a a p ≡ pos 0
flat a p = by_ring (a.x ∷ a.y ∷ p.x ∷ p.y ∷ []) _ _ (search quotes depth 30 fits 20000) (search quotes depth 30 fits 20000) tt

ends_apart : (a b p q : Vertex) → along a b p <ℤ along a b q → a ≢ b
ends_apart a b p q h e =
    let u : along a b p ≡ pos 0 = ap (λ (z : Vertex). along a z p) (sym e) ∙ flat a p in
    let v : along a b q ≡ pos 0 = ap (λ (z : Vertex). along a z q) (sym e) ∙ flat a q in
    omega (arith, linear)

-- the line has a length then
pub has_length : (l : PlacedLine) (p q : Vertex) → far l p <ℤ far l q → pos 0 <ℤ far l l.to
has_length l p q h = length_positive l.from l.to (ends_apart l.from l.to p q h)

pub straight : (l : PlacedLine) (p : Vertex) → is_on l p ≡ true → turn l.from l.to p ≡ pos 0
unfolding side_value_at
straight l p h = on_line l p h

pub stands_at : (l : PlacedLine) (p : Vertex) → is_on l p ≡ true → IsPlacedAt l.from l.to (far l l.to) (far l p) p
stands_at l p h = placed_at l.from l.to p (straight l p h)

-- places of a line that are as far along it are one
pub one_place : (l : PlacedLine) (p q : Vertex) → pos 0 <ℤ far l l.to → is_on l p ≡ true → is_on l q ≡ true → far l p ≡ far l q → p ≡ q
one_place l p q h op oq e =
    let f = stands_at l p op in
    let g = stands_at l q oq in
    vertex_is p q (one l.from.x l.to.x p.x q.x f.across g.across) (one l.from.y l.to.y p.y q.y f.upward g.upward)
  where
    one : (x y z w : ℤ) → far l l.to *ℤ (z -ℤ x) ≡ far l p *ℤ (y -ℤ x) → far l l.to *ℤ (w -ℤ x) ≡ far l q *ℤ (y -ℤ x) → z ≡ w
    one x y z w f' g' =
        let k = cancel (far l l.to) (z -ℤ x) (w -ℤ x) h (f' ∙ ap (λ (o : ℤ). o *ℤ (y -ℤ x)) e ∙ sym g') in
        omega (arith, linear)

-- a number in a span: the step from either end to it doesn't run against the span
in_span : (a b x : ℤ) → spans_meet a b x x ≡ true → (pos 0 ≤ℤ ((b -ℤ a) *ℤ (x -ℤ a))) × (pos 0 ≤ℤ ((b -ℤ a) *ℤ (b -ℤ x)))
unfolding spans_meet
in_span a b x h =
    let two = and_both (is_under a b x x) (is_under x x a b) h in
    let low = under_says a b x x two.0 in
    let high = under_says x x a b two.1 in
    by_lt_z a b
    (λ lt. (
      product_not_negative (b -ℤ a) (x -ℤ a) (omega (arith, linear)) (omega (arith, ints, clamps, low, lt)),
      product_not_negative (b -ℤ a) (b -ℤ x) (omega (arith, linear)) (omega (arith, ints, clamps, high, lt)),
    ))
    (λ ge.
    let p = product_not_negative (a -ℤ b) (a -ℤ x) (omega (arith, linear)) (omega (arith, ints, clamps, high, ge)) in
    let q = product_not_negative (a -ℤ b) (x -ℤ b) (omega (arith, linear)) (omega (arith, ints, clamps, low, ge)) in
    let e1 : (a -ℤ b) *ℤ (a -ℤ x) ≡ (b -ℤ a) *ℤ (x -ℤ a) = by_ring (a ∷ b ∷ x ∷ []) _ _ (search quotes depth 30 fits 20000) (search quotes depth 30 fits 20000) tt in
    let e2 : (a -ℤ b) *ℤ (x -ℤ b) ≡ (b -ℤ a) *ℤ (b -ℤ x) = by_ring (a ∷ b ∷ x ∷ []) _ _ (search quotes depth 30 fits 20000) (search quotes depth 30 fits 20000) tt in
    (omega (arith, linear), omega (arith, linear)))

pub spans_says : (l : PlacedLine) (p : Vertex) → is_on l p ≡ true → (spans_meet l.from.x l.to.x p.x p.x ≡ true) × (spans_meet l.from.y l.to.y p.y p.y ≡ true)
unfolding is_on
spans_says l p h =
    let two = and_both _ _ h in
    let one = and_both _ _ two.0 in
    (one.1, two.1)

-- a place of a line is between its ends, or one of them
pub in_line : (l : PlacedLine) (p : Vertex) → is_on l p ≡ true → (pos 0 ≤ℤ far l p) × (far l p ≤ℤ far l l.to)
in_line l p h =
    let s = spans_says l p h in
    let x = in_span l.from.x l.to.x p.x s.0 in
    let y = in_span l.from.y l.to.y p.y s.1 in
    let x0 = x.0 in let x1 = x.1 in let y0 = y.0 in let y1 = y.1 in
    let e : far l l.to -ℤ far l p ≡ (l.to.x -ℤ l.from.x) *ℤ (l.to.x -ℤ p.x) +ℤ (l.to.y -ℤ l.from.y) *ℤ (l.to.y -ℤ p.y) =
    by_ring (l.from.x ∷ l.from.y ∷ l.to.x ∷ l.to.y ∷ p.x ∷ p.y ∷ []) _ _ (search quotes depth 30 fits 20000) (search quotes depth 30 fits 20000) tt in
    (omega (arith, linear), omega (arith, linear))

-- a line begins at 0
pub starts_at : (l : PlacedLine) → far l l.from ≡ pos 0
starts_at l = by_ring (l.from.x ∷ l.from.y ∷ l.to.x ∷ l.to.y ∷ []) _ _ (search quotes depth 30 fits 20000) (search quotes depth 30 fits 20000) tt

-- its ends are places of it
span_from : (a b : ℤ) → spans_meet a b a a ≡ true
unfolding spans_meet is_under
span_from a b = grind (arith, ints)

span_to : (a b : ℤ) → spans_meet a b b b ≡ true
unfolding spans_meet is_under
span_to a b = grind (arith, ints)

pub on_from : (l : PlacedLine) → is_on l l.from ≡ true
unfolding is_on side_value_at
on_from l =
    let zero : turn l.from l.to l.from ≡ pos 0 = by_ring (l.from.x ∷ l.from.y ∷ l.to.x ∷ l.to.y ∷ []) _ _ (search quotes depth 30 fits 20000) (search quotes depth 30 fits 20000) tt in
    both _ _ (both _ _ ((Decides-int_eq (turn l.from l.to l.from) (pos 0)).1 zero) (span_from l.from.x l.to.x)) (span_from l.from.y l.to.y)

pub on_to : (l : PlacedLine) → is_on l l.to ≡ true
unfolding is_on side_value_at
on_to l =
    let zero : turn l.from l.to l.to ≡ pos 0 = by_ring (l.from.x ∷ l.from.y ∷ l.to.x ∷ l.to.y ∷ []) _ _ (search quotes depth 30 fits 20000) (search quotes depth 30 fits 20000) tt in
    both _ _ (both _ _ ((Decides-int_eq (turn l.from l.to l.to) (pos 0)).1 zero) (span_to l.from.x l.to.x)) (span_to l.from.y l.to.y)

-- ---- parts of a line

-- places of a line that are not as far along it aren't one
apart : (l : PlacedLine) (p q : Vertex) → far l p <ℤ far l q → p ≢ q
apart l p q h e =
    let u : far l p ≡ far l q = ap (λ (z : Vertex). far l z) e in
    omega (arith, linear)

-- a place of a line between two others is on the way from the one to the other
module _ (l : PlacedLine) (p q v : Vertex) (op : is_on l p ≡ true) (oq : is_on l q ≡ true) (ov : is_on l v ≡ true)
    (pv : far l p <ℤ far l v) (vq : far l v <ℤ far l q) where
  pq : far l p <ℤ far l q
  pq = omega (arith, linear)

  pub lies_between : is_between (way p q) v ≡ true
  lies_between =
      let w =
      between_within l.from l.to (far l l.to) (has_length l p q pq) (way p q) v (far l p) (far l v) (far l q) (apart l p q pq) (stands_at l p op) (stands_at l v ov)
      (stands_at l q oq) pv vq in
      both (is_on (way p q) v) (not (ends_at (way p q) v)) w.on (ap not w.apart)

-- ---- where a line crosses an edge

-- the value of a place of one line by another line grows with how far it is along the first one
pub grows : (a b c e p : Vertex) (n i : ℤ) → IsPlacedAt a b n i p
    → n *ℤ turn c e p ≡ (turn c e b -ℤ turn c e a) *ℤ i +ℤ n *ℤ turn c e a
grows a b c e p n i at =
    let e1 : n *ℤ turn c e p ≡ (e.y -ℤ c.y) *ℤ (n *ℤ (p.x -ℤ a.x)) -ℤ (e.x -ℤ c.x) *ℤ (n *ℤ (p.y -ℤ a.y)) +ℤ n *ℤ turn c e a =
    by_ring (n ∷ a.x ∷ a.y ∷ c.x ∷ c.y ∷ e.x ∷ e.y ∷ p.x ∷ p.y ∷ []) _ _ (search quotes depth 30 fits 20000) (search quotes depth 30 fits 20000) tt in
    let e2 : (e.y -ℤ c.y) *ℤ (i *ℤ (b.x -ℤ a.x)) -ℤ (e.x -ℤ c.x) *ℤ (i *ℤ (b.y -ℤ a.y)) +ℤ n *ℤ turn c e a
    ≡ (turn c e b -ℤ turn c e a) *ℤ i +ℤ n *ℤ turn c e a =
    by_ring (n ∷ i ∷ a.x ∷ a.y ∷ b.x ∷ b.y ∷ c.x ∷ c.y ∷ e.x ∷ e.y ∷ []) _ _ (search quotes depth 30 fits 20000) (search quotes depth 30 fits 20000) tt in
    e1 ∙ (λ t. (e.y -ℤ c.y) *ℤ at.across t -ℤ (e.x -ℤ c.x) *ℤ at.upward t +ℤ n *ℤ turn c e a) ∙ e2

-- the value of a place by a part of a line goes with its value by the line
pub goes_with : (a b p q x : Vertex) (n i j : ℤ) → IsPlacedAt a b n i p → IsPlacedAt a b n j q → n *ℤ turn p q x ≡ (j -ℤ i) *ℤ (turn a b x -ℤ turn a b p)
goes_with a b p q x n i j f g =
    let e1 : n *ℤ turn p q x
    ≡ (n *ℤ (q.y -ℤ a.y) -ℤ n *ℤ (p.y -ℤ a.y)) *ℤ (x.x -ℤ p.x) -ℤ (n *ℤ (q.x -ℤ a.x) -ℤ n *ℤ (p.x -ℤ a.x)) *ℤ (x.y -ℤ p.y) =
    by_ring (n ∷ a.x ∷ a.y ∷ p.x ∷ p.y ∷ q.x ∷ q.y ∷ x.x ∷ x.y ∷ []) _ _ (search quotes depth 30 fits 20000) (search quotes depth 30 fits 20000) tt in
    let e2 : (j *ℤ (b.y -ℤ a.y) -ℤ i *ℤ (b.y -ℤ a.y)) *ℤ (x.x -ℤ p.x) -ℤ (j *ℤ (b.x -ℤ a.x) -ℤ i *ℤ (b.x -ℤ a.x)) *ℤ (x.y -ℤ p.y)
    ≡ (j -ℤ i) *ℤ (turn a b x -ℤ turn a b p) =
    by_ring (i ∷ j ∷ a.x ∷ a.y ∷ b.x ∷ b.y ∷ p.x ∷ p.y ∷ x.x ∷ x.y ∷ []) _ _ (search quotes depth 30 fits 20000) (search quotes depth 30 fits 20000) tt in
    e1 ∙ (λ t. (g.upward t -ℤ f.upward t) *ℤ (x.x -ℤ p.x) -ℤ (g.across t -ℤ f.across t) *ℤ (x.y -ℤ p.y)) ∙ e2

sign_below : (n k t s z : ℤ) → pos 0 <ℤ n → pos 0 <ℤ k → n *ℤ t ≡ k *ℤ (s -ℤ z) → z ≡ pos 0 → s <ℤ pos 0 → t <ℤ pos 0
sign_below n k t s z n0 k0 e zero h =
    let p = times_below k (s -ℤ z) (pos 0) k0 (omega (arith, linear)) in
    let u = zero_product k in
    let v = zero_product n in
    factor_below n t (pos 0) (omega (arith, linear)) (omega (arith, linear))

sign_above : (n k t s z : ℤ) → pos 0 <ℤ n → pos 0 <ℤ k → n *ℤ t ≡ k *ℤ (s -ℤ z) → z ≡ pos 0 → pos 0 <ℤ s → pos 0 <ℤ t
sign_above n k t s z n0 k0 e zero h =
    let p = times_below k (pos 0) (s -ℤ z) k0 (omega (arith, linear)) in
    let u = zero_product k in
    let v = zero_product n in
    factor_below n (pos 0) t (omega (arith, linear)) (omega (arith, linear))

-- values that grow, or fall, from one place to another
pub rises : (n d z i j u v : ℤ) → pos 0 <ℤ n → pos 0 <ℤ d → n *ℤ u ≡ d *ℤ i +ℤ z → n *ℤ v ≡ d *ℤ j +ℤ z → i <ℤ j → u <ℤ v
rises n d z i j u v n0 d0 e f h =
    let p = times_below d i j d0 h in
    factor_below n u v (omega (arith, linear)) (omega (arith, linear))

pub falls : (n d z i j u v : ℤ) → pos 0 <ℤ n → d <ℤ pos 0 → n *ℤ u ≡ d *ℤ i +ℤ z → n *ℤ v ≡ d *ℤ j +ℤ z → i <ℤ j → v <ℤ u
falls n d z i j u v n0 d0 e f h =
    let e1 : (pos 0 -ℤ d) *ℤ i ≡ pos 0 -ℤ d *ℤ i = by_ring (d ∷ i ∷ []) _ _ (search quotes depth 30 fits 20000) (search quotes depth 30 fits 20000) tt in
    let e2 : (pos 0 -ℤ d) *ℤ j ≡ pos 0 -ℤ d *ℤ j = by_ring (d ∷ j ∷ []) _ _ (search quotes depth 30 fits 20000) (search quotes depth 30 fits 20000) tt in
    let p = times_below (pos 0 -ℤ d) i j (omega (arith, linear)) h in
    factor_below n v u (omega (arith, linear)) (omega (arith, linear))

pub sides_says : (l k : PlacedLine) → has_on_both_sides l k ≡ true
    → ((turn l.from l.to k.from <ℤ pos 0) × (pos 0 <ℤ turn l.from l.to k.to)) ⊎ ((pos 0 <ℤ turn l.from l.to k.from) × (turn l.from l.to k.to <ℤ pos 0))
unfolding has_on_both_sides side_value_at
sides_says l k h =
    ⊎_elim
    (λ f. let two = and_both _ _ f in inl (lt_says _ _ two.0, lt_says _ _ two.1))
    (λ f. let two = and_both _ _ f in inr (lt_says _ _ two.0, lt_says _ _ two.1))
    (or_either _ _ h)

pub sides_up : (l k : PlacedLine) → turn l.from l.to k.from <ℤ pos 0 → pos 0 <ℤ turn l.from l.to k.to → has_on_both_sides l k ≡ true
unfolding has_on_both_sides side_value_at
sides_up l k f g = or_left _ _ (both _ _ (lt_is (turn l.from l.to k.from) (pos 0) f) (lt_is (pos 0) (turn l.from l.to k.to) g))

pub sides_down : (l k : PlacedLine) → pos 0 <ℤ turn l.from l.to k.from → turn l.from l.to k.to <ℤ pos 0 → has_on_both_sides l k ≡ true
unfolding has_on_both_sides side_value_at
sides_down l k f g = or_right _ _ (both _ _ (lt_is (pos 0) (turn l.from l.to k.from) f) (lt_is (turn l.from l.to k.to) (pos 0) g))

-- spans that have a number in common meet
under_through : (a b c e x : ℤ) → is_under a b x x ≡ true → is_under x x c e ≡ true → is_under a b c e ≡ true
unfolding is_under
under_through a b c e x h k = grind (arith, ints)

spans_through : (a b c e x : ℤ) → spans_meet a b x x ≡ true → spans_meet c e x x ≡ true → spans_meet a b c e ≡ true
unfolding spans_meet
spans_through a b c e x h k =
    let f = and_both (is_under a b x x) (is_under x x a b) h in
    let g = and_both (is_under c e x x) (is_under x x c e) k in
    both (is_under a b c e) (is_under c e a b) (under_through a b c e x f.0 g.1) (under_through c e a b x g.0 f.1)

boxes_through : (l k : PlacedLine) (p : Vertex) → is_on l p ≡ true → is_on k p ≡ true → boxes_meet l k ≡ true
unfolding boxes_meet
boxes_through l k p f g =
    let u = spans_says l p f in
    let v = spans_says k p g in
    both (spans_meet l.from.x l.to.x k.from.x k.to.x) (spans_meet l.from.y l.to.y k.from.y k.to.y) (spans_through l.from.x l.to.x k.from.x k.to.x p.x u.0 v.0)
    (spans_through l.from.y l.to.y k.from.y k.to.y p.y u.1 v.1)

-- an edge that crosses a line at a place of both crosses it on each part of it that has the place between its ends
module _ (e l : PlacedLine) (cross : crosses_way e l ≡ true) (s : Vertex) (oe : is_on e s ≡ true) (ol : is_on l s ≡ true) where
  two : (has_on_both_sides e l ≡ true) × (has_on_both_sides l e ≡ true)
  two =
      let h = and_both (boxes_meet e l && has_on_both_sides e l) (has_on_both_sides l e) cross in
      let g = and_both (boxes_meet e l) (has_on_both_sides e l) h.0 in
      (g.1, h.1)

  abbrev n : ℤ
  n = far e e.to

  abbrev by_line : Vertex → ℤ
  by_line v = turn l.from l.to v

  abbrev slope : ℤ
  slope = by_line e.to -ℤ by_line e.from

  value : (v : Vertex) → is_on e v ≡ true → n *ℤ by_line v ≡ slope *ℤ far e v +ℤ n *ℤ by_line e.from
  value v o = grows e.from e.to l.from l.to v n (far e v) (stands_at e v o)

  module _ (p q : Vertex) (op : is_on e p ≡ true) (oq : is_on e q ≡ true) (ps : far e p <ℤ far e s) (sq : far e s <ℤ far e q) where
    pq' : far e p <ℤ far e q
    pq' = omega (arith, linear)

    n0 : pos 0 <ℤ n
    n0 = has_length e p q pq'

    zero : by_line s ≡ pos 0
    zero = straight l s ol

    by_part : (x : Vertex) → n *ℤ turn p q x ≡ (far e q -ℤ far e p) *ℤ (turn e.from e.to x -ℤ turn e.from e.to p)
    by_part x = goes_with e.from e.to p q x n (far e p) (far e q) (stands_at e p op) (stands_at e q oq)

    first : has_on_both_sides (way p q) l ≡ true
    first =
        let k0 : pos 0 <ℤ (far e q -ℤ far e p) = omega (arith, linear) in
        let z = straight e p op in
        ⊎_elim
        (λ (h : (turn e.from e.to l.from <ℤ pos 0) × (pos 0 <ℤ turn e.from e.to l.to)).
        sides_up (way p q) l (sign_below n (far e q -ℤ far e p) (turn p q l.from) (turn e.from e.to l.from) (turn e.from e.to p) n0 k0 (by_part l.from) z h.0)
        (sign_above n (far e q -ℤ far e p) (turn p q l.to) (turn e.from e.to l.to) (turn e.from e.to p) n0 k0 (by_part l.to) z h.1))
        (λ (h : (pos 0 <ℤ turn e.from e.to l.from) × (turn e.from e.to l.to <ℤ pos 0)).
        sides_down (way p q) l (sign_above n (far e q -ℤ far e p) (turn p q l.from) (turn e.from e.to l.from) (turn e.from e.to p) n0 k0 (by_part l.from) z h.0)
        (sign_below n (far e q -ℤ far e p) (turn p q l.to) (turn e.from e.to l.to) (turn e.from e.to p) n0 k0 (by_part l.to) z h.1))
        (sides_says e l two.0)

    below : (u v : ℤ) → u <ℤ v → v ≡ pos 0 → u <ℤ pos 0
    below u v h e' = omega (arith, linear)

    above : (u v : ℤ) → u <ℤ v → u ≡ pos 0 → pos 0 <ℤ v
    above u v h e' = omega (arith, linear)

    second : has_on_both_sides l (way p q) ≡ true
    second =
        ⊎_elim
        (λ (h : (by_line e.from <ℤ pos 0) × (pos 0 <ℤ by_line e.to)).
        let a = h.0 in let b = h.1 in
        let d0 : pos 0 <ℤ slope = omega (arith, linear) in
        sides_up l (way p q)
        (below (by_line p) (by_line s) (rises n slope (n *ℤ by_line e.from) (far e p) (far e s) (by_line p) (by_line s) n0 d0 (value p op) (value s oe) ps) zero)
        (above (by_line s) (by_line q) (rises n slope (n *ℤ by_line e.from) (far e s) (far e q) (by_line s) (by_line q) n0 d0 (value s oe) (value q oq) sq) zero))
        (λ (h : (pos 0 <ℤ by_line e.from) × (by_line e.to <ℤ pos 0)).
        let a = h.0 in let b = h.1 in
        let d0 : slope <ℤ pos 0 = omega (arith, linear) in
        sides_down l (way p q)
        (above (by_line s) (by_line p) (falls n slope (n *ℤ by_line e.from) (far e p) (far e s) (by_line p) (by_line s) n0 d0 (value p op) (value s oe) ps) zero)
        (below (by_line q) (by_line s) (falls n slope (n *ℤ by_line e.from) (far e s) (far e q) (by_line s) (by_line q) n0 d0 (value s oe) (value q oq) sq) zero))
        (sides_says l e two.1)

    pub crosses_part : crosses_way (way p q) l ≡ true
    crosses_part =
        let within = and_both (is_on (way p q) s) (not (ends_at (way p q) s)) (lies_between e p q s op oq oe ps sq) in
        both (boxes_meet (way p q) l && has_on_both_sides (way p q) l) (has_on_both_sides l (way p q))
        (both (boxes_meet (way p q) l) (has_on_both_sides (way p q) l) (boxes_through (way p q) l s within.0 ol) first) second
