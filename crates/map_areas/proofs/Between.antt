-- The way from a place of a line to a further one: what is on it is on the line, and what crosses it crosses the line.
use Rattle.std.proofs.Common.{◌≡◌, sym, ap, ◌∙◌, ⊎_elim, [], ◌∷◌, true, ◌&&◌, arith}
use Rattle.std.proofs.lemmas.Bool.Decides.{Decides-int_eq}
use Rattle.std.proofs.lemmas.Int.{ints, by_lt_z}
use Rattle.std.specs.Prelude.{ℤ, pos, ◌+ℤ◌, ◌-ℤ◌, ◌*ℤ◌, ◌<ℤ◌, ◌≤ℤ◌}
use Rattle.lump_records.proofs.Ring.{by_ring, quotes}
use Rattle.lump_records.proofs.Signs.{linear, factor_below, times_at_most, times_below, times_negative, zero_product}
use Rattle.lump_records.specs.declared.records.Vertex.{Vertex}
use Rattle.map_plane.proofs.Means.{IsPlacedAt, along, cancel, turn}
use Rattle.map_plane.proofs.Tests.{and_both, both}
use Rattle.map_plane.specs.Meeting.{boxes_meet, ends_at, has_on_both_sides, is_on, is_under, side_value_at, spans_meet}
use Rattle.map_plane.specs.declared.places.PlacedLine.{PlacedLine}
use Rattle.map_areas.proofs.AlongLines.{far, goes_with, grows, has_length, in_line, lies_between, on_from, on_to, rises, sides_down, sides_says, sides_up, spans_says, stands_at, starts_at, straight}
use Rattle.map_areas.proofs.Further.{between_far, between_on}
use Rattle.map_areas.specs.Ways.{crosses_way, is_between, way}

-- what meets a span within another one meets that one
wider_under : (f t a b c d : ℤ) → is_under f t a a ≡ true → is_under f t b b ≡ true → is_under a b c d ≡ true → is_under f t c d ≡ true
unfolding is_under
wider_under f t a b c d g h k = grind (arith, ints)

wider_over : (f t a b c d : ℤ) → is_under a a f t ≡ true → is_under b b f t ≡ true → is_under c d a b ≡ true → is_under c d f t ≡ true
unfolding is_under
wider_over f t a b c d g h k = grind (arith, ints)

wider : (f t a b c d : ℤ) → spans_meet f t a a ≡ true → spans_meet f t b b ≡ true → spans_meet a b c d ≡ true → spans_meet f t c d ≡ true
unfolding spans_meet
wider f t a b c d g h k =
    let u = and_both (is_under f t a a) (is_under a a f t) g in
    let v = and_both (is_under f t b b) (is_under b b f t) h in
    let w = and_both (is_under a b c d) (is_under c d a b) k in
    both (is_under f t c d) (is_under c d f t) (wider_under f t a b c d u.0 v.0 w.0) (wider_over f t a b c d u.1 v.1 w.1)

-- a place of a line that is neither where it begins nor where it ends is between its ends
pub between_is : (l : PlacedLine) (v : Vertex) → is_on l v ≡ true → far l l.from <ℤ far l v → far l v <ℤ far l l.to → is_between l v ≡ true
unfolding is_on ends_at side_value_at
between_is l v on low high = lies_between l l.from l.to v (on_from l) (on_to l) on low high

-- how far a place of one line is along another one grows with how far it is along the first one
along_grows : (a b c e p : Vertex) (n i : ℤ) → IsPlacedAt a b n i p → n *ℤ along c e p ≡ (along c e b -ℤ along c e a) *ℤ i +ℤ n *ℤ along c e a
along_grows a b c e p n i at =
    let e1 : n *ℤ along c e p ≡ (e.x -ℤ c.x) *ℤ (n *ℤ (p.x -ℤ a.x)) +ℤ (e.y -ℤ c.y) *ℤ (n *ℤ (p.y -ℤ a.y)) +ℤ n *ℤ along c e a =
    by_ring (n ∷ a.x ∷ a.y ∷ c.x ∷ c.y ∷ e.x ∷ e.y ∷ p.x ∷ p.y ∷ []) _ _ (search quotes depth 30 fits 20000) (search quotes depth 30 fits 20000) tt in
    let e2 : (e.x -ℤ c.x) *ℤ (i *ℤ (b.x -ℤ a.x)) +ℤ (e.y -ℤ c.y) *ℤ (i *ℤ (b.y -ℤ a.y)) +ℤ n *ℤ along c e a
    ≡ (along c e b -ℤ along c e a) *ℤ i +ℤ n *ℤ along c e a =
    by_ring (n ∷ i ∷ a.x ∷ a.y ∷ b.x ∷ b.y ∷ c.x ∷ c.y ∷ e.x ∷ e.y ∷ []) _ _ (search quotes depth 30 fits 20000) (search quotes depth 30 fits 20000) tt in
    e1 ∙ (λ t. (e.x -ℤ c.x) *ℤ at.across t +ℤ (e.y -ℤ c.y) *ℤ at.upward t +ℤ n *ℤ along c e a) ∙ e2

-- ---- values along a line

from_nothing : (n k z : ℤ) → z ≡ pos 0 → (z -ℤ z) *ℤ k +ℤ n *ℤ z ≡ n *ℤ pos 0
from_nothing n k z e =
    let e1 : (z -ℤ z) *ℤ k +ℤ n *ℤ z ≡ n *ℤ z = by_ring (n ∷ k ∷ z ∷ []) _ _ (search quotes depth 30 fits 20000) (search quotes depth 30 fits 20000) tt in
    e1 ∙ ap (λ (u : ℤ). n *ℤ u) e

at_start : (n i j : ℤ) → n *ℤ i ≡ (j -ℤ i) *ℤ pos 0 +ℤ n *ℤ i
at_start n i j = by_ring (n ∷ i ∷ j ∷ []) _ _ (search quotes depth 30 fits 20000) (search quotes depth 30 fits 20000) tt

at_end : (n i j : ℤ) → n *ℤ j ≡ (j -ℤ i) *ℤ n +ℤ n *ℤ i
at_end n i j = by_ring (n ∷ i ∷ j ∷ []) _ _ (search quotes depth 30 fits 20000) (search quotes depth 30 fits 20000) tt

-- where a value rises from one place to a further one it rises along the line
slope_up : (n d z i j u v : ℤ) → pos 0 <ℤ n → n *ℤ u ≡ d *ℤ i +ℤ z → n *ℤ v ≡ d *ℤ j +ℤ z → i <ℤ j → u <ℤ v → pos 0 <ℤ d
slope_up n d z i j u v n0 e f ij uv =
    by_lt_z (pos 0) d (λ lt. lt)
    (λ ge. let p = times_negative d i j ge (omega (arith, linear)) in let q = times_below n u v n0 uv in absurd (omega (arith, linear)))

slope_down : (n d z i j u v : ℤ) → pos 0 <ℤ n → n *ℤ u ≡ d *ℤ i +ℤ z → n *ℤ v ≡ d *ℤ j +ℤ z → i <ℤ j → v <ℤ u → d <ℤ pos 0
slope_down n d z i j u v n0 e f ij vu =
    by_lt_z d (pos 0) (λ lt. lt)
    (λ ge. let p = times_at_most d i j ge (omega (arith, linear)) in let q = times_below n v u n0 vu in absurd (omega (arith, linear)))

-- there the place with the greater value is further
above_further : (n d z i j u v : ℤ) → pos 0 <ℤ n → pos 0 <ℤ d → n *ℤ u ≡ d *ℤ i +ℤ z → n *ℤ v ≡ d *ℤ j +ℤ z → u <ℤ v → i <ℤ j
above_further n d z i j u v n0 d0 e f uv =
    by_lt_z i j (λ lt. lt)
    (λ ge. let p = times_at_most d j i (omega (arith, linear)) ge in let q = times_below n u v n0 uv in absurd (omega (arith, linear)))

below_further : (n d z i j u v : ℤ) → pos 0 <ℤ n → d <ℤ pos 0 → n *ℤ u ≡ d *ℤ i +ℤ z → n *ℤ v ≡ d *ℤ j +ℤ z → v <ℤ u → i <ℤ j
below_further n d z i j u v n0 d0 e f vu =
    by_lt_z i j (λ lt. lt)
    (λ ge. let p = times_negative d j i (omega (arith, linear)) ge in let q = times_below n v u n0 vu in absurd (omega (arith, linear)))

-- a product has the sign of what is multiplied by something above 0
below_zero : (n k t s z : ℤ) → pos 0 <ℤ n → pos 0 <ℤ k → n *ℤ t ≡ k *ℤ (s -ℤ z) → z ≡ pos 0 → t <ℤ pos 0 → s <ℤ pos 0
below_zero n k t s z n0 k0 e zero h =
    let p = times_below n t (pos 0) n0 h in
    let u = zero_product n in
    let v = zero_product k in
    let r = factor_below k (s -ℤ z) (pos 0) (omega (arith, linear)) (omega (arith, linear)) in
    omega (arith, linear)

above_zero : (n k t s z : ℤ) → pos 0 <ℤ n → pos 0 <ℤ k → n *ℤ t ≡ k *ℤ (s -ℤ z) → z ≡ pos 0 → pos 0 <ℤ t → pos 0 <ℤ s
above_zero n k t s z n0 k0 e zero h =
    let p = times_below n (pos 0) t n0 h in
    let u = zero_product n in
    let v = zero_product k in
    let r = factor_below k (pos 0) (s -ℤ z) (omega (arith, linear)) (omega (arith, linear)) in
    omega (arith, linear)

module _ (e : PlacedLine) (a b : Vertex) (oa : is_on e a ≡ true) (ob : is_on e b ≡ true) (ab : far e a <ℤ far e b) where
  n0 : pos 0 <ℤ far e e.to
  n0 = has_length e a b ab

  low_a : pos 0 ≤ℤ far e a
  low_a = (in_line e a oa).0

  high_b : far e b ≤ℤ far e e.to
  high_b = (in_line e b ob).1

  -- ---- a place on the way

  module _ (v : Vertex) (h : is_between (way a b) v ≡ true) where
    ends : (pos 0 <ℤ along a b v) × (along a b v <ℤ along a b b)
    ends =
        let f = between_far (way a b) v h in
        let s = starts_at (way a b) in
        let f0 = f.0 in
        (omega (arith, linear), f.1)

    m0 : pos 0 <ℤ along a b b
    m0 = let f0 = ends.0 in let f1 = ends.1 in omega (arith, linear)

    stands : IsPlacedAt a b (along a b b) (along a b v) v
    stands = stands_at (way a b) v (between_on (way a b) v h)

    zero : turn e.from e.to v ≡ pos 0
    zero =
        let za : turn e.from e.to a ≡ pos 0 = straight e a oa in
        let zb : turn e.from e.to b ≡ pos 0 = straight e b ob in
        cancel (along a b b) (turn e.from e.to v) (pos 0) m0
        (grows a b e.from e.to v (along a b b) (along a b v) stands
        ∙ (λ t. ((zb ∙ sym za) t -ℤ turn e.from e.to a) *ℤ along a b v +ℤ along a b b *ℤ turn e.from e.to a)
        ∙ from_nothing (along a b b) (along a b v) (turn e.from e.to a) za)

    on : is_on e v ≡ true
    unfolding is_on side_value_at
    on =
        let sa = spans_says e a oa in
        let sb = spans_says e b ob in
        let sv = spans_says (way a b) v (between_on (way a b) v h) in
        both _ _ (both _ _ ((Decides-int_eq (turn e.from e.to v) (pos 0)).1 zero) (wider e.from.x e.to.x a.x b.x v.x v.x sa.0 sb.0 sv.0))
        (wider e.from.y e.to.y a.y b.y v.y v.y sa.1 sb.1 sv.1)

    behind : far e a <ℤ far e v
    behind =
        rises (along a b b) (far e b -ℤ far e a) (along a b b *ℤ far e a) (pos 0) (along a b v) (far e a) (far e v) m0 (omega (arith, linear))
        (at_start (along a b b) (far e a) (far e b)) (along_grows a b e.from e.to v (along a b b) (along a b v) stands) ends.0

    before : far e v <ℤ far e b
    before =
        rises (along a b b) (far e b -ℤ far e a) (along a b b *ℤ far e a) (along a b v) (along a b b) (far e v) (far e b) m0 (omega (arith, linear))
        (along_grows a b e.from e.to v (along a b b) (along a b v) stands) (at_end (along a b b) (far e a) (far e b)) ends.1

    pub place_within : (is_between e v ≡ true) × (far e a <ℤ far e v) × (far e v <ℤ far e b)
    place_within =
        let f = behind in
        let g = before in
        let l = low_a in
        let r = high_b in
        let s = starts_at e in
        (between_is e v on (omega (arith, linear)) (omega (arith, linear)), f, g)

  -- ---- a line that crosses the way

  module _ (l : PlacedLine) (cross : crosses_way (way a b) l ≡ true) where
    boxes : boxes_meet (way a b) l ≡ true
    boxes =
        (and_both (boxes_meet (way a b) l) (has_on_both_sides (way a b) l)
        (and_both (boxes_meet (way a b) l && has_on_both_sides (way a b) l) (has_on_both_sides l (way a b)) cross).0).0

    ends_apart : has_on_both_sides (way a b) l ≡ true
    ends_apart =
        (and_both (boxes_meet (way a b) l) (has_on_both_sides (way a b) l)
        (and_both (boxes_meet (way a b) l && has_on_both_sides (way a b) l) (has_on_both_sides l (way a b)) cross).0).1

    places_apart : has_on_both_sides l (way a b) ≡ true
    places_apart = (and_both (boxes_meet (way a b) l && has_on_both_sides (way a b) l) (has_on_both_sides l (way a b)) cross).1

    abbrev by_line : Vertex → ℤ
    by_line v = turn l.from l.to v

    abbrev slope : ℤ
    slope = by_line e.to -ℤ by_line e.from

    abbrev start : ℤ
    start = far e e.to *ℤ by_line e.from

    value : (v : Vertex) → is_on e v ≡ true → far e e.to *ℤ by_line v ≡ slope *ℤ far e v +ℤ start
    value v o = grows e.from e.to l.from l.to v (far e e.to) (far e v) (stands_at e v o)

    by_way : (x : Vertex) → far e e.to *ℤ turn a b x ≡ (far e b -ℤ far e a) *ℤ (turn e.from e.to x -ℤ turn e.from e.to a)
    by_way x = goes_with e.from e.to a b x (far e e.to) (far e a) (far e b) (stands_at e a oa) (stands_at e b ob)

    boxes_too : boxes_meet e l ≡ true
    unfolding boxes_meet
    boxes_too =
        let two = and_both (spans_meet a.x b.x l.from.x l.to.x) (spans_meet a.y b.y l.from.y l.to.y) boxes in
        let sa = spans_says e a oa in
        let sb = spans_says e b ob in
        both (spans_meet e.from.x e.to.x l.from.x l.to.x) (spans_meet e.from.y e.to.y l.from.y l.to.y)
        (wider e.from.x e.to.x a.x b.x l.from.x l.to.x sa.0 sb.0 two.0) (wider e.from.y e.to.y a.y b.y l.from.y l.to.y sa.1 sb.1 two.1)

    ends_too : has_on_both_sides e l ≡ true
    ends_too =
        let k0 : pos 0 <ℤ (far e b -ℤ far e a) = omega (arith, linear) in
        let z = straight e a oa in
        ⊎_elim
        (λ (h : (turn a b l.from <ℤ pos 0) × (pos 0 <ℤ turn a b l.to)).
        sides_up e l (below_zero (far e e.to) (far e b -ℤ far e a) (turn a b l.from) (turn e.from e.to l.from) (turn e.from e.to a) n0 k0 (by_way l.from) z h.0)
        (above_zero (far e e.to) (far e b -ℤ far e a) (turn a b l.to) (turn e.from e.to l.to) (turn e.from e.to a) n0 k0 (by_way l.to) z h.1))
        (λ (h : (pos 0 <ℤ turn a b l.from) × (turn a b l.to <ℤ pos 0)).
        sides_down e l (above_zero (far e e.to) (far e b -ℤ far e a) (turn a b l.from) (turn e.from e.to l.from) (turn e.from e.to a) n0 k0 (by_way l.from) z h.0)
        (below_zero (far e e.to) (far e b -ℤ far e a) (turn a b l.to) (turn e.from e.to l.to) (turn e.from e.to a) n0 k0 (by_way l.to) z h.1))
        (sides_says (way a b) l ends_apart)

    -- the line's values rise along the edge
    module _ (h : (by_line a <ℤ pos 0) × (pos 0 <ℤ by_line b)) where
      up : pos 0 <ℤ slope
      up =
          let h0 = h.0 in let h1 = h.1 in
          slope_up (far e e.to) slope start (far e a) (far e b) (by_line a) (by_line b) n0 (value a oa) (value b ob) ab (omega (arith, linear))

      further_up : (u v : Vertex) → is_on e u ≡ true → is_on e v ≡ true → by_line u <ℤ by_line v → far e u <ℤ far e v
      further_up u v ou ov lt =
          above_further (far e e.to) slope start (far e u) (far e v) (by_line u) (by_line v) n0 up (value u ou) (value v ov) lt

      below_from : by_line e.from <ℤ pos 0
      below_from =
          by_lt_z (by_line e.from) (pos 0) (λ lt. lt)
          (λ ge.
          let h0 = h.0 in let s = starts_at e in let l = low_a in
          let r = further_up a e.from oa (on_from e) (omega (arith, linear)) in
          absurd (omega (arith, linear)))

      above_to : pos 0 <ℤ by_line e.to
      above_to =
          by_lt_z (pos 0) (by_line e.to) (λ lt. lt)
          (λ ge.
          let h1 = h.1 in let l = high_b in
          let r = further_up e.to b (on_to e) ob (omega (arith, linear)) in
          absurd (omega (arith, linear)))

      within_up : (q : Vertex) → is_on e q ≡ true → by_line q ≡ pos 0 → (far e a <ℤ far e q) × (far e q <ℤ far e b)
      within_up q oq z = let h0 = h.0 in let h1 = h.1 in (further_up a q oa oq (omega (arith, linear)), further_up q b oq ob (omega (arith, linear)))

    -- or they fall
    module _ (h : (pos 0 <ℤ by_line a) × (by_line b <ℤ pos 0)) where
      down : slope <ℤ pos 0
      down =
          let h0 = h.0 in let h1 = h.1 in
          slope_down (far e e.to) slope start (far e a) (far e b) (by_line a) (by_line b) n0 (value a oa) (value b ob) ab (omega (arith, linear))

      further_down : (u v : Vertex) → is_on e u ≡ true → is_on e v ≡ true → by_line v <ℤ by_line u → far e u <ℤ far e v
      further_down u v ou ov lt =
          below_further (far e e.to) slope start (far e u) (far e v) (by_line u) (by_line v) n0 down (value u ou) (value v ov) lt

      above_from : pos 0 <ℤ by_line e.from
      above_from =
          by_lt_z (pos 0) (by_line e.from) (λ lt. lt)
          (λ ge.
          let h0 = h.0 in let s = starts_at e in let l = low_a in
          let r = further_down a e.from oa (on_from e) (omega (arith, linear)) in
          absurd (omega (arith, linear)))

      below_to : by_line e.to <ℤ pos 0
      below_to =
          by_lt_z (by_line e.to) (pos 0) (λ lt. lt)
          (λ ge.
          let h1 = h.1 in let l = high_b in
          let r = further_down e.to b (on_to e) ob (omega (arith, linear)) in
          absurd (omega (arith, linear)))

      within_down : (q : Vertex) → is_on e q ≡ true → by_line q ≡ pos 0 → (far e a <ℤ far e q) × (far e q <ℤ far e b)
      within_down q oq z = let h0 = h.0 in let h1 = h.1 in (further_down a q oa oq (omega (arith, linear)), further_down q b oq ob (omega (arith, linear)))

    pub crosses_too : crosses_way e l ≡ true
    crosses_too =
        both (boxes_meet e l && has_on_both_sides e l) (has_on_both_sides l e) (both (boxes_meet e l) (has_on_both_sides e l) boxes_too ends_too)
        (⊎_elim (λ h. sides_up l e (below_from h) (above_to h)) (λ h. sides_down l e (above_from h) (below_to h)) (sides_says l (way a b) places_apart))

    -- a place of the edge and of the line is on the way
    pub crossed_within : (q : Vertex) → is_on e q ≡ true → is_on l q ≡ true → (far e a <ℤ far e q) × (far e q <ℤ far e b)
    crossed_within q oe ol =
        let z = straight l q ol in
        ⊎_elim (λ h. within_up h q oe z) (λ h. within_down h q oe z) (sides_says l (way a b) places_apart)
