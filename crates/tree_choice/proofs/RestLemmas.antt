-- A partition that what is gone of a piece lies clear of makes the same of the piece as of its rest.
use Rattle.std.proofs.Common.{◌≡◌, refl, sym, ap, ◌∙◌, Bool, true, false, List, [], ◌∷◌, Some, None, arith}
use Rattle.std.proofs.lemmas.Int.{ints, by_lt_z}
use Rattle.std.specs.Prelude.{ℕ, ◌+◌, ℤ, pos, neg_ℤ, ◌+ℤ◌, ◌-ℤ◌, ◌*ℤ◌, ◌≤ℤ◌, ◌<ℤ◌, is_some, int_le, int_lt, unsigned_abs, if◌then◌else◌}
use Rattle.lump_records.specs.declared.records.Bounds.{Bounds}
use Rattle.lump_records.specs.declared.records.Vertex.{Vertex}
use Rattle.lump_records.specs.declared.plane.Ray.{Ray}
use Rattle.lump_records.proofs.Ring.{by_ring, quotes}
use Rattle.lump_records.proofs.Signs.{linear, times_at_most}
use Rattle.tree_pieces.specs.declared.edge.Edge.{Edge}
use Rattle.tree_pieces.specs.declared.frac.Frac.{Frac}
use Rattle.tree_pieces.specs.declared.piece.Piece.{Piece}
use Rattle.tree_pieces.specs.declared.piece.Place.{Place}
use Rattle.tree_pieces.specs.declared.piece.Place.TheVariants.{Right, Left, Across}
use Rattle.tree_pieces.specs.Boxes.{IsWellIn, least_times, greatest_times, least_value, greatest_value, ray_offset}
use Rattle.tree_pieces.specs.Plane.{vertex_value, blur, dot}
use Rattle.tree_pieces.specs.Fractions.{point_at, crossing}
use Rattle.tree_pieces.specs.Pieces.{edge_of, ray_of, first_end, last_end, same_place, IsPiece}
use Rattle.tree_pieces.specs.Division.{place_by, place_of_piece, parts_by, parts_of, value_by, kept, cut_at}
use Rattle.tree_pieces.proofs.Rounding.{near_right, near_left}
use Rattle.tree_pieces.proofs.Crossing.{crossing_down, crossing_up, zero_there}
use Rattle.tree_choice.proofs.EndLemmas.{IsWellRight, IsWellLeft, exact_right, exact_left, apart_right, apart_left, apart_from_right, apart_from_left, across_down, across_up}

-- ---- places well in a box
-- a number times what lies between two others, a step or more from each
module _ (k low high x : ℤ) (above : low <ℤ x) (below : x <ℤ high) where
  pub inside_least : (least_times k low high +ℤ pos (unsigned_abs k)) ≤ℤ (k *ℤ x)
  inside_least = by_sign (int_le (pos 0) k) refl
    where
      by_sign : (b : Bool) → int_le (pos 0) k ≡ b → ((if b then k *ℤ low else k *ℤ high) +ℤ pos (unsigned_abs k)) ≤ℤ (k *ℤ x)
      by_sign true e =
          let m = times_at_most k (low +ℤ pos 1) x (omega (arith, ints)) (omega (arith, ints)) in
          let s : k *ℤ (low +ℤ pos 1) ≡ k *ℤ low +ℤ k = by_ring (k ∷ low ∷ []) _ _ (search quotes depth 20) (search quotes depth 20) tt in
          omega (arith, ints)
      by_sign false e =
          let m = times_at_most (neg_ℤ k) (x +ℤ pos 1) high (omega (arith, ints)) (omega (arith, ints)) in
          let s : neg_ℤ k *ℤ (x +ℤ pos 1) ≡ neg_ℤ (k *ℤ x) +ℤ neg_ℤ k = by_ring (k ∷ x ∷ []) _ _ (search quotes depth 20) (search quotes depth 20) tt in
          let t : neg_ℤ k *ℤ high ≡ neg_ℤ (k *ℤ high) = by_ring (k ∷ high ∷ []) _ _ (search quotes depth 20) (search quotes depth 20) tt in
          omega (arith, ints)

  pub inside_greatest : (k *ℤ x +ℤ pos (unsigned_abs k)) ≤ℤ greatest_times k low high
  inside_greatest = by_sign (int_le (pos 0) k) refl
    where
      by_sign : (b : Bool) → int_le (pos 0) k ≡ b → (k *ℤ x +ℤ pos (unsigned_abs k)) ≤ℤ (if b then k *ℤ high else k *ℤ low)
      by_sign true e =
          let m = times_at_most k (x +ℤ pos 1) high (omega (arith, ints)) (omega (arith, ints)) in
          let s : k *ℤ (x +ℤ pos 1) ≡ k *ℤ x +ℤ k = by_ring (k ∷ x ∷ []) _ _ (search quotes depth 20) (search quotes depth 20) tt in
          omega (arith, ints)
      by_sign false e =
          let m = times_at_most (neg_ℤ k) (low +ℤ pos 1) x (omega (arith, ints)) (omega (arith, ints)) in
          let s : neg_ℤ k *ℤ (low +ℤ pos 1) ≡ neg_ℤ (k *ℤ low) +ℤ neg_ℤ k = by_ring (k ∷ low ∷ []) _ _ (search quotes depth 20) (search quotes depth 20) tt in
          let t : neg_ℤ k *ℤ x ≡ neg_ℤ (k *ℤ x) = by_ring (k ∷ x ∷ []) _ _ (search quotes depth 20) (search quotes depth 20) tt in
          omega (arith, ints)

value_is : (r : Ray) (v : Vertex) → vertex_value r v ≡ r.dy *ℤ v.x -ℤ r.dx *ℤ v.y -ℤ ray_offset r
value_is r v = by_ring (r.dx ∷ r.dy ∷ r.start.x ∷ r.start.y ∷ v.x ∷ v.y ∷ []) _ _ (search quotes depth 30 fits 20000) (search quotes depth 30 fits 20000) tt

above_blur : (x y c v xl yh : ℤ) (a b : ℕ) → v ≡ x -ℤ y -ℤ c → (xl +ℤ pos a) ≤ℤ x → (y +ℤ pos b) ≤ℤ yh → pos 0 <ℤ (xl -ℤ yh -ℤ c) → pos (b + a) <ℤ (pos 2 *ℤ v)
above_blur x y c v xl yh a b e h k l = omega (arith, ints)

below_blur : (x y c v xh yl : ℤ) (a b : ℕ) → v ≡ x -ℤ y -ℤ c → (x +ℤ pos a) ≤ℤ xh → (yl +ℤ pos b) ≤ℤ y → (xh -ℤ yl -ℤ c) <ℤ pos 0 → (pos 2 *ℤ v) <ℤ neg_ℤ (pos (b + a))
below_blur x y c v xh yl a b e h k l = omega (arith, ints)

module _ (r : Ray) (b : Bounds) (v : Vertex) (w : IsWellIn b v) where
  pub well_right : pos 0 <ℤ least_value r b → IsWellRight r v
  well_right h = above_blur (r.dy *ℤ v.x) (r.dx *ℤ v.y) (ray_offset r) (vertex_value r v) _ _ (unsigned_abs r.dy) (unsigned_abs r.dx) (value_is r v)
      (inside_least r.dy b.left b.right v.x w.left w.right) (inside_greatest r.dx b.bottom b.top v.y w.bottom w.top) h

  pub well_left : greatest_value r b <ℤ pos 0 → IsWellLeft r v
  well_left h = below_blur (r.dy *ℤ v.x) (r.dx *ℤ v.y) (ray_offset r) (vertex_value r v) _ _ (unsigned_abs r.dy) (unsigned_abs r.dx) (value_is r v)
      (inside_greatest r.dy b.left b.right v.x w.left w.right) (inside_least r.dx b.bottom b.top v.y w.bottom w.top) h

-- ---- places by signs
to_right_here : (u w z : ℤ) → pos 0 ≤ℤ u → pos 0 <ℤ w → place_by u w z ≡ Right
to_right_here u w z h k = grind (arith, ints)

from_right_here : (u w z : ℤ) → pos 0 <ℤ u → pos 0 ≤ℤ w → place_by u w z ≡ Right
from_right_here u w z h k = grind (arith, ints)

to_left_here : (u w z : ℤ) → u ≤ℤ pos 0 → w <ℤ pos 0 → place_by u w z ≡ Left
to_left_here u w z h k = grind (arith, ints)

from_left_here : (u w z : ℤ) → u <ℤ pos 0 → w ≤ℤ pos 0 → place_by u w z ≡ Left
from_left_here u w z h k = grind (arith, ints)

is_lt : (u : ℤ) → pos 0 <ℤ u → int_lt (pos 0) u ≡ true
is_lt u h = grind (arith, ints)

not_lt : (u : ℤ) → u ≤ℤ pos 0 → int_lt (pos 0) u ≡ false
not_lt u h = grind (arith, ints)

-- ---- the same of a piece and its rest
-- a partition leaves a part of one piece on a side where it leaves one of the other
pub record HasSameParts (lines : List Edge) (partition p q : Piece) : Type 0 where
  pub right : is_some (parts_of lines partition p).right ≡ is_some (parts_of lines partition q).right
  pub left : is_some (parts_of lines partition p).left ≡ is_some (parts_of lines partition q).left

module _ (lines : List Edge) (partition : Piece) where
  -- which parts there are of a piece at a place
  right_at : (p : Piece) (at : Place) → place_of_piece lines partition p ≡ at → is_some (parts_of lines partition p).right ≡ is_some (parts_by lines partition p at).right
  right_at p at e = ap (λ (x : Place). is_some (parts_by lines partition p x).right) e

  left_at : (p : Piece) (at : Place) → place_of_piece lines partition p ≡ at → is_some (parts_of lines partition p).left ≡ is_some (parts_by lines partition p at).left
  left_at p at e = ap (λ (x : Place). is_some (parts_by lines partition p x).left) e

  at_one_place : (p q : Piece) (at : Place) → place_of_piece lines partition p ≡ at → place_of_piece lines partition q ≡ at
      → is_some (parts_by lines partition p at).right ≡ is_some (parts_by lines partition q at).right
      → is_some (parts_by lines partition p at).left ≡ is_some (parts_by lines partition q at).left → HasSameParts lines partition p q
  at_one_place p q at e f r l = record { right = right_at p at e ∙ r ∙ sym (right_at q at f); left = left_at p at e ∙ l ∙ sym (left_at q at f) }

  -- a part whose ends differ is kept
  is_kept : (q : Piece) → same_place (first_end lines q) (last_end lines q) ≡ false → is_some (kept lines q) ≡ true
  is_kept q e = ap (λ (b : Bool). is_some (if b then None else Some q)) e

  -- the parts of a piece cut at the crossing
  cut_right : (p : Piece) (b : Bool) → int_lt (pos 0) (value_by lines partition p p.from) ≡ b
      → is_some (parts_by lines partition p Across).right ≡ is_some (cut_at lines p (crossing (ray_of lines partition) (edge_of lines p)) b).right
  cut_right p b e = ap (λ (x : Bool). is_some (cut_at lines p (crossing (ray_of lines partition) (edge_of lines p)) x).right) e

  cut_left : (p : Piece) (b : Bool) → int_lt (pos 0) (value_by lines partition p p.from) ≡ b
      → is_some (parts_by lines partition p Across).left ≡ is_some (cut_at lines p (crossing (ray_of lines partition) (edge_of lines p)) b).left
  cut_left p b e = ap (λ (x : Bool). is_some (cut_at lines p (crossing (ray_of lines partition) (edge_of lines p)) x).left) e

  -- where the crossing rounds to
  abbrev middle : Piece → Vertex
  middle p = point_at (edge_of lines p) (crossing (ray_of lines partition) (edge_of lines p))

  -- the point of the crossing isn't farther off than rounding moves it
  record IsNear (p : Piece) : Type 0 where
    right : (pos 2 *ℤ vertex_value (ray_of lines partition) (middle p)) ≤ℤ pos (blur (ray_of lines partition))
    left : neg_ℤ (pos (blur (ray_of lines partition))) ≤ℤ (pos 2 *ℤ vertex_value (ray_of lines partition) (middle p))

  near_down : (p : Piece) → IsPiece lines p → pos 0 <ℤ value_by lines partition p p.from → value_by lines partition p p.to <ℤ pos 0 → IsNear p
  near_down p ok u w =
      let r = ray_of lines partition in
      let e = edge_of lines p in
      let x = vertex_value r e.v1 in
      let y = vertex_value r e.v2 in
      let c = crossing_down x y p.from p.to ok.from_in.positive ok.to_in.positive ok.rising u w in
      let z = zero_there x y in
      record { right = near_left r e (crossing r e) c.positive (omega (arith, linear)); left = near_right r e (crossing r e) c.positive (omega (arith, linear)) }

  near_up : (p : Piece) → IsPiece lines p → value_by lines partition p p.from <ℤ pos 0 → pos 0 <ℤ value_by lines partition p p.to → IsNear p
  near_up p ok u w =
      let r = ray_of lines partition in
      let e = edge_of lines p in
      let x = vertex_value r e.v1 in
      let y = vertex_value r e.v2 in
      let c = crossing_up x y p.from p.to ok.from_in.positive ok.to_in.positive ok.rising u w in
      let z = zero_there x y in
      record { right = near_left r e (crossing r e) c.positive (omega (arith, linear)); left = near_right r e (crossing r e) c.positive (omega (arith, linear)) }

  module _ (p : Piece) (t : Frac) (ok : IsPiece lines p) where
    -- both begin at one place, and end well on one side
    pub ends_on_right : IsPiece lines (record p { to = t }) → IsWellRight (ray_of lines partition) (last_end lines p)
        → IsWellRight (ray_of lines partition) (point_at (edge_of lines p) t) → HasSameParts lines partition p (record p { to = t })
    ends_on_right ok' h k =
        let r = ray_of lines partition in
        let q = record p { to = t } in
        let u = value_by lines partition p p.from in
        let d = dot r (ray_of lines p) in
        let w = exact_right r (edge_of lines p) p.to ok.to_in h in
        let w' = exact_right r (edge_of lines p) t ok'.to_in k in
        by_lt_z u (pos 0)
        (λ n.
        let a = across_up u (value_by lines partition p p.to) d n w in
        let a' = across_up u (value_by lines partition p t) d n w' in
        let b = not_lt u (omega (arith, ints)) in
        let m = near_up p ok n w in
        at_one_place p q Across a a'
        (cut_right p false b ∙ is_kept (record p { from = crossing r (edge_of lines p) }) (apart_from_right r (middle p) (last_end lines p) h m.right)
        ∙ sym (cut_right q false b ∙ is_kept (record q { from = crossing r (edge_of lines p) }) (apart_from_right r (middle p) (point_at (edge_of lines p) t) k m.right)))
        (cut_left p false b ∙ sym (cut_left q false b)))
        (λ n. at_one_place p q Right (to_right_here u (value_by lines partition p p.to) d n w) (to_right_here u (value_by lines partition p t) d n w') refl refl)

    pub ends_on_left : IsPiece lines (record p { to = t }) → IsWellLeft (ray_of lines partition) (last_end lines p)
        → IsWellLeft (ray_of lines partition) (point_at (edge_of lines p) t) → HasSameParts lines partition p (record p { to = t })
    ends_on_left ok' h k =
        let r = ray_of lines partition in
        let q = record p { to = t } in
        let u = value_by lines partition p p.from in
        let d = dot r (ray_of lines p) in
        let w = exact_left r (edge_of lines p) p.to ok.to_in h in
        let w' = exact_left r (edge_of lines p) t ok'.to_in k in
        by_lt_z (pos 0) u
        (λ n.
        let a = across_down u (value_by lines partition p p.to) d n w in
        let a' = across_down u (value_by lines partition p t) d n w' in
        let b = is_lt u n in
        let m = near_down p ok n w in
        at_one_place p q Across a a'
        (cut_right p true b ∙ sym (cut_right q true b))
        (cut_left p true b ∙ is_kept (record p { from = crossing r (edge_of lines p) }) (apart_from_left r (middle p) (last_end lines p) h m.left)
        ∙ sym (cut_left q true b ∙ is_kept (record q { from = crossing r (edge_of lines p) }) (apart_from_left r (middle p) (point_at (edge_of lines p) t) k m.left))))
        (λ n. at_one_place p q Left (to_left_here u (value_by lines partition p p.to) d n w) (to_left_here u (value_by lines partition p t) d n w') refl refl)

    -- both end at one place, and begin well on one side
    pub begins_on_right : IsPiece lines (record p { from = t }) → IsWellRight (ray_of lines partition) (first_end lines p)
        → IsWellRight (ray_of lines partition) (point_at (edge_of lines p) t) → HasSameParts lines partition p (record p { from = t })
    begins_on_right ok' h k =
        let r = ray_of lines partition in
        let q = record p { from = t } in
        let w = value_by lines partition p p.to in
        let d = dot r (ray_of lines p) in
        let u = exact_right r (edge_of lines p) p.from ok.from_in h in
        let u' = exact_right r (edge_of lines p) t ok'.from_in k in
        by_lt_z w (pos 0)
        (λ n.
        let a = across_down (value_by lines partition p p.from) w d u n in
        let a' = across_down (value_by lines partition p t) w d u' n in
        let b = is_lt (value_by lines partition p p.from) u in
        let b' = is_lt (value_by lines partition p t) u' in
        let m = near_down p ok u n in
        at_one_place p q Across a a'
        (cut_right p true b ∙ is_kept (record p { to = crossing r (edge_of lines p) }) (apart_right r (first_end lines p) (middle p) h m.right)
        ∙ sym (cut_right q true b' ∙ is_kept (record q { to = crossing r (edge_of lines p) }) (apart_right r (point_at (edge_of lines p) t) (middle p) k m.right)))
        (cut_left p true b ∙ sym (cut_left q true b')))
        (λ n. at_one_place p q Right (from_right_here (value_by lines partition p p.from) w d u n) (from_right_here (value_by lines partition p t) w d u' n) refl refl)

    pub begins_on_left : IsPiece lines (record p { from = t }) → IsWellLeft (ray_of lines partition) (first_end lines p)
        → IsWellLeft (ray_of lines partition) (point_at (edge_of lines p) t) → HasSameParts lines partition p (record p { from = t })
    begins_on_left ok' h k =
        let r = ray_of lines partition in
        let q = record p { from = t } in
        let w = value_by lines partition p p.to in
        let d = dot r (ray_of lines p) in
        let u = exact_left r (edge_of lines p) p.from ok.from_in h in
        let u' = exact_left r (edge_of lines p) t ok'.from_in k in
        by_lt_z (pos 0) w
        (λ n.
        let a = across_up (value_by lines partition p p.from) w d u n in
        let a' = across_up (value_by lines partition p t) w d u' n in
        let b = not_lt (value_by lines partition p p.from) (omega (arith, ints)) in
        let b' = not_lt (value_by lines partition p t) (omega (arith, ints)) in
        let m = near_up p ok u n in
        at_one_place p q Across a a'
        (cut_right p false b ∙ sym (cut_right q false b'))
        (cut_left p false b ∙ is_kept (record p { to = crossing r (edge_of lines p) }) (apart_left r (first_end lines p) (middle p) h m.left)
        ∙ sym (cut_left q false b' ∙ is_kept (record q { to = crossing r (edge_of lines p) }) (apart_left r (point_at (edge_of lines p) t) (middle p) k m.left))))
        (λ n. at_one_place p q Left (from_left_here (value_by lines partition p p.from) w d u n) (from_left_here (value_by lines partition p t) w d u' n) refl refl)
