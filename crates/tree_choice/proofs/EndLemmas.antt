-- What rounded ends that lie well off a partition's straight line say of a piece.
use Rattle.std.proofs.Common.{◌≡◌, refl, sym, ap, ◌∙◌, Bool, true, false, ◌&&◌, List, [], ◌∷◌, Some, None, arith}
use Rattle.std.proofs.lemmas.Int.{ints, by_lt_z}
use Rattle.std.specs.Prelude.{ℤ, pos, neg_ℤ, ◌*ℤ◌, ◌≤ℤ◌, ◌<ℤ◌, is_some, int_lt, if◌then◌else◌}
use Rattle.lump_records.specs.declared.records.Vertex.{Vertex}
use Rattle.lump_records.specs.declared.plane.Ray.{Ray}
use Rattle.lump_records.proofs.Signs.{linear}
use Rattle.tree_pieces.specs.declared.edge.Edge.{Edge}
use Rattle.tree_pieces.specs.declared.frac.Frac.{Frac}
use Rattle.tree_pieces.specs.declared.piece.Piece.{Piece}
use Rattle.tree_pieces.specs.declared.piece.Place.{Place}
use Rattle.tree_pieces.specs.declared.piece.Place.TheVariants.{Right, Left, Across}
use Rattle.tree_pieces.specs.Plane.{vertex_value, blur, dot}
use Rattle.tree_pieces.specs.Fractions.{IsFraction, exact_value, point_at, crossing}
use Rattle.tree_pieces.specs.Pieces.{edge_of, ray_of, first_end, last_end, same_place, IsPiece}
use Rattle.tree_pieces.specs.Division.{place_by, place_of_piece, parts_by, parts_of, value_by, kept, cut_at}
use Rattle.tree_pieces.proofs.Rounding.{near_right, near_left}
use Rattle.tree_pieces.proofs.Crossing.{crossing_down, crossing_up, zero_there}
use Rattle.tree_pieces.proofs.Division.{same_vertex_is}
use Rattle.tree_choice.specs.declared.counts.Counts.{Counts}
use Rattle.tree_pieces.specs.declared.piece.Ends.{Ends}
use Rattle.tree_choice.specs.Counts.{AreCounts}
use Rattle.tree_choice.proofs.OneMore.{one, piece_counts}

-- a place lies farther from a ray's straight line than rounding may move it
abbrev pub IsWellRight : Ray → Vertex → Type 0
IsWellRight r v = pos (blur r) <ℤ (pos 2 *ℤ vertex_value r v)

abbrev pub IsWellLeft : Ray → Vertex → Type 0
IsWellLeft r v = (pos 2 *ℤ vertex_value r v) <ℤ neg_ℤ (pos (blur r))

-- so does the exact point that rounds to it
pub exact_right : (r : Ray) (e : Edge) (t : Frac) → IsFraction t → IsWellRight r (point_at e t) → pos 0 <ℤ exact_value r e t
exact_right r e t f h = by_lt_z (pos 0) (exact_value r e t) (λ k. k) (λ k. let n = near_left r e t f.positive k in absurd (omega (arith, linear)))

pub exact_left : (r : Ray) (e : Edge) (t : Frac) → IsFraction t → IsWellLeft r (point_at e t) → exact_value r e t <ℤ pos 0
exact_left r e t f h = by_lt_z (exact_value r e t) (pos 0) (λ k. k) (λ k. let n = near_right r e t f.positive k in absurd (omega (arith, linear)))

-- signs decide the place
pub right_by_signs : (u w z : ℤ) → pos 0 <ℤ u → pos 0 <ℤ w → place_by u w z ≡ Right
right_by_signs u w z h k = grind (arith, ints)

pub left_by_signs : (u w z : ℤ) → u <ℤ pos 0 → w <ℤ pos 0 → place_by u w z ≡ Left
left_by_signs u w z h k = grind (arith, ints)

pub across_down : (u w z : ℤ) → pos 0 <ℤ u → w <ℤ pos 0 → place_by u w z ≡ Across
across_down u w z h k = grind (arith, ints)

pub across_up : (u w z : ℤ) → u <ℤ pos 0 → pos 0 <ℤ w → place_by u w z ≡ Across
across_up u w z h k = grind (arith, ints)

above_not : (b a c : ℤ) → b <ℤ (pos 2 *ℤ a) → (pos 2 *ℤ c) ≤ℤ b → a ≡ c → ⊥
above_not b a c h k e = let f = ap (λ (x : ℤ). pos 2 *ℤ x) e in omega (arith, linear)

below_not : (b a c : ℤ) → (pos 2 *ℤ a) <ℤ b → b ≤ℤ (pos 2 *ℤ c) → a ≡ c → ⊥
below_not b a c h k e = let f = ap (λ (x : ℤ). pos 2 *ℤ x) e in omega (arith, linear)

-- places on two sides of a value aren't one
pub apart_right : (r : Ray) (u m : Vertex) → IsWellRight r u → (pos 2 *ℤ vertex_value r m) ≤ℤ pos (blur r) → same_place u m ≡ false
apart_right r u m h k = by_test (same_place u m) refl
  where
    by_test : (b : Bool) → same_place u m ≡ b → b ≡ false
    by_test true e = let s = same_vertex_is u m e in let f = ap (vertex_value r) s in absurd (above_not (pos (blur r)) (vertex_value r u) (vertex_value r m) h k f)
    by_test false e = refl

pub apart_left : (r : Ray) (u m : Vertex) → IsWellLeft r u → neg_ℤ (pos (blur r)) ≤ℤ (pos 2 *ℤ vertex_value r m) → same_place u m ≡ false
apart_left r u m h k = by_test (same_place u m) refl
  where
    by_test : (b : Bool) → same_place u m ≡ b → b ≡ false
    by_test true e = let s = same_vertex_is u m e in let f = ap (vertex_value r) s in absurd (below_not (neg_ℤ (pos (blur r))) (vertex_value r u) (vertex_value r m) h k f)
    by_test false e = refl

pub apart_from_right : (r : Ray) (m u : Vertex) → IsWellRight r u → (pos 2 *ℤ vertex_value r m) ≤ℤ pos (blur r) → same_place m u ≡ false
apart_from_right r m u h k = by_test (same_place m u) refl
  where
    by_test : (b : Bool) → same_place m u ≡ b → b ≡ false
    by_test true e = let s = same_vertex_is m u e in let f = ap (vertex_value r) s in absurd (above_not (pos (blur r)) (vertex_value r u) (vertex_value r m) h k (sym f))
    by_test false e = refl

pub apart_from_left : (r : Ray) (m u : Vertex) → IsWellLeft r u → neg_ℤ (pos (blur r)) ≤ℤ (pos 2 *ℤ vertex_value r m) → same_place m u ≡ false
apart_from_left r m u h k = by_test (same_place m u) refl
  where
    by_test : (b : Bool) → same_place m u ≡ b → b ≡ false
    by_test true e = let s = same_vertex_is m u e in let f = ap (vertex_value r) s in absurd (below_not (neg_ℤ (pos (blur r))) (vertex_value r u) (vertex_value r m) h k (sym f))
    by_test false e = refl

-- both parts of a piece are kept
pub record IsParted (lines : List Edge) (partition p : Piece) : Type 0 where
  pub right : is_some (parts_of lines partition p).right ≡ true
  pub left : is_some (parts_of lines partition p).left ≡ true

module _ (lines : List Edge) (partition p : Piece) (ok : IsPiece lines p) where
  end_right : (t : Frac) → IsFraction t → IsWellRight (ray_of lines partition) (point_at (edge_of lines p) t) → pos 0 <ℤ value_by lines partition p t
  end_right t f h = exact_right (ray_of lines partition) (edge_of lines p) t f h

  end_left : (t : Frac) → IsFraction t → IsWellLeft (ray_of lines partition) (point_at (edge_of lines p) t) → value_by lines partition p t <ℤ pos 0
  end_left t f h = exact_left (ray_of lines partition) (edge_of lines p) t f h

  -- both ends on one side: the piece goes there whole
  pub ends_right : IsWellRight (ray_of lines partition) (first_end lines p)
      → IsWellRight (ray_of lines partition) (last_end lines p) → parts_of lines partition p
      ≡ record { right = Some p; left = None }
  ends_right h k = ap (parts_by lines partition p)
      (right_by_signs (value_by lines partition p p.from) (value_by lines partition p p.to)
      (dot (ray_of lines partition) (ray_of lines p)) (end_right p.from ok.from_in h) (end_right p.to ok.to_in k))

  pub ends_left : IsWellLeft (ray_of lines partition) (first_end lines p) → IsWellLeft (ray_of lines partition) (last_end lines p) → parts_of lines partition p ≡ record { right = None; left = Some p }
  ends_left h k = ap (parts_by lines partition p)
      (left_by_signs (value_by lines partition p p.from) (value_by lines partition p p.to)
      (dot (ray_of lines partition) (ray_of lines p)) (end_left p.from ok.from_in h) (end_left p.to ok.to_in k))

  -- a part whose ends differ is kept
  kept_is : (q : Piece) → same_place (first_end lines q) (last_end lines q) ≡ false → is_some (kept lines q) ≡ true
  kept_is q e = ap (λ (b : Bool). is_some (if b then None else Some q)) e

  both_kept : (at : Frac) (b : Bool) → same_place (first_end lines p) (point_at (edge_of lines p) at) ≡ false
      → same_place (point_at (edge_of lines p) at) (last_end lines p) ≡ false
      → (is_some (cut_at lines p at b).right ≡ true) × (is_some (cut_at lines p at b).left ≡ true)
  both_kept at true e f = (kept_is (record p { to = at }) e, kept_is (record p { from = at }) f)
  both_kept at false e f = (kept_is (record p { from = at }) f, kept_is (record p { to = at }) e)

  parted_by : place_of_piece lines partition p ≡ Across
      → same_place (first_end lines p) (point_at (edge_of lines p)
      (crossing (ray_of lines partition) (edge_of lines p))) ≡ false
      → same_place (point_at (edge_of lines p) (crossing (ray_of lines partition) (edge_of lines p))) (last_end lines p)
      ≡ false → IsParted lines partition p
  parted_by a e f =
      let k = both_kept (crossing (ray_of lines partition) (edge_of lines p)) (int_lt (pos 0) (value_by lines partition p p.from)) e f in
      record {
        right = ap (λ (x : Place). is_some (parts_by lines partition p x).right) a ∙ k.0;
        left = ap (λ (x : Place). is_some (parts_by lines partition p x).left) a ∙ k.1;
      }

  -- an end on each side: the piece is parted, and both parts are kept
  pub ends_down : IsWellRight (ray_of lines partition) (first_end lines p) → IsWellLeft (ray_of lines partition) (last_end lines p) → IsParted lines partition p
  ends_down h k =
      let r = ray_of lines partition in
      let e = edge_of lines p in
      let x = vertex_value r e.v1 in
      let y = vertex_value r e.v2 in
      let u = end_right p.from ok.from_in h in
      let w = end_left p.to ok.to_in k in
      let c = crossing_down x y p.from p.to ok.from_in.positive ok.to_in.positive ok.rising u w in
      let z = zero_there x y in
      let m = point_at e (crossing r e) in
      let nr = near_right r e (crossing r e) c.positive (omega (arith, linear)) in
      let nl = near_left r e (crossing r e) c.positive (omega (arith, linear)) in
      parted_by (across_down (value_by lines partition p p.from) (value_by lines partition p p.to) (dot r (ray_of lines p)) u w)
      (apart_right r (first_end lines p) m h nl) (apart_from_left r m (last_end lines p) k nr)

  pub ends_up : IsWellLeft (ray_of lines partition) (first_end lines p) → IsWellRight (ray_of lines partition) (last_end lines p) → IsParted lines partition p
  ends_up h k =
      let r = ray_of lines partition in
      let e = edge_of lines p in
      let x = vertex_value r e.v1 in
      let y = vertex_value r e.v2 in
      let u = end_left p.from ok.from_in h in
      let w = end_right p.to ok.to_in k in
      let c = crossing_up x y p.from p.to ok.from_in.positive ok.to_in.positive ok.rising u w in
      let z = zero_there x y in
      let m = point_at e (crossing r e) in
      let nr = near_right r e (crossing r e) c.positive (omega (arith, linear)) in
      let nl = near_left r e (crossing r e) c.positive (omega (arith, linear)) in
      parted_by (across_up (value_by lines partition p p.from) (value_by lines partition p p.to) (dot r (ray_of lines p)) u w)
      (apart_left r (first_end lines p) m h nr) (apart_from_right r m (last_end lines p) k nl)

  -- the counts of a piece of which both parts are kept
  pub parted_counts : (c : Counts) → IsParted lines partition p → c.right ≡ 1 → c.left ≡ 1 → c.splits ≡ 1 → AreCounts lines partition (p ∷ []) c
  parted_counts c k r l s =
      let a = k.right in
      let b = k.left in
      piece_counts lines partition p (parts_of lines partition p) c refl (r ∙ ap one (sym a)) (l ∙ ap one (sym b))
      (s ∙ both (is_some (parts_of lines partition p).right) (is_some (parts_of lines partition p).left) a b)
    where
      both : (x y : Bool) → x ≡ true → y ≡ true → 1 ≡ one (x && y)
      both true true e f = refl
      both true false e f = cc
      both false y e f = cc

-- the ends of a piece
pub ends_by : (u v : Vertex) (e : Ends) → u ≡ e.first → v ≡ e.last → record { first = u; last = v } ≡ e
ends_by u v e p q =
    let made : Vertex → Vertex → Ends = λ x y. record { first = x; last = y } in
    ap (λ (x : Vertex). made x v) p ∙ ap (made e.first) q
