-- A list that no piece of an unused line separates is convex to within rounding.
use Rattle.std.proofs.Common.{◌≡◌, refl, sym, ap, ◌∙◌, subst, ℕ, ⊎_elim, List, [], ◌∷◌, Some, None, Bool, true, false, arith}
use Rattle.std.proofs.lemmas.Int.{ints}
use Rattle.std.specs.Prelude.{ℤ, pos, ◌+ℤ◌, ◌-ℤ◌, ◌*ℤ◌, neg_ℤ, ◌≤ℤ◌, ◌<ℤ◌, int_lt, if◌then◌else◌, slice_index_or}
use Rattle.lump_records.specs.declared.records.Vertex.{Vertex}
use Rattle.tree_pieces.specs.declared.edge.Edge.{Edge}
use Rattle.tree_pieces.specs.declared.frac.Frac.{Frac}
use Rattle.tree_pieces.specs.declared.piece.Piece.{Piece}
use Rattle.tree_pieces.specs.declared.piece.Place.{Place}
use Rattle.tree_pieces.specs.declared.piece.Place.TheVariants.{Right, Left, Across}
use Rattle.tree_pieces.specs.declared.edge.Facing.{Facing}
use Rattle.tree_pieces.specs.declared.edge.Facing.TheVariants.{Along, Against}
use Rattle.lump_records.specs.declared.plane.Ray.{Ray}
use Rattle.tree_pieces.specs.Plane.{ray, vertex_value, LiesOn, dot, NearRight}
use Rattle.tree_pieces.specs.Fractions.{exact_value, between, crossing, point_at}
use Rattle.tree_pieces.specs.Pieces.{edge_of, ray_of, first_end, last_end, same_place, IsPiece, no_edge}
use Rattle.tree_pieces.specs.Division.{value_by, LiesAlong, place_of_piece, kept, cut_at, parts_by, parts_of, LiesInRight, LiesInLeft}
use Rattle.tree_pieces.specs.Convex.{LiesRight}
use Rattle.lump_records.proofs.Ring.{by_ring, quotes}
use Rattle.lump_records.proofs.Signs.{linear}
use Rattle.tree_pieces.proofs.Rounding.{near_right}
use Rattle.tree_pieces.proofs.Crossing.{zero_there, zero_everywhere, crossing_down, crossing_up}
use Rattle.tree_pieces.proofs.Placing.{Means, place_means}
use Rattle.tree_pieces.proofs.Lengths.{square_not_negative}
use Rattle.tree_pieces.proofs.Division.{same_vertex_is}

-- ---- a line and the same line turned round
turned_value : (e : Edge) (v : Vertex) → vertex_value (ray e Against) v ≡ neg_ℤ (vertex_value (ray e Along) v)
turned_value e v = by_ring (e.v1.x ∷ e.v1.y ∷ e.v2.x ∷ e.v2.y ∷ v.x ∷ v.y ∷ []) _ _ (search quotes depth 30 fits 20000) (search quotes depth 30 fits 20000) tt

-- on a turned ray the exact values change their signs
pub turned_exact : (e e' : Edge) (t : Frac) → exact_value (ray e Against) e' t ≡ neg_ℤ (exact_value (ray e Along) e' t)
turned_exact e e' t =
    ap (λ (x : ℤ). between x (vertex_value (ray e Against) e'.v2) t) (turned_value e e'.v1)
    ∙ ap (λ (x : ℤ). between (neg_ℤ (vertex_value (ray e Along) e'.v1)) x t) (turned_value e e'.v2)
    ∙ negated (vertex_value (ray e Along) e'.v1) (vertex_value (ray e Along) e'.v2) t.n t.d
  where
    negated : (a b n d : ℤ) → (d -ℤ n) *ℤ neg_ℤ a +ℤ n *ℤ neg_ℤ b ≡ neg_ℤ ((d -ℤ n) *ℤ a +ℤ n *ℤ b)
    negated a b n d = by_ring (a ∷ b ∷ n ∷ d ∷ []) _ _ (search quotes depth 30 fits 20000) (search quotes depth 30 fits 20000) tt

-- and so do the inner products
pub turned_dot : (e : Edge) (s : Ray) → dot (ray e Against) s ≡ neg_ℤ (dot (ray e Along) s)
turned_dot e s = by_ring (e.v1.x ∷ e.v1.y ∷ e.v2.x ∷ e.v2.y ∷ s.dx ∷ s.dy ∷ []) _ _ (search quotes depth 30 fits 20000) (search quotes depth 30 fits 20000) tt

-- a line lies on itself
pub on_itself : (e : Edge) (f : Facing) → LiesOn (ray e f) e
on_itself e Along = (
  by_ring (e.v1.x ∷ e.v1.y ∷ e.v2.x ∷ e.v2.y ∷ []) _ _ (search quotes depth 30 fits 20000)
      (search quotes depth 30 fits 20000) tt,
  by_ring (e.v1.x ∷ e.v1.y ∷ e.v2.x ∷ e.v2.y ∷ []) _ _
      (search quotes depth 30 fits 20000) (search quotes depth 30 fits 20000) tt,
)
on_itself e Against = (
  by_ring (e.v1.x ∷ e.v1.y ∷ e.v2.x ∷ e.v2.y ∷ []) _ _ (search quotes depth 30 fits 20000)
      (search quotes depth 30 fits 20000) tt,
  by_ring (e.v1.x ∷ e.v1.y ∷ e.v2.x ∷ e.v2.y ∷ []) _ _
      (search quotes depth 30 fits 20000) (search quotes depth 30 fits 20000) tt,
)

-- ---- the right side, over the ray alone
pub record RightOf (r : Ray) (e : Edge) (p : Piece) (s : Ray) : Type 0 where
  pub from : pos 0 ≤ℤ exact_value r e p.from
  pub to : pos 0 ≤ℤ exact_value r e p.to
  pub direction : LiesOn r e → pos 0 <ℤ dot r s

-- exactly on the right, so on the right to within rounding
pub lies_right : (lines : List Edge) (p q : Piece) → IsPiece lines q → RightOf (ray_of lines p) (edge_of lines q) q (ray_of lines q) → LiesRight lines p q
lies_right lines p q ok h = record {
  first_near = near_right (ray_of lines p) (edge_of lines q) q.from ok.from_in.positive h.from;
  last_near = near_right (ray_of lines p) (edge_of lines q) q.to ok.to_in.positive h.to;
  not_opposite = h.direction;
}

squares_of : (x y : ℤ) → pos 0 ≤ℤ (x *ℤ x +ℤ y *ℤ y)
squares_of x y = let a = square_not_negative x in let b = square_not_negative y in omega (arith, linear)

dot_comm : (r s : Ray) → dot r s ≡ dot s r
dot_comm r s = by_ring (r.dx ∷ r.dy ∷ s.dx ∷ s.dy ∷ []) _ _ (search quotes depth 30 fits 20000) (search quotes depth 30 fits 20000) tt

-- what lies on the right of a line's ray, where that ray has the piece's direction
by_right : (e e' : Edge) (f g : Facing) (q : Piece) (s : Ray) → pos 0 <ℤ dot (ray e f) (ray e g) → RightOf (ray e f) e' q s → RightOf (ray e g) e' q s
by_right e e' Along Along q s h k = k
by_right e e' Against Against q s h k = k
by_right e e' Along Against q s h k =
    let z = squares_of (ray e Along).dx (ray e Along).dy in
    let t = turned_dot e (ray e Along) in
    let c = dot_comm (ray e Along) (ray e Against) in
    absurd (omega (arith, linear))
by_right e e' Against Along q s h k =
    let z = squares_of (ray e Along).dx (ray e Along).dy in
    let t = turned_dot e (ray e Along) in
    absurd (omega (arith, linear))

-- the left side, over the ray alone
pub record LeftOf (r : Ray) (e : Edge) (p : Piece) (s : Ray) : Type 0 where
  pub from : exact_value r e p.from ≤ℤ pos 0
  pub to : exact_value r e p.to ≤ℤ pos 0
  pub direction : LiesOn r e → dot r s <ℤ pos 0

-- what lies on the left of a line's ray lies on the right of the ray turned round
by_left : (e e' : Edge) (f g : Facing) (q : Piece) (s : Ray) → dot (ray e f) (ray e g) <ℤ pos 0 → LeftOf (ray e f) e' q s → RightOf (ray e g) e' q s
by_left e e' Along Along q s h k = let z = squares_of (ray e Along).dx (ray e Along).dy in absurd (omega (arith, linear))
by_left e e' Against Against q s h k = let z = squares_of (ray e Against).dx (ray e Against).dy in absurd (omega (arith, linear))
by_left e e' Along Against q s h k =
    let a = k.from in
    let b = k.to in
    let x = turned_exact e e' q.from in
    let y = turned_exact e e' q.to in
    let d = turned_dot e s in
    record {
      from = omega (arith, linear);
      to = omega (arith, linear);
      direction = λ on. let va =
          turned_value e e'.v1 in let vb = turned_value e e'.v2 in let oa = on.0 in let ob = on.1 in let j =
          k.direction (omega (arith, linear), omega (arith, linear)) in omega (arith, linear);
    }
by_left e e' Against Along q s h k =
    let a = k.from in
    let b = k.to in
    let x = turned_exact e e' q.from in
    let y = turned_exact e e' q.to in
    let d = turned_dot e s in
    record {
      from = omega (arith, linear);
      to = omega (arith, linear);
      direction = λ on. let va =
          turned_value e e'.v1 in let vb = turned_value e e'.v2 in let oa = on.0 in let ob = on.1 in let j =
          k.direction (omega (arith, linear), omega (arith, linear)) in omega (arith, linear);
    }

-- ---- an unused line that separates nothing
none_same : (lines : List Edge) (p : Piece) → kept lines p ≡ None → first_end lines p ≡ last_end lines p
none_same lines p e = by_test (same_place (first_end lines p) (last_end lines p)) refl e
  where
    by_test : (b : Bool) → same_place (first_end lines p) (last_end lines p) ≡ b → (if b then None else Some p) ≡ None → first_end lines p ≡ last_end lines p
    by_test true k n = same_vertex_is (first_end lines p) (last_end lines p) k
    by_test false k n = cc

module _ (lines : List Edge) (p q : Piece) (ok : IsPiece lines q) where
  zero_on : (t : Frac) → LiesAlong lines p q → value_by lines p q t ≡ pos 0
  zero_on t on = ap (λ (x : ℤ). between x (vertex_value (ray_of lines p) (edge_of lines q).v2) t) on.0 ∙ ap (λ (x : ℤ). between (pos 0) x t) on.1 ∙ zero_everywhere t

  -- the crossing itself is near the ray
  near_crossing : pos 1 ≤ℤ (crossing (ray_of lines p) (edge_of lines q)).d → NearRight (ray_of lines p) (point_at (edge_of lines q) (crossing (ray_of lines p) (edge_of lines q)))
  near_crossing h =
      let z = zero_there (vertex_value (ray_of lines p) (edge_of lines q).v1) (vertex_value (ray_of lines p) (edge_of lines q).v2) in
      near_right (ray_of lines p) (edge_of lines q) (crossing (ray_of lines p) (edge_of lines q)) h (omega (arith, linear))

  down : (pos 0 <ℤ value_by lines p q q.from) × (value_by lines p q q.to <ℤ pos 0) → (parts_by lines p q Across).left ≡ None → LiesRight lines p q
  down m n = by_test (int_lt (pos 0) (value_by lines p q q.from)) refl n
    where
      by_test : (b : Bool) → int_lt (pos 0) (value_by lines p q q.from) ≡ b → (cut_at lines q (crossing (ray_of lines p) (edge_of lines q)) b).left ≡ None → LiesRight lines p q
      by_test false e k = absurd (let h = m.0 in omega (arith, ints))
      by_test true e k =
          let r = ray_of lines p in
          let x = crossing_down (vertex_value r (edge_of lines q).v1) (vertex_value r (edge_of lines q).v2) q.from q.to ok.from_in.positive ok.to_in.positive ok.rising m.0 m.1 in
          let s = none_same lines (record q { from = crossing r (edge_of lines q) }) k in
          let h = m.0 in
          record {
            first_near = near_right r (edge_of lines q) q.from ok.from_in.positive (omega (arith, linear));
            last_near = subst (NearRight r) s (near_crossing x.positive);
            not_opposite = λ on. let o = zero_on q.from on in absurd (omega (arith, linear));
          }

  upward : (value_by lines p q q.from <ℤ pos 0) × (pos 0 <ℤ value_by lines p q q.to) → (parts_by lines p q Across).left ≡ None → LiesRight lines p q
  upward m n = by_test (int_lt (pos 0) (value_by lines p q q.from)) refl n
    where
      by_test : (b : Bool) → int_lt (pos 0) (value_by lines p q q.from) ≡ b → (cut_at lines q (crossing (ray_of lines p) (edge_of lines q)) b).left ≡ None → LiesRight lines p q
      by_test true e k = absurd (let h = m.0 in omega (arith, ints))
      by_test false e k =
          let r = ray_of lines p in
          let x = crossing_up (vertex_value r (edge_of lines q).v1) (vertex_value r (edge_of lines q).v2) q.from q.to ok.from_in.positive ok.to_in.positive ok.rising m.0 m.1 in
          let s = none_same lines (record q { to = crossing r (edge_of lines q) }) k in
          let h = m.1 in
          record {
            first_near = subst (NearRight r) (sym s) (near_crossing x.positive);
            last_near = near_right r (edge_of lines q) q.to ok.to_in.positive (omega (arith, linear));
            not_opposite = λ on. let o = zero_on q.to on in absurd (omega (arith, linear));
          }

  by_place : (place : Place) → Means (value_by lines p q q.from) (value_by lines p q q.to) (dot (ray_of lines p) (ray_of lines q)) place → (parts_by lines p q place).left ≡ None → LiesRight lines p q
  by_place Right m n = lies_right lines p q ok (record { from = m.from; to = m.to; direction = λ on. m.direction (zero_on q.from on) (zero_on q.to on) })
  by_place Left m n = cc
  by_place Across m n = ⊎_elim (λ x. down x n) (λ x. upward x n) m

  -- the second piece leaves nothing on the left of the first one's line
  pub by_unused : (parts_of lines p q).left ≡ None → LiesRight lines p q
  by_unused none = by_place (place_of_piece lines p q) (place_means (value_by lines p q q.from) (value_by lines p q q.to) (dot (ray_of lines p) (ray_of lines q))) none

-- ---- a used line: h is the partition, p stands on its line
pub by_used_right : (lines : List Edge) (h p q : Piece) → h.line ≡ p.line → LiesInRight lines h p → LiesInRight lines h q → IsPiece lines q → LiesRight lines p q
by_used_right lines h p q same hp hq ok =
    let onto : LiesAlong lines h p = subst (λ (k : ℕ). LiesOn (ray (slice_index_or lines k no_edge) h.side) (edge_of lines p)) (sym same) (on_itself (edge_of lines p) h.side) in
    let d : pos 0 <ℤ dot (ray (edge_of lines p) h.side) (ray_of lines p) = subst (λ (k : ℕ). pos 0 <ℤ dot (ray (slice_index_or lines k no_edge) h.side) (ray_of lines p)) same (hp.direction onto) in
    let k : RightOf (ray (edge_of lines p) h.side) (edge_of lines q) q (ray_of lines q) =
    subst (λ (k : ℕ). RightOf (ray (slice_index_or lines k no_edge) h.side) (edge_of lines q) q
    (ray_of lines q)) same (record { from = hq.from; to = hq.to; direction = hq.direction }) in
    lies_right lines p q ok (by_right (edge_of lines p) (edge_of lines q) h.side p.side q (ray_of lines q) d k)

-- the same where the used line has the pieces on its left
pub by_used_left : (lines : List Edge) (h p q : Piece) → h.line ≡ p.line → LiesInLeft lines h p → LiesInLeft lines h q → IsPiece lines q → LiesRight lines p q
by_used_left lines h p q same hp hq ok =
    let onto : LiesAlong lines h p = subst (λ (k : ℕ). LiesOn (ray (slice_index_or lines k no_edge) h.side) (edge_of lines p)) (sym same) (on_itself (edge_of lines p) h.side) in
    let d : dot (ray (edge_of lines p) h.side) (ray_of lines p) <ℤ pos 0 = subst (λ (k : ℕ). dot (ray (slice_index_or lines k no_edge) h.side) (ray_of lines p) <ℤ pos 0) same (hp.direction onto) in
    let k : LeftOf (ray (edge_of lines p) h.side) (edge_of lines q) q (ray_of lines q) =
    subst (λ (k : ℕ). LeftOf (ray (slice_index_or lines k no_edge) h.side) (edge_of lines q) q
    (ray_of lines q)) same (record { from = hq.from; to = hq.to; direction = hq.direction }) in
    lies_right lines p q ok (by_left (edge_of lines p) (edge_of lines q) h.side p.side q (ray_of lines q) d k)
