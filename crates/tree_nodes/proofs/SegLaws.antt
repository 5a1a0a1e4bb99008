-- What holds of a piece holds of its seg.
use Rattle.std.proofs.Common.{◌≡◌, refl, sym, ap, ◌∙◌, subst, ℕ, List}
use Rattle.lump_records.specs.declared.records.Vertex.{Vertex}
use Rattle.lump_records.specs.declared.records.Seg.{Seg}
use Rattle.lump_records.specs.declared.plane.Ray.{Ray}
use Rattle.tree_pieces.specs.declared.edge.Edge.{Edge}
use Rattle.tree_pieces.specs.declared.edge.Facing.{Facing}
use Rattle.tree_pieces.specs.declared.edge.Facing.TheVariants.{Along, Against}
use Rattle.tree_pieces.specs.declared.piece.Piece.{Piece}
use Rattle.tree_pieces.specs.Plane.{ray, LiesOn, RunsWith, RunsAgainst, NearRight, NearLeft}
use Rattle.tree_pieces.specs.Pieces.{edge_at, edge_of, ray_of, first_end, last_end, IsPiece}
use Rattle.tree_pieces.specs.Division.{LiesInRight, LiesInLeft}
use Rattle.tree_pieces.specs.Convex.{LiesRight}
use Rattle.tree_pieces.specs.Segs.{facing_of, seg_edge, seg_ray, first_place, second_place, IsPointOf, SegLiesRight, SegLiesLeft}
use Rattle.tree_pieces.proofs.Rounding.{near_right, near_left}
use Rattle.tree_nodes.specs.TreeLists.{side_number, start_of, end_of, IsSegOf}

pub side_is : (f : Facing) (n : ℕ) → n ≡ side_number f → facing_of n ≡ f
side_is Along n e = ap facing_of e
side_is Against n e = ap facing_of e

module _ (lines : List Edge) (vertices : List Vertex) where
  pub edge_is : (p : Piece) (s : Seg) → IsSegOf lines vertices p s → seg_edge lines vertices s ≡ edge_of lines p
  edge_is p s h = ap (edge_at lines) h.line

  pub ray_is : (p : Piece) (s : Seg) → IsSegOf lines vertices p s → seg_ray lines vertices s ≡ ray_of lines p
  ray_is p s h = ap (λ (n : ℕ). ray (edge_at lines n) (facing_of s.side)) h.line ∙ ap (ray (edge_of lines p)) (side_is p.side s.side h.side)

  -- what holds at both ends of the piece holds at both ends of the seg
  pub by_ends : (P : Vertex → Type 0) (p : Piece) (s : Seg) → IsSegOf lines vertices p s → P (first_end lines p)
      → P (last_end lines p) → P (first_place lines vertices s) × P (second_place lines vertices s)
  by_ends P p s h a b = by_side p.side h.first h.second
    where
      by_side : (f : Facing) → first_place lines vertices s ≡ start_of lines f p → second_place lines vertices s
          ≡ end_of lines f p → P (first_place lines vertices s) × P (second_place lines vertices s)
      by_side Along e f = (subst P (sym e) a, subst P (sym f) b)
      by_side Against e f = (subst P (sym e) b, subst P (sym f) a)

  -- a piece exactly on the right of a partition, as a seg
  pub seg_right : (p q : Piece) (s : Seg) → IsSegOf lines vertices q s → IsPiece lines q → LiesInRight lines p q → SegLiesRight lines vertices (ray_of lines p) s
  seg_right p q s h ok l =
      let e = by_ends (NearRight (ray_of lines p)) q s h
      (near_right (ray_of lines p) (edge_of lines q) q.from ok.from_in.positive l.from)
      (near_right (ray_of lines p) (edge_of lines q) q.to ok.to_in.positive l.to) in
      record {
        first_near = e.0;
        second_near = e.1;
        not_opposite = λ on. subst (RunsWith (ray_of lines p)) (sym (ray_is q s h)) (l.direction (subst (LiesOn (ray_of lines p)) (edge_is q s h) on));
      }

  -- and on its left
  pub seg_left : (p q : Piece) (s : Seg) → IsSegOf lines vertices q s → IsPiece lines q → LiesInLeft lines p q → SegLiesLeft lines vertices (ray_of lines p) s
  seg_left p q s h ok l =
      let e = by_ends (NearLeft (ray_of lines p)) q s h
      (near_left (ray_of lines p) (edge_of lines q) q.from ok.from_in.positive l.from)
      (near_left (ray_of lines p) (edge_of lines q) q.to ok.to_in.positive l.to) in
      record {
        first_near = e.0;
        second_near = e.1;
        opposite = λ on. subst (RunsAgainst (ray_of lines p)) (sym (ray_is q s h)) (l.direction (subst (LiesOn (ray_of lines p)) (edge_is q s h) on));
      }

  -- a piece on the right of another one to within rounding
  pub seg_convex : (p q : Piece) (s t : Seg) → IsSegOf lines vertices p s → IsSegOf lines vertices q t → LiesRight lines p q → SegLiesRight lines vertices (seg_ray lines vertices s) t
  seg_convex p q s t hs ht l =
      let e = by_ends (NearRight (ray_of lines p)) q t ht l.first_near l.last_near in
      let k : SegLiesRight lines vertices (ray_of lines p) t = record {
        first_near = e.0;
        second_near = e.1;
        not_opposite = λ on. subst (RunsWith (ray_of lines p)) (sym (ray_is q t ht)) (l.not_opposite (subst (LiesOn (ray_of lines p)) (edge_is q t ht) on));
      } in
      subst (λ (r : Ray). SegLiesRight lines vertices r t) (sym (ray_is p s hs)) k

  -- the ends of a seg are points of its line
  pub seg_points : (p : Piece) (s : Seg) → IsSegOf lines vertices p s → IsPiece lines p
      → IsPointOf lines vertices (seg_edge lines vertices s) (first_place lines vertices s)
      × IsPointOf lines vertices (seg_edge lines vertices s) (second_place lines vertices s)
  seg_points p s h ok =
      let e = by_ends (IsPointOf lines vertices (edge_of lines p)) p s h (p.from, ok.from_in, refl) (p.to, ok.to_in, refl) in
      let w = sym (edge_is p s h) in
      (subst (λ (e : Edge). IsPointOf lines vertices e (first_place lines vertices s)) w e.0, subst (λ (e : Edge). IsPointOf lines vertices e (second_place lines vertices s)) w e.1)
