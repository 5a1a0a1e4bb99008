-- A list of an odd number of pieces has no partition that costs nothing: a piece leaves one part, or two if it is split.
use Rattle.std.proofs.Common.{◌≡◌, refl, sym, subst, ◌+◌, ◌≤◌, ◌%◌, Bool, true, false, ◌&&◌, if◌then◌else◌, List, [], ◌∷◌, length, Some, None, arith, All}
use Rattle.std.proofs.lemmas.List.Elements.{All-head, All-tail}
use Rattle.std.specs.Prelude.{is_some, int_lt, pos}
use Rattle.lump_records.specs.declared.records.Vertex.{Vertex}
use Rattle.tree_pieces.specs.declared.edge.Edge.{Edge}
use Rattle.tree_pieces.specs.declared.frac.Frac.{Frac}
use Rattle.tree_pieces.specs.declared.piece.Parts.{Parts}
use Rattle.tree_pieces.specs.declared.piece.Piece.{Piece}
use Rattle.tree_pieces.specs.declared.piece.Place.{Place}
use Rattle.tree_pieces.specs.declared.piece.Place.TheVariants.{Right, Left, Across}
use Rattle.tree_pieces.specs.Division.{parts_of, parts_by, cut_at, place_of_piece, value_by}
use Rattle.tree_pieces.specs.Fractions.{crossing, point_at}
use Rattle.tree_pieces.specs.Pieces.{edge_of, ray_of, first_end, last_end, same_place, IsPiece}
use Rattle.tree_pieces.specs.Tree.{cost}
use Rattle.tree_pieces.proofs.Division.{same_vertex_is}
use Rattle.tree_pieces.proofs.Stops.{rights, lefts, splits, rights_append, lefts_append, splits_append}
use Rattle.tree_choice.specs.declared.counts.Counts.{Counts}
use Rattle.tree_choice.proofs.OneMore.{one, piece_counts}

-- there is a part, and a second one if the piece is split
abbrev pub HasPart : Parts → Type 0
HasPart x = one (is_some x.right) + one (is_some x.left) ≡ 1 + one (is_some x.right && is_some x.left)

-- of two parts one is kept unless both are left out
one_kept : (a b : Bool) → (a ≡ true → b ≡ false) → (x y : Piece) → HasPart (record { right = (if a then None else Some x); left = (if b then None else Some y) })
one_kept true true h x y = absurd (let f = h refl in cc)
one_kept true false h x y = refl
one_kept false true h x y = refl
one_kept false false h x y = refl

module _ (lines : List Edge) (p : Piece) where
  cut_kept : (q : Piece) (at : Frac) (b : Bool) → IsPiece lines q → HasPart (cut_at lines q at b)
  cut_kept q at true ok =
      let m = point_at (edge_of lines q) at in
      one_kept (same_place (first_end lines q) m) (same_place m (last_end lines q))
      (λ t. subst (λ (v : Vertex). same_place v (last_end lines q) ≡ false) (same_vertex_is (first_end lines q) m t) ok.ends_differ)
      (record q { to = at }) (record q { from = at })
  cut_kept q at false ok =
      let m = point_at (edge_of lines q) at in
      one_kept (same_place m (last_end lines q)) (same_place (first_end lines q) m)
      (λ t. subst (λ (v : Vertex). same_place (first_end lines q) v ≡ false) (sym (same_vertex_is m (last_end lines q) t)) ok.ends_differ)
      (record q { from = at }) (record q { to = at })

  has_part : (q : Piece) → IsPiece lines q → HasPart (parts_of lines p q)
  has_part q ok = by_place (place_of_piece lines p q)
    where
      by_place : (x : Place) → HasPart (parts_by lines p q x)
      by_place Right = refl
      by_place Left = refl
      by_place Across = cut_kept q (crossing (ray_of lines p) (edge_of lines q)) (int_lt (pos 0) (value_by lines p q q.from)) ok

  -- as many parts as pieces, and one more for each split
  all_parts : (ps : List Piece) → All (IsPiece lines) ps → rights lines p ps + lefts lines p ps ≡ length ps + splits lines p ps
  all_parts [] all = refl
  all_parts (q ∷ qs) all =
      let x = parts_of lines p q in
      let c : Counts = record { splits = one (is_some x.right && is_some x.left); right = one (is_some x.right); left = one (is_some x.left) } in
      let k = piece_counts lines p q x c refl refl refl refl in
      let kr = k.right in
      let kl = k.left in
      let ks = k.splits in
      let h = has_part q (All-head (IsPiece lines) q qs all) in
      let t = all_parts qs (All-tail (IsPiece lines) q qs all) in
      let r = rights_append lines p (q ∷ []) qs in
      let l = lefts_append lines p (q ∷ []) qs in
      let s = splits_append lines p (q ∷ []) qs in
      omega arith

  pub odd_costs : (ps : List Piece) → All (IsPiece lines) ps → length ps % 2 ≤ cost lines p ps
  odd_costs ps all = let e = all_parts ps all in omega arith
