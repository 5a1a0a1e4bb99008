-- No list that a tree reaches is empty, where the first one isn't; and a tree has no fewer pieces than its first list.
use Rattle.std.proofs.Common.{◌≡◌, sym, ap, ◌∙◌, subst, ℕ, ◌+◌, ◌<◌, ◌≤◌, ⊎_elim, List, [], ◌∷◌, length, Option, Some, None, Bool, true, cond, arith, slice_get, All}
use Rattle.std.proofs.lemmas.Int.{ints}
use Rattle.std.proofs.lemmas.Bool.{cases_lt}
use Rattle.std.proofs.lemmas.List.{length-append}
use Rattle.std.proofs.lemmas.List.Elements.{All-nil, All-cons, All-append, All-get_or, All-head, All-tail}
use Rattle.std.proofs.lemmas.List.Sums.{sum_by-cons}
use Rattle.std.specs.Prelude.{ℤ, pos, ◌<ℤ◌, slice_set}
use Rattle.std.specs.List.{cons_option}
use Rattle.lump_records.proofs.Signs.{linear}
use Rattle.tree_pieces.specs.declared.edge.Edge.{Edge}
use Rattle.tree_pieces.specs.declared.frac.Frac.{Frac}
use Rattle.tree_pieces.specs.declared.piece.Piece.{Piece}
use Rattle.tree_pieces.specs.declared.piece.Parts.{Parts}
use Rattle.tree_pieces.specs.declared.piece.Place.TheVariants.{Right}
use Rattle.tree_pieces.specs.Plane.{vertex_value, dot, IsEdge, LiesOn}
use Rattle.tree_pieces.specs.Fractions.{between, steps_between}
use Rattle.tree_pieces.specs.Pieces.{no_edge, edge_of, ray_of, first_end, covers, cover, IsPiece}
use Rattle.tree_pieces.specs.Division.{value_by, place_by, parts_by, parts_of, right_parts, left_parts}
use Rattle.tree_pieces.specs.Tree.{Tree, Leaf, Branch, Divides, IsReached, leaves, pieces, counts}
use Rattle.tree_pieces.proofs.Lists.{All-at, none_left}
use Rattle.tree_pieces.proofs.Crossing.{zero_everywhere}
use Rattle.tree_pieces.proofs.Lengths.{ray_along}
use Rattle.tree_pieces.proofs.Convex.{on_itself}
use Rattle.tree_pieces.proofs.Steps.{piece_covers}
use Rattle.tree_pieces.proofs.Trees.{right_reached, left_reached, parts_cover}
use Rattle.tree_nodes.proofs.Counting.{counts_append}

right_if : (u w z : ℤ) → u ≡ pos 0 → w ≡ pos 0 → pos 0 <ℤ z → place_by u w z ≡ Right
right_if u w z h k d = grind (arith, ints)

-- a piece lies on its own partition, and runs with it, so that it goes to the right
goes_right : (lines : List Edge) (p : Piece) → pos 0 <ℤ dot (ray_of lines p) (ray_of lines p) → parts_of lines p p ≡ record { right = Some p; left = None }
goes_right lines p long = ap (parts_by lines p p) (right_if (value_by lines p p p.from) (value_by lines p p p.to) (dot (ray_of lines p) (ray_of lines p)) (at_zero p.from) (at_zero p.to) long)
  where
    at_zero : (t : Frac) → value_by lines p p t ≡ pos 0
    at_zero t =
        let on : LiesOn (ray_of lines p) (edge_of lines p) = on_itself (edge_of lines p) p.side in
        ap (λ (x : ℤ). between x (vertex_value (ray_of lines p) (edge_of lines p).v2) t) on.0 ∙ ap (λ (x : ℤ). between (pos 0) x t) on.1 ∙ zero_everywhere t

-- so the right parts of a list have the partition's own piece
pub right_some : (lines : List Edge) → All IsEdge lines → (p : Piece) → IsPiece lines p → (ps : List Piece) (i : ℕ) → slice_get ps i ≡ Some p → 0 < length (right_parts lines p ps)
right_some lines all p ok ps i at = ⊎_elim (λ z. absurd (kept (none_left (λ q. (parts_of lines p q).right) ps i p (omega arith) at))) (λ z. z) (cases_lt (length (right_parts lines p ps)) 1)
  where
    long : pos 0 <ℤ dot (ray_of lines p) (ray_of lines p)
    long =
        let line = All-get_or IsEdge lines p.line no_edge ok.line_in all in
        let s = ray_along (edge_of lines p) p.side in
        let a = line.apart in
        omega (arith, linear)

    kept : (parts_of lines p p).right ≡ None → ⊥
    kept e = let g = ap (λ (x : Parts). x.right) (goes_right lines p long) in cc

-- each leaf has a piece
pub counts_some : (lines : List Edge) → All IsEdge lines → (t : Tree) (ps : List Piece) (used : List Bool)
    → IsReached lines used ps → 0 < length ps → Divides lines ps used t → All (λ (n : ℕ). 0 < n) (counts t)
counts_some lines all (Leaf qs) ps used r some d = All-cons (λ (n : ℕ). 0 < n) (length qs) [] (let e = ap length d.0 in omega arith) (All-nil (λ (n : ℕ). 0 < n))
counts_some lines all (Branch p right left) ps used r some d =
    let ok = All-at (IsPiece lines) ps d.0.0 p r.pieces d.0.1.stands in
    let a = counts_some lines all right (right_parts lines p ps) (slice_set used p.line true) (right_reached lines all used ps r p ok) (right_some lines all p ok ps d.0.0 d.0.1.stands) d.1 in
    let b = counts_some lines all left (left_parts lines p ps) (slice_set used p.line true) (left_reached lines all used ps r p ok) d.0.1.candidate.1 d.2 in
    subst (All (λ (n : ℕ). 0 < n)) (sym (counts_append (leaves right) (leaves left))) (All-append (λ (n : ℕ). 0 < n) (counts right) (counts left) a b)

-- each piece leaves a part, on the right or on the left, since it covers a step
parts_many : (lines : List Edge) → All IsEdge lines → (p : Piece) → IsPiece lines p → (ps : List Piece)
    → All (IsPiece lines) ps → length ps ≤ length (right_parts lines p ps) + length (left_parts lines p ps)
parts_many lines all p ok [] h = omega arith
parts_many lines all p ok (q ∷ qs) h =
    one (parts_of lines p q).right (parts_of lines p q).left
    (parts_cover lines all p ok q.line q.side step (q ∷ []) (All-cons (IsPiece lines) q [] hq (All-nil (IsPiece lines))))
    (parts_many lines all p ok qs (All-tail (IsPiece lines) q qs h))
  where
    hq : IsPiece lines q
    hq = All-head (IsPiece lines) q qs h

    step : ℕ
    step = steps_between (edge_of lines q).v1 (first_end lines q)

    own : cover lines q.line q.side step (q ∷ []) ≡ 1
    own = sum_by-cons (λ (z : Piece). cond (covers lines q.line q.side step z) 1 0) q [] ∙ ap (λ (b : Bool). cond b 1 0 + 0) (piece_covers lines q hq)

    one : (a b : Option Piece) → cover lines q.line q.side step (cons_option a [])
        + cover lines q.line q.side step (cons_option b []) ≡ cover lines q.line q.side step (q ∷ [])
        → length qs ≤ length (right_parts lines p qs) + length (left_parts lines p qs)
        → length (q ∷ qs) ≤ length (cons_option a (right_parts lines p qs))
        + length (cons_option b (left_parts lines p qs))
    one None None e r = let o = own in absurd (omega arith)
    one None (Some y) e r = omega arith
    one (Some x) None e r = omega arith
    one (Some x) (Some y) e r = omega arith

-- so a tree has no fewer pieces than the list that it divides
pub tree_many : (lines : List Edge) → All IsEdge lines → (t : Tree) (ps : List Piece) (used : List Bool) → IsReached lines used ps → Divides lines ps used t → length ps ≤ length (pieces t)
tree_many lines all (Leaf qs) ps used r d = let e = ap length d.0 in omega arith
tree_many lines all (Branch p right left) ps used r d =
    let ok = All-at (IsPiece lines) ps d.0.0 p r.pieces d.0.1.stands in
    let a = tree_many lines all right (right_parts lines p ps) (slice_set used p.line true) (right_reached lines all used ps r p ok) d.1 in
    let b = tree_many lines all left (left_parts lines p ps) (slice_set used p.line true) (left_reached lines all used ps r p ok) d.2 in
    let m = parts_many lines all p ok ps r.pieces in
    let s = length-append (pieces right) (pieces left) in
    omega arith
