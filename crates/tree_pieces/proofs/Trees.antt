-- The tree of divisions: its lists keep their half-planes, its leaves are convex, and its pieces cover what the first list covers.
use Rattle.std.proofs.Common.{◌≡◌, refl, sym, ap, ◌∙◌, subst, ℕ, ◌+◌, ◌<◌, ◌⊎◌, inl, inr, ⊎_elim, List, [], ◌∷◌, ◌++◌, length, Option, Some, None, Bool, true, false, cond, arith, slice_get, All}
use Rattle.std.proofs.lemmas.Bool.{cases_eq}
use Rattle.std.proofs.lemmas.List.Elements.{All-nil, All-cons, All-head, All-tail, All-append, All-get_or}
use Rattle.std.proofs.lemmas.List.Sums.{sum_by-append}
use Rattle.std.specs.Prelude.{ℤ, pos, ◌≤ℤ◌, ◌<ℤ◌, IfSome, slice_index_or, slice_set, option_to_list}
use Rattle.std.specs.List.{cons_option}
use Rattle.std.proofs.Math.ListN.{length-set}
use Rattle.tree_pieces.specs.declared.edge.Edge.{Edge}
use Rattle.tree_pieces.specs.declared.frac.Frac.{Frac}
use Rattle.tree_pieces.specs.declared.piece.Piece.{Piece}
use Rattle.tree_pieces.specs.declared.edge.Facing.{Facing}
use Rattle.tree_pieces.specs.Plane.{ray, vertex_value, LiesOn, dot, IsEdge}
use Rattle.tree_pieces.specs.Fractions.{exact_value, AtMost}
use Rattle.tree_pieces.specs.Pieces.{no_edge, edge_of, ray_of, IsPiece, covers, cover}
use Rattle.tree_pieces.specs.Division.{value_by, LiesAlong, parts_of, IsPartOf, LiesInRight, LiesInLeft, IsDivided, right_parts, left_parts}
use Rattle.tree_pieces.specs.Tree.{HasNoChoice, Tree, Leaf, Branch, Divides, leaves, pieces, none_used, IsParted, HasHalf, IsReached}
use Rattle.tree_pieces.specs.Convex.{LiesRight, IsConvex}
use Rattle.lump_records.proofs.Signs.{linear}
use Rattle.tree_pieces.proofs.Crossing.{inside, inside_left, at_most_trans}
use Rattle.tree_pieces.proofs.Lengths.{ray_along}
use Rattle.tree_pieces.proofs.Division.{MayDivide, divided}
use Rattle.tree_pieces.proofs.Lists.{All-at, All-filter_map, none_left, set_true_cases, used_or_not, never_used, unused_length}
use Rattle.tree_pieces.proofs.Convex.{by_unused, by_used_right, by_used_left}

-- ---- parts keep the half-planes of the whole
module _ (lines : List Edge) (h p q : Piece) (ok : IsPiece lines p) (part : IsPartOf lines p q) where
  order : AtMost p.from q.from × AtMost q.from p.to × AtMost p.from q.to × AtMost q.to p.to
  order =
      let r = part.piece.rising in
      let m : AtMost q.from q.to = omega (arith, linear) in (
        part.from,
        at_most_trans q.from q.to p.to part.piece.from_in.positive part.piece.to_in.positive ok.to_in.positive m part.to,
        at_most_trans p.from q.from q.to ok.from_in.positive part.piece.from_in.positive part.piece.to_in.positive part.from m,
        part.to,
      )

  same_dot : dot (ray_of lines h) (ray_of lines q) ≡ dot (ray_of lines h) (ray_of lines p)
  same_dot = ap (λ (k : ℕ). dot (ray_of lines h) (ray (slice_index_or lines k no_edge) q.side)) part.line ∙ ap (λ (f : Facing). dot (ray_of lines h) (ray (edge_of lines p) f)) part.side

  onto : LiesAlong lines h q → LiesAlong lines h p
  onto on = subst (λ (k : ℕ). LiesOn (ray_of lines h) (slice_index_or lines k no_edge)) part.line on

  same_value : (t : Frac) → value_by lines h q t ≡ value_by lines h p t
  same_value t = ap (λ (k : ℕ). exact_value (ray_of lines h) (slice_index_or lines k no_edge) t) part.line

  -- a part of a piece on the right of h lies there too
  pub part_right : LiesInRight lines h p → LiesInRight lines h q
  part_right l =
      let a = vertex_value (ray_of lines h) (edge_of lines p).v1 in
      let b = vertex_value (ray_of lines h) (edge_of lines p).v2 in
      let x = inside a b p.from q.from p.to ok.from_in.positive part.piece.from_in.positive ok.to_in.positive order.0 order.1 l.from l.to in
      let y = inside a b p.from q.to p.to ok.from_in.positive part.piece.to_in.positive ok.to_in.positive order.2 order.3 l.from l.to in
      record {
        from = subst (λ (z : ℤ). pos 0 ≤ℤ z) (sym (same_value q.from)) x;
        to = subst (λ (z : ℤ). pos 0 ≤ℤ z) (sym (same_value q.to)) y;
        direction = λ on. subst (λ (z : ℤ). pos 0 <ℤ z) (sym same_dot) (l.direction (onto on));
      }

  -- and on the left
  pub part_left : LiesInLeft lines h p → LiesInLeft lines h q
  part_left l =
      let a = vertex_value (ray_of lines h) (edge_of lines p).v1 in
      let b = vertex_value (ray_of lines h) (edge_of lines p).v2 in
      let x = inside_left a b p.from q.from p.to ok.from_in.positive part.piece.from_in.positive ok.to_in.positive order.0 order.1 l.from l.to in
      let y = inside_left a b p.from q.to p.to ok.from_in.positive part.piece.to_in.positive ok.to_in.positive order.2 order.3 l.from l.to in
      record {
        from = subst (λ (z : ℤ). z ≤ℤ pos 0) (sym (same_value q.from)) x;
        to = subst (λ (z : ℤ). z ≤ℤ pos 0) (sym (same_value q.to)) y;
        direction = λ on. subst (λ (z : ℤ). z <ℤ pos 0) (sym same_dot) (l.direction (onto on));
      }

-- ---- one division of a list that the tree reaches
pub may_divide_by : (lines : List Edge) (p q : Piece) → IsEdge (edge_of lines p) → IsEdge (edge_of lines q) → IsPiece lines q → MayDivide lines p q
may_divide_by lines p q lp lq hq =
    let s = ray_along (edge_of lines p) p.side in
    let a = lp.apart in
    let b = lp.short in
    record { long = omega (arith, linear); short = omega (arith, linear); line = lq; piece = hq }

pub may_divide : (lines : List Edge) → All IsEdge lines → (p q : Piece) → IsPiece lines p → IsPiece lines q → MayDivide lines p q
may_divide lines all p q hp hq = may_divide_by lines p q (All-get_or IsEdge lines p.line no_edge hp.line_in all) (All-get_or IsEdge lines q.line no_edge hq.line_in all) hq

module _ (lines : List Edge) (all : All IsEdge lines) (used : List Bool) (ps : List Piece) (reached : IsReached lines used ps) (p : Piece) (ok : IsPiece lines p) where
  divided_at : (q : Piece) → IsPiece lines q → IsDivided lines p q (parts_of lines p q)
  divided_at q h = divided lines p q (may_divide lines all p q ok h)

  weaker : {X : Type 0} (o : Option X) (P Q : X → Type 0) → ((x : X) → P x → Q x) → IfSome o P → IfSome o Q
  weaker None P Q f h = tt
  weaker (Some x) P Q f h = f x h

  right_half : (h : Piece) → All (LiesInRight lines h) ps → All (LiesInRight lines h) (right_parts lines p ps)
  right_half h a = All-filter_map (λ q. IsPiece lines q × LiesInRight lines h q) (LiesInRight lines h)
      (λ q. (parts_of lines p q).right) (λ q k. weaker _ _ _ (λ x m. part_right lines h q x k.0 m.0 k.1)
      (divided_at q k.0).right) ps (λ k d l. (reached.pieces k d l, a k d l))

  right_half_left : (h : Piece) → All (LiesInLeft lines h) ps → All (LiesInLeft lines h) (right_parts lines p ps)
  right_half_left h a =
      All-filter_map (λ q. IsPiece lines q × LiesInLeft lines h q) (LiesInLeft lines h)
      (λ q. (parts_of lines p q).right) (λ q k. weaker _ _ _ (λ x m. part_left lines h q x k.0 m.0 k.1)
      (divided_at q k.0).right) ps (λ k d l. (reached.pieces k d l, a k d l))

  left_half : (h : Piece) → All (LiesInRight lines h) ps → All (LiesInRight lines h) (left_parts lines p ps)
  left_half h a = All-filter_map (λ q. IsPiece lines q × LiesInRight lines h q) (LiesInRight lines h)
      (λ q. (parts_of lines p q).left) (λ q k. weaker _ _ _ (λ x m. part_right lines h q x k.0 m.0 k.1)
      (divided_at q k.0).left) ps (λ k d l. (reached.pieces k d l, a k d l))

  left_half_left : (h : Piece) → All (LiesInLeft lines h) ps → All (LiesInLeft lines h) (left_parts lines p ps)
  left_half_left h a =
      All-filter_map (λ q. IsPiece lines q × LiesInLeft lines h q) (LiesInLeft lines h) (λ q. (parts_of lines p q).left)
      (λ q k. weaker _ _ _ (λ x m. part_left lines h q x k.0 m.0 k.1) (divided_at q k.0).left) ps
      (λ k d l. (reached.pieces k d l, a k d l))

  -- the right parts lie on the right of the partition
  pub right_side : All (LiesInRight lines p) (right_parts lines p ps)
  right_side = All-filter_map (IsPiece lines) (LiesInRight lines p) (λ q. (parts_of lines p q).right)
      (λ q k. weaker (parts_of lines p q).right (λ x. IsPartOf lines q x × LiesInRight lines p x) _ (λ x m. m.1)
      (divided_at q k).right) ps reached.pieces

  -- the left parts on its left
  pub left_side : All (LiesInLeft lines p) (left_parts lines p ps)
  left_side = All-filter_map (IsPiece lines) (LiesInLeft lines p) (λ q. (parts_of lines p q).left)
      (λ q k. weaker (parts_of lines p q).left (λ x. IsPartOf lines q x × LiesInLeft lines p x) _ (λ x m. m.1)
      (divided_at q k).left) ps reached.pieces

  halves_of : (qs : List Piece) → ((h : Piece) → All (LiesInRight lines h) ps → All (LiesInRight lines h) qs)
      → ((h : Piece) → All (LiesInLeft lines h) ps → All (LiesInLeft lines h) qs)
      → (All (LiesInRight lines p) qs ⊎ All (LiesInLeft lines p) qs) → (line : ℕ)
      → slice_get (slice_set used p.line true) line ≡ Some true → HasHalf lines line qs
  halves_of qs f g own line e =
      ⊎_elim (λ s. (p, sym s, own)) (λ s. let h = reached.halves line s in (h.0, h.1, ⊎_elim (λ a. inl (f h.0 a)) (λ a. inr (g h.0 a)) h.2)) (set_true_cases used p.line line e)

  -- a tree reaches the right parts
  pub right_reached : IsReached lines (slice_set used p.line true) (right_parts lines p ps)
  right_reached = record {
    pieces = All-filter_map (IsPiece lines) (IsPiece lines) (λ q. (parts_of lines p q).right)
        (λ q k. weaker (parts_of lines p q).right (λ x. IsPartOf lines q x × LiesInRight lines p x) _ (λ x m. m.0.piece)
        (divided_at q k).right) ps reached.pieces;
    halves = halves_of (right_parts lines p ps) right_half right_half_left (inl right_side);
    known = length-set used p.line true ∙ reached.known;
  }

  -- and the left parts
  pub left_reached : IsReached lines (slice_set used p.line true) (left_parts lines p ps)
  left_reached = record {
    pieces = All-filter_map (IsPiece lines) (IsPiece lines) (λ q. (parts_of lines p q).left)
        (λ q k. weaker (parts_of lines p q).left (λ x. IsPartOf lines q x × LiesInLeft lines p x) _ (λ x m. m.0.piece)
        (divided_at q k).left) ps reached.pieces;
    halves = halves_of (left_parts lines p ps) left_half left_half_left (inr left_side);
    known = length-set used p.line true ∙ reached.known;
  }

-- ---- a leaf
-- a reached list without a choice is convex to within rounding
pub leaf_convex : (lines : List Edge) (used : List Bool) (ps : List Piece) → IsReached lines used ps → HasNoChoice lines ps used → IsConvex lines ps
leaf_convex lines used ps reached none = λ i j p q ep eq. pair p q i j ep eq (All-at (IsPiece lines) ps i p reached.pieces ep) (All-at (IsPiece lines) ps j q reached.pieces eq)
  where
    neither_used : (p q : Piece) (i j : ℕ) → slice_get ps i ≡ Some p → slice_get ps j ≡ Some q → IsPiece lines q → slice_get used p.line ≡ Some false → LiesRight lines p q
    neither_used p q i j ep eq hq s =
        let n : length (left_parts lines p ps) ≡ 0 = by_length (length (left_parts lines p ps)) (λ l. none i p ep (s, l)) in
        by_unused lines p q hq (none_left (λ x. (parts_of lines p x).left) ps j q n eq)
      where
        by_length : (n : ℕ) → (0 < n → ⊥) → n ≡ 0
        by_length n f = ⊎_elim (λ e. e) (λ e. absurd (f (omega arith))) (cases_eq n 0)

    from_half : (p q : Piece) (i j : ℕ) → slice_get ps i ≡ Some p → slice_get ps j ≡ Some q → IsPiece lines q → HasHalf lines p.line ps → LiesRight lines p q
    from_half p q i j ep eq hq h =
        ⊎_elim (λ a. by_used_right lines h.0 p q h.1 (All-at (LiesInRight lines h.0) ps i p a ep) (All-at (LiesInRight lines h.0) ps j q a eq) hq)
        (λ a. by_used_left lines h.0 p q h.1 (All-at (LiesInLeft lines h.0) ps i p a ep) (All-at (LiesInLeft lines h.0) ps j q a eq) hq) h.2

    pair : (p q : Piece) (i j : ℕ) → slice_get ps i ≡ Some p → slice_get ps j ≡ Some q → IsPiece lines p → IsPiece lines q → LiesRight lines p q
    pair p q i j ep eq hp hq =
        ⊎_elim (λ s. from_half p q i j ep eq hq (reached.halves p.line s)) (λ s. neither_used p q i j ep eq hq s) (used_or_not used p.line (let k = reached.known in let l = hp.line_in in omega arith))

-- ---- the whole tree
pub tree_convex : (lines : List Edge) → All IsEdge lines → (t : Tree) (ps : List Piece) (used : List Bool) → IsReached lines used ps → Divides lines ps used t → All (IsConvex lines) (leaves t)
tree_convex lines all (Leaf qs) ps used r d = All-cons (IsConvex lines) qs [] (subst (IsConvex lines) (sym d.0) (leaf_convex lines used ps r d.1)) (All-nil (IsConvex lines))
tree_convex lines all (Branch p right left) ps used r d =
    let best = d.0.1 in
    let ok = All-at (IsPiece lines) ps d.0.0 p r.pieces best.stands in
    All-append (IsConvex lines) (leaves right) (leaves left)
    (tree_convex lines all right (right_parts lines p ps) (slice_set used p.line true) (right_reached lines all used ps r p ok) d.1)
    (tree_convex lines all left (left_parts lines p ps) (slice_set used p.line true) (left_reached lines all used ps r p ok) d.2)

-- ---- cover
pub parts_cover : (lines : List Edge) → All IsEdge lines → (p : Piece) → IsPiece lines p
    → (line : ℕ) (side : Facing) (k : ℕ) (ps : List Piece) → All (IsPiece lines) ps
    → cover lines line side k (right_parts lines p ps) + cover lines line side k (left_parts lines p ps)
    ≡ cover lines line side k ps
parts_cover lines all p ok line side k [] h = refl
parts_cover lines all p ok line side k (q ∷ qs) h =
    let hq = All-head (IsPiece lines) q qs h in
    let d = (divided lines p q (may_divide lines all p q ok hq)).cover line side k in
    one (parts_of lines p q).right (parts_of lines p q).left d (parts_cover lines all p ok line side k qs (All-tail (IsPiece lines) q qs h))
  where
    consed : (x : Piece) (xs : List Piece) → cover lines line side k (x ∷ xs) ≡ cover lines line side k (x ∷ []) + cover lines line side k xs
    consed x xs = sum_by-append (λ (q : Piece). cond (covers lines line side k q) 1 0) (x ∷ []) xs

    one : (a b : Option Piece) → cover lines line side k (option_to_list a ++ option_to_list b)
        ≡ cover lines line side k (q ∷ []) → cover lines line side k (right_parts lines p qs)
        + cover lines line side k (left_parts lines p qs) ≡ cover lines line side k qs
        → cover lines line side k (cons_option a (right_parts lines p qs))
        + cover lines line side k (cons_option b (left_parts lines p qs)) ≡ cover lines line side k (q ∷ qs)
    one None None e r = let c = consed q qs in omega arith
    one None (Some y) e r = let c = consed q qs in let y' = consed y (left_parts lines p qs) in omega arith
    one (Some x) None e r = let c = consed q qs in let x' = consed x (right_parts lines p qs) in omega arith
    one (Some x) (Some y) e r = let c = consed q qs in let x' = consed x (right_parts lines p qs) in let y' = consed y (left_parts lines p qs) in let j = consed x (y ∷ []) in omega arith

-- over a whole tree
pub tree_cover : (lines : List Edge) → All IsEdge lines → (t : Tree) (ps : List Piece) (used : List Bool)
    → IsReached lines used ps → Divides lines ps used t → (line : ℕ) (side : Facing) (k : ℕ)
    → cover lines line side k (pieces t) ≡ cover lines line side k ps
tree_cover lines all (Leaf qs) ps used r d line side k = ap (cover lines line side k) d.0
tree_cover lines all (Branch p right left) ps used r d line side k =
    let best = d.0.1 in
    let ok = All-at (IsPiece lines) ps d.0.0 p r.pieces best.stands in
    let a = tree_cover lines all right (right_parts lines p ps) (slice_set used p.line true) (right_reached lines all used ps r p ok) d.1 line side k in
    let b = tree_cover lines all left (left_parts lines p ps) (slice_set used p.line true) (left_reached lines all used ps r p ok) d.2 line side k in
    let c = parts_cover lines all p ok line side k ps r.pieces in
    let s = sum_by-append (λ (q : Piece). cond (covers lines line side k q) 1 0) (pieces right) (pieces left) in
    omega arith

-- ---- the half-planes of a node hold for every piece of the leaves below it
pub own_tree_pieces : (lines : List Edge) → All IsEdge lines → (t : Tree) (ps : List Piece) (used : List Bool) → IsReached lines used ps → Divides lines ps used t → All (IsPiece lines) (pieces t)
own_tree_pieces lines all (Leaf qs) ps used r d = subst (All (IsPiece lines)) (sym d.0) r.pieces
own_tree_pieces lines all (Branch p right left) ps used r d =
    let ok = All-at (IsPiece lines) ps d.0.0 p r.pieces d.0.1.stands in
    All-append (IsPiece lines) (pieces right) (pieces left)
    (own_tree_pieces lines all right (right_parts lines p ps) (slice_set used p.line true) (right_reached lines all used ps r p ok) d.1)
    (own_tree_pieces lines all left (left_parts lines p ps) (slice_set used p.line true) (left_reached lines all used ps r p ok) d.2)

-- what lies on the right of h stays there
pub tree_right : (lines : List Edge) → All IsEdge lines → (h : Piece) (t : Tree) (ps : List Piece) (used : List Bool)
    → IsReached lines used ps → All (LiesInRight lines h) ps → Divides lines ps used t
    → All (LiesInRight lines h) (pieces t)
tree_right lines all h (Leaf qs) ps used r a d = subst (All (LiesInRight lines h)) (sym d.0) a
tree_right lines all h (Branch p right left) ps used r a d =
    let ok = All-at (IsPiece lines) ps d.0.0 p r.pieces d.0.1.stands in
    All-append (LiesInRight lines h) (pieces right) (pieces left)
    (tree_right lines all h right (right_parts lines p ps) (slice_set used p.line true) (right_reached lines all used ps r p ok) (right_half lines all used ps r p ok h a) d.1)
    (tree_right lines all h left (left_parts lines p ps) (slice_set used p.line true) (left_reached lines all used ps r p ok) (left_half lines all used ps r p ok h a) d.2)

-- and on its left
pub tree_left : (lines : List Edge) → All IsEdge lines → (h : Piece) (t : Tree) (ps : List Piece) (used : List Bool)
    → IsReached lines used ps → All (LiesInLeft lines h) ps → Divides lines ps used t
    → All (LiesInLeft lines h) (pieces t)
tree_left lines all h (Leaf qs) ps used r a d = subst (All (LiesInLeft lines h)) (sym d.0) a
tree_left lines all h (Branch p right left) ps used r a d =
    let ok = All-at (IsPiece lines) ps d.0.0 p r.pieces d.0.1.stands in
    All-append (LiesInLeft lines h) (pieces right) (pieces left)
    (tree_left lines all h right (right_parts lines p ps) (slice_set used p.line true) (right_reached lines all used ps r p ok) (right_half_left lines all used ps r p ok h a) d.1)
    (tree_left lines all h left (left_parts lines p ps) (slice_set used p.line true) (left_reached lines all used ps r p ok) (left_half_left lines all used ps r p ok h a) d.2)

-- ---- trees with no line used above
-- a list with no line used is reached
pub first_reached : (lines : List Edge) (ps : List Piece) → All (IsPiece lines) ps → IsReached lines (none_used lines) ps
first_reached lines ps h = record { pieces = h; halves = λ line e. absurd (never_used (length lines) line e); known = unused_length (length lines) }

-- each branch parts the pieces below it
pub tree_parted : (lines : List Edge) → All IsEdge lines → (t : Tree) (ps : List Piece) (used : List Bool) → IsReached lines used ps → Divides lines ps used t → IsParted lines t
tree_parted lines all (Leaf qs) ps used r d = tt
tree_parted lines all (Branch p right left) ps used r d =
    let ok = All-at (IsPiece lines) ps d.0.0 p r.pieces d.0.1.stands in
    let below_right = right_reached lines all used ps r p ok in
    let below_left = left_reached lines all used ps r p ok in (
      tree_right lines all p right (right_parts lines p ps) (slice_set used p.line true) below_right (right_side lines all used ps r p ok) d.1,
      tree_left lines all p left (left_parts lines p ps) (slice_set used p.line true) below_left (left_side lines all used ps r p ok) d.2,
      tree_parted lines all right (right_parts lines p ps) (slice_set used p.line true) below_right d.1,
      tree_parted lines all left (left_parts lines p ps) (slice_set used p.line true) below_left d.2,
    )
