-- Each node parts the segs below it and has their least boxes, and each subsector is convex to within rounding.
use Rattle.std.proofs.Common.{◌≡◌, refl, sym, ap, ◌∙◌, subst, ℕ, suc, ◌+◌, ◌-◌, ◌≤◌, ◌<◌, ◌⊎◌, inl, inr, ⊎_elim, List, [], ◌∷◌, ◌++◌, length, Bool, true, Some, arith, slice_get, All}
use Rattle.std.specs.Prelude.{slice_set}
use Rattle.std.proofs.lemmas.Bool.{cases_lt}
use Rattle.std.proofs.lemmas.List.Elements.{All-nil, All-cons, All-head}
use Rattle.std.proofs.lemmas.Option.{slice_get_within}
use Rattle.lump_records.specs.declared.records.Vertex.{Vertex}
use Rattle.lump_records.specs.declared.records.Seg.{Seg}
use Rattle.lump_records.specs.declared.records.Sub.{Sub}
use Rattle.lump_records.specs.declared.records.Node.{Node}
use Rattle.lump_records.specs.declared.records.Bounds.{Bounds}
use Rattle.lump_records.specs.declared.plane.Ray.{Ray}
use Rattle.tree_pieces.specs.declared.edge.Edge.{Edge}
use Rattle.tree_pieces.specs.declared.edge.Facing.{Facing}
use Rattle.tree_pieces.specs.declared.edge.Facing.TheVariants.{Along, Against}
use Rattle.tree_pieces.specs.declared.piece.Piece.{Piece}
use Rattle.tree_pieces.specs.Plane.{IsEdge}
use Rattle.tree_pieces.specs.Pieces.{ray_of, first_end, last_end, IsPiece}
use Rattle.tree_pieces.specs.Division.{right_parts, left_parts, LiesInRight, LiesInLeft}
use Rattle.tree_pieces.specs.Convex.{IsConvex}
use Rattle.tree_pieces.specs.Tree.{Tree, Leaf, Branch, Divides, IsReached, IsParted, pieces, leaves}
use Rattle.tree_pieces.specs.Segs.{first_place, second_place, SegLiesRight, SegLiesLeft, IsConvexSub}
use Rattle.tree_pieces.specs.Nodes.{Below, IsLeastBox, node_ray, IsEndBelow, IsParting}
use Rattle.tree_pieces.proofs.Lists.{All-at}
use Rattle.tree_pieces.proofs.Trees.{right_reached, left_reached}
use Rattle.tree_nodes.specs.TreeLists.{leaf_count, branch_count, child_of, start_of, end_of, IsSegOf, AreSegsOf, IsEndOf}
use Rattle.tree_nodes.proofs.SegLaws.{seg_right, seg_left, seg_convex}
use Rattle.tree_nodes.proofs.Below.{at_place, IsLaid, below_range, below_there}
use Rattle.tree_nodes.proofs.Laying.{StandsAt, stands_left, stands_right}
use Rattle.tree_nodes.proofs.CornerLemmas.{same_box}

-- the partitions of a tree are pieces
abbrev pub HavePieces : List Edge → Tree → Type 0
HavePieces lines (Leaf ps) = Unit {0}
HavePieces lines (Branch p right left) = IsPiece lines p × HavePieces lines right × HavePieces lines left

pub tree_partitions : (lines : List Edge) → All IsEdge lines → (t : Tree) (ps : List Piece) (used : List Bool) → IsReached lines used ps → Divides lines ps used t → HavePieces lines t
tree_partitions lines all (Leaf qs) ps used r d = tt
tree_partitions lines all (Branch p right left) ps used r d =
    let ok = All-at (IsPiece lines) ps d.0.0 p r.pieces d.0.1.stands in (
      ok,
      tree_partitions lines all right (right_parts lines p ps) (slice_set used p.line true) (right_reached lines all used ps r p ok) d.1,
      tree_partitions lines all left (left_parts lines p ps) (slice_set used p.line true) (left_reached lines all used ps r p ok) d.2,
    )

-- what holds at each place
pub all_by : {X : Type 0} (P : X → Type 0) (xs : List X) → ((k : ℕ) (x : X) → slice_get xs k ≡ Some x → P x) → All P xs
all_by P [] f = All-nil P
all_by P (x ∷ xs) f = All-cons P x xs (f 0 x refl) (all_by P xs (λ k y e. f (suc k) y e))

module _ (lines : List Edge) (vertices : List Vertex) (segs : List Seg) (subs : List Sub) (nodes : List Node)
    (whole : List Piece) (as_segs : AreSegsOf lines vertices whole segs) (ok : All (IsPiece lines) whole) where
  pub record IsSegIn (ps : List Piece) (s : Seg) (j : ℕ) : Type 0 where
    pub piece : Piece
    pub stands : slice_get ps j ≡ Some piece
    pub is : IsSegOf lines vertices piece s
    pub valid : IsPiece lines piece

  -- a seg in the range of some pieces is the seg of one of them
  pub seg_at : (ps : List Piece) (b i : ℕ) (s : Seg) → StandsAt ps whole b → b ≤ i → i < b + length ps → slice_get segs i ≡ Some s → IsSegIn ps s (i - b)
  seg_at ps b i s at lo hi e =
      let a = at_place ps (i - b) (omega arith) in
      let z : i ≡ b + (i - b) = omega arith in
      let w : slice_get whole i ≡ Some a.0 = ap (slice_get whole) z ∙ at (i - b) a.0 a.1 in
      record { piece = a.0; stands = a.1; is = as_segs.each i a.0 s w e; valid = All-at (IsPiece lines) whole i a.0 ok w }

  first_sided : (q : Piece) (s : Seg) → IsSegOf lines vertices q s → (v : Vertex) → v ≡ first_end lines q → (v ≡ first_place lines vertices s) ⊎ (v ≡ second_place lines vertices s)
  first_sided q s h v e = by_side q.side h.first h.second
    where
      by_side : (f : Facing) → first_place lines vertices s ≡ start_of lines f q → second_place lines vertices s
          ≡ end_of lines f q → (v ≡ first_place lines vertices s) ⊎ (v ≡ second_place lines vertices s)
      by_side Along a b = inl (e ∙ sym a)
      by_side Against a b = inr (e ∙ sym b)

  last_sided : (q : Piece) (s : Seg) → IsSegOf lines vertices q s → (v : Vertex) → v ≡ last_end lines q → (v ≡ first_place lines vertices s) ⊎ (v ≡ second_place lines vertices s)
  last_sided q s h v e = by_side q.side h.first h.second
    where
      by_side : (f : Facing) → first_place lines vertices s ≡ start_of lines f q → second_place lines vertices s
          ≡ end_of lines f q → (v ≡ first_place lines vertices s) ⊎ (v ≡ second_place lines vertices s)
      by_side Along a b = inr (e ∙ sym b)
      by_side Against a b = inl (e ∙ sym a)

  sided_back : (q : Piece) (s : Seg) → IsSegOf lines vertices q s → (v : Vertex)
      → ((v ≡ first_place lines vertices s) ⊎ (v ≡ second_place lines vertices s)) → (v ≡ first_end lines q)
      ⊎ (v ≡ last_end lines q)
  sided_back q s h v o = by_side q.side h.first h.second
    where
      by_side : (f : Facing) → first_place lines vertices s ≡ start_of lines f q → second_place lines vertices s ≡ end_of lines f q → (v ≡ first_end lines q) ⊎ (v ≡ last_end lines q)
      by_side Along a b = ⊎_elim (λ e. inl (e ∙ a)) (λ e. inr (e ∙ b)) o
      by_side Against a b = ⊎_elim (λ e. inr (e ∙ a)) (λ e. inl (e ∙ b)) o

  module _ (t : Tree) (s n b : ℕ) (few : n + branch_count t ≤ 32768) (h : IsLaid nodes subs lines t s n b) (at : StandsAt (pieces t) whole b) where
    pub ends_below : (v : Vertex) → IsEndOf lines (pieces t) v → IsEndBelow lines vertices segs subs nodes (child_of t s n) v
    ends_below v o =
        let w = slice_get_within (pieces t) o.0 o.1 o.2 in
        let e = at o.0 o.1 o.2 in
        let l = slice_get_within whole (b + o.0) o.1 e in
        let m = as_segs.many in
        let g = at_place segs (b + o.0) (omega arith) in
        let is = as_segs.each (b + o.0) o.1 g.0 e g.1 in
        (b + o.0, g.0, below_there nodes subs lines t s n b (b + o.0) few h (omega arith) (omega arith), g.1, ⊎_elim (first_sided o.1 g.0 is v) (last_sided o.1 g.0 is v) o.3)

    pub ends_back : (v : Vertex) → IsEndBelow lines vertices segs subs nodes (child_of t s n) v → IsEndOf lines (pieces t) v
    ends_back v o =
        let r = below_range nodes subs lines t s n b o.0 few h o.2 in
        let g = seg_at (pieces t) b o.0 o.1 at r.0 r.1 o.3 in
        (o.0 - b, g.piece, g.stands, sided_back g.piece o.1 g.is v o.4)

    pub box_below : (c : Bounds) (child : ℕ) → child ≡ child_of t s n → IsLeastBox c (IsEndOf lines (pieces t)) → IsLeastBox c (IsEndBelow lines vertices segs subs nodes child)
    box_below c child e k =
        subst (λ (x : ℕ). IsLeastBox c (IsEndBelow lines vertices segs subs nodes x)) (sym e)
        (same_box c (IsEndOf lines (pieces t)) (IsEndBelow lines vertices segs subs nodes
        (child_of t s n)) ends_below ends_back k)

    pub right_below : (p : Piece) (r : Ray) (child : ℕ) → r ≡ ray_of lines p → child ≡ child_of t s n
        → All (LiesInRight lines p) (pieces t) → (i : ℕ) (g : Seg) → Below nodes subs child i → slice_get segs i
        ≡ Some g → SegLiesRight lines vertices r g
    right_below p r child re ce l i g w e =
        let k = below_range nodes subs lines t s n b i few h (subst (λ (x : ℕ). Below nodes subs x i) ce w) in
        let q = seg_at (pieces t) b i g at k.0 k.1 e in
        subst (λ (x : Ray). SegLiesRight lines vertices x g) (sym re) (seg_right lines vertices p q.piece g q.is q.valid (All-at (LiesInRight lines p) (pieces t) (i - b) q.piece l q.stands))

    pub left_below : (p : Piece) (r : Ray) (child : ℕ) → r ≡ ray_of lines p → child ≡ child_of t s n
        → All (LiesInLeft lines p) (pieces t) → (i : ℕ) (g : Seg) → Below nodes subs child i → slice_get segs i ≡ Some g
        → SegLiesLeft lines vertices r g
    left_below p r child re ce l i g w e =
        let k = below_range nodes subs lines t s n b i few h (subst (λ (x : ℕ). Below nodes subs x i) ce w) in
        let q = seg_at (pieces t) b i g at k.0 k.1 e in
        subst (λ (x : Ray). SegLiesLeft lines vertices x g) (sym re) (seg_left lines vertices p q.piece g q.is q.valid (All-at (LiesInLeft lines p) (pieces t) (i - b) q.piece l q.stands))

  -- a node at the number k that parts the segs below it
  pub record PartsAt (k : ℕ) : Type 0 where
    pub node : Node
    pub stands : slice_get nodes k ≡ Some node
    pub parts : IsParting lines vertices segs subs nodes node

  pub partings : (t : Tree) (s n b : ℕ) → n + branch_count t ≤ 32768 → IsLaid nodes subs lines t s n b
      → StandsAt (pieces t) whole b → HavePieces lines t → IsParted lines t → (k : ℕ) → n ≤ k → k < n + branch_count t
      → PartsAt k
  partings (Leaf ps) s n b few h at own parted k lo hi = absurd (omega arith)
  partings (Branch p right left) s n b few h at own parted k lo hi =
      let at_right : StandsAt (pieces right) whole b = stands_left (pieces right) (pieces left) whole b at in
      let at_left : StandsAt (pieces left) whole (b + length (pieces right)) = stands_right (pieces right) (pieces left) whole b (b + length (pieces right)) refl at in
      let node = h.2.0 in
      let is = h.2.1 in
      let few_right : n + branch_count right ≤ 32768 = omega arith in
      let few_left : n + branch_count right + branch_count left ≤ 32768 = omega arith in
      ⊎_elim
      (λ l. partings right s n b few_right h.0 at_right own.1 parted.2 k lo l)
      (λ l. ⊎_elim
      (λ m. partings left (s + leaf_count right) (n + branch_count right) (b + length (pieces right)) few_left h.1 at_left own.2 parted.3 k l m)
      (λ m.
      let z : k ≡ n + branch_count right + branch_count left = omega arith in
      record {
        node = node;
        stands = ap (slice_get nodes) z ∙ is.0;
        parts = record {
          along = (p.line, p.side, own.0.line_in, is.1);
          on_right = right_below right s n b few_right h.0 at_right p (node_ray node) node.right is.1 is.2 parted.0;
          on_left = left_below left (s + leaf_count right) (n + branch_count right) (b + length (pieces right)) few_left h.1 at_left p (node_ray node) node.left is.1 is.3 parted.1;
          right_box = box_below right s n b few_right h.0 at_right node.right_box node.right is.2 is.4;
          left_box = box_below left (s + leaf_count right) (n + branch_count right) (b + length (pieces right)) few_left h.1 at_left node.left_box node.left is.3 is.5;
        };
      })
      (cases_lt k (n + branch_count right + branch_count left)))
      (cases_lt k (n + branch_count right))

  -- a subsector at the number m that is convex
  pub record ConvexAt (m : ℕ) : Type 0 where
    pub sub : Sub
    pub stands : slice_get subs m ≡ Some sub
    pub convex : IsConvexSub lines vertices segs sub

  leaf_at : (ps : List Piece) (s b : ℕ) (sub : Sub) → slice_get subs s ≡ Some sub → sub.first ≡ b → sub.count
      ≡ length ps → StandsAt ps whole b → IsConvex lines ps → IsConvexSub lines vertices segs sub
  leaf_at ps s b sub e f c at convex = λ i j g k hi hj gi gj.
      let lo = hi.0 in
      let up = hi.1 in
      let lo' = hj.0 in
      let up' = hj.1 in
      let x = seg_at ps b i g at (omega arith) (omega arith) gi in
      let y = seg_at ps b j k at (omega arith) (omega arith) gj in
      seg_convex lines vertices x.piece y.piece g k x.is y.is (convex (i - b) (j - b) x.piece y.piece x.stands y.stands)

  pub convex_at : (t : Tree) (s n b : ℕ) → IsLaid nodes subs lines t s n b → StandsAt (pieces t) whole b → All (IsConvex lines) (leaves t) → (m : ℕ) → s ≤ m → m < s + leaf_count t → ConvexAt m
  convex_at (Leaf ps) s n b h at all m lo hi =
      let z : m ≡ s = omega arith in
      record { sub = h.0; stands = ap (slice_get subs) z ∙ h.1; convex = leaf_at ps s b h.0 h.1 h.2 h.3 at (All-head (IsConvex lines) ps [] all) }
  convex_at (Branch p right left) s n b h at all m lo hi =
      let at_right : StandsAt (pieces right) whole b = stands_left (pieces right) (pieces left) whole b at in
      let at_left : StandsAt (pieces left) whole (b + length (pieces right)) = stands_right (pieces right) (pieces left) whole b (b + length (pieces right)) refl at in
      ⊎_elim
      (λ l. convex_at right s n b h.0 at_right (all_left (leaves right) (leaves left) all) m lo l)
      (λ l. convex_at left (s + leaf_count right) (n + branch_count right) (b + length (pieces right)) h.1 at_left (all_right (leaves right) (leaves left) all) m l (omega arith))
      (cases_lt m (s + leaf_count right))
    where
      all_left : (xs ys : List (List Piece)) → All (IsConvex lines) (xs ++ ys) → All (IsConvex lines) xs
      all_left [] ys h = All-nil (IsConvex lines)
      all_left (x ∷ xs) ys h = All-cons (IsConvex lines) x xs (All-head (IsConvex lines) x (xs ++ ys) h) (all_left xs ys (λ k d l. h (suc k) d (omega arith)))

      all_right : (xs ys : List (List Piece)) → All (IsConvex lines) (xs ++ ys) → All (IsConvex lines) ys
      all_right [] ys h = h
      all_right (x ∷ xs) ys h = all_right xs ys (λ k d l. h (suc k) d (omega arith))
