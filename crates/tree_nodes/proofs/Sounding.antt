-- The lists of the tree of the lines are sound.
use Rattle.std.proofs.Common.{◌≡◌, ◌≢◌, refl, sym, ap, ◌∙◌, subst, ℕ, suc, ◌+◌, ◌-◌, ◌≤◌, ◌<◌, ◌⊎◌, inl, inr, ⊎_elim, List, [], ◌∷◌, length, Bool, true, false, Option, Some, None, arith, slice_get, All}
use Rattle.std.specs.Prelude.{slice_set, IfSome, IsTrue, if◌then◌else◌}
use Rattle.std.proofs.lemmas.Bool.{cases_lt, true≢false}
use Rattle.std.proofs.lemmas.Int.{ints}
use Rattle.std.proofs.lemmas.Option.{slice_get_within}
use Rattle.std.proofs.lemmas.List.Elements.{All-nil, All-cons, All-append}
use Rattle.lump_records.specs.declared.records.Vertex.{Vertex}
use Rattle.lump_records.specs.declared.records.Seg.{Seg}
use Rattle.lump_records.specs.declared.records.Sub.{Sub}
use Rattle.lump_records.specs.declared.records.Node.{Node}
use Rattle.tree_pieces.specs.declared.edge.Edge.{Edge}
use Rattle.tree_pieces.specs.declared.edge.Facing.{Facing}
use Rattle.tree_pieces.specs.declared.edge.Facing.TheVariants.{Along, Against}
use Rattle.tree_pieces.specs.declared.piece.Piece.{Piece}
use Rattle.tree_pieces.specs.Plane.{IsEdge}
use Rattle.tree_pieces.specs.Pieces.{no_edge, edge_at, first_end, last_end, same_place, IsPiece, covers}
use Rattle.tree_pieces.specs.Division.{parts_of, right_parts, left_parts, IsPartOf, LiesInRight, LiesInLeft}
use Rattle.tree_pieces.specs.Tree.{Tree, Leaf, Branch, Divides, IsReached, pieces, none_used}
use Rattle.tree_pieces.specs.First.{whole, sides_of, pieces_from, first_pieces}
use Rattle.tree_pieces.specs.Segs.{NamesFirst, first_place, second_place, seg_edge, seg_covers, CoversStep, IsPointOf, RunAlong, HasFields, IsConvexSub}
use Rattle.tree_pieces.specs.Nodes.{IsParting}
use Rattle.tree_pieces.proofs.Lists.{All-at, All-filter_map}
use Rattle.tree_pieces.proofs.Trees.{right_reached, left_reached, may_divide, tree_cover, tree_convex, own_tree_pieces, tree_parted, first_reached}
use Rattle.tree_pieces.proofs.Division.{divided}
use Rattle.tree_nodes.specs.InRange.{Tiles}
use Rattle.tree_nodes.specs.References.{IsNumber, HasPlaces, AreTree, IsChild, subsector}
use Rattle.tree_nodes.specs.TreeLists.{leaf_count, branch_count, child_of, side_number, start_of, end_of, IsSegOf, HasNodes, AreListsOf}
use Rattle.tree_nodes.specs.Tiling.{count_list, total}
use Rattle.tree_nodes.specs.Sound.{IsTreeOfLines, AddsEnds, HaveEnds, IsSound}
use Rattle.tree_nodes.proofs.SegLaws.{seg_points}
use Rattle.tree_nodes.proofs.Children.{among_yes, among_no, once}
use Rattle.tree_nodes.proofs.Counting.{nodes_many, one_leaf_more}
use Rattle.tree_nodes.proofs.Below.{IsLaid}
use Rattle.tree_nodes.proofs.Laying.{StandsAt, counts_total, tiles_from, subs_many, laid}
use Rattle.tree_nodes.proofs.Partings.{tree_partitions, all_by, IsSegIn, seg_at, partings, convex_at}
use Rattle.tree_pieces.proofs.FirstList.{first_right, first_left, index_is}
use Rattle.tree_nodes.proofs.Covering.{same_counts, covers_right, covers_left, covers_step}

-- ---- the sides of pieces exist
abbrev pub HasSide : List Edge → Piece → Type 0
HasSide lines p = (p.side ≡ Along) ⊎ ((p.side ≡ Against) × IsTrue (edge_at lines p.line).has_left)

part_has_side : (lines : List Edge) (p q : Piece) → q.line ≡ p.line → q.side ≡ p.side → HasSide lines p → HasSide lines q
part_has_side lines p q l s h = ⊎_elim (λ a. inl (s ∙ a)) (λ a. inr (s ∙ a.0, ap (λ (n : ℕ). (edge_at lines n).has_left) l ∙ a.1)) h

module _ (lines : List Edge) (all : All IsEdge lines) where
  weaker : {X : Type 0} (o : Option X) (P Q : X → Type 0) → ((x : X) → P x → Q x) → IfSome o P → IfSome o Q
  weaker None P Q f h = tt
  weaker (Some x) P Q f h = f x h

  right_sides : (p : Piece) → IsPiece lines p → (ps : List Piece) → All (IsPiece lines) ps → All (HasSide lines) ps → All (HasSide lines) (right_parts lines p ps)
  right_sides p ok ps is h = All-filter_map (λ q. IsPiece lines q × HasSide lines q) (HasSide lines) (λ q. (parts_of lines p q).right)
      (λ q k. weaker (parts_of lines p q).right (λ x. IsPartOf lines q x × LiesInRight lines p x) (HasSide lines)
      (λ x m. part_has_side lines q x m.0.line m.0.side k.1)
      (divided lines p q (may_divide lines all p q ok k.0)).right)
      ps (λ k d l. (is k d l, h k d l))

  left_sides : (p : Piece) → IsPiece lines p → (ps : List Piece) → All (IsPiece lines) ps → All (HasSide lines) ps → All (HasSide lines) (left_parts lines p ps)
  left_sides p ok ps is h = All-filter_map (λ q. IsPiece lines q × HasSide lines q) (HasSide lines) (λ q. (parts_of lines p q).left)
      (λ q k. weaker (parts_of lines p q).left (λ x. IsPartOf lines q x × LiesInLeft lines p x) (HasSide lines)
      (λ x m. part_has_side lines q x m.0.line m.0.side k.1)
      (divided lines p q (may_divide lines all p q ok k.0)).left)
      ps (λ k d l. (is k d l, h k d l))

  pub tree_sides : (t : Tree) (ps : List Piece) (used : List Bool) → IsReached lines used ps → All (HasSide lines) ps → Divides lines ps used t → All (HasSide lines) (pieces t)
  tree_sides (Leaf qs) ps used r h d = subst (All (HasSide lines)) (sym d.0) h
  tree_sides (Branch p right left) ps used r h d =
      let ok = All-at (IsPiece lines) ps d.0.0 p r.pieces d.0.1.stands in
      All-append (HasSide lines) (pieces right) (pieces left)
      (tree_sides right (right_parts lines p ps) (slice_set used p.line true) (right_reached lines all used ps r p ok) (right_sides p ok ps r.pieces h) d.1)
      (tree_sides left (left_parts lines p ps) (slice_set used p.line true) (left_reached lines all used ps r p ok) (left_sides p ok ps r.pieces h) d.2)

first_sides : (lines : List Edge) (es : List Edge) (n : ℕ) → StandsAt es lines n → All (HasSide lines) (pieces_from n es)
first_sides lines [] n at = All-nil (HasSide lines)
first_sides lines (e ∷ es) n at =
    let z : n ≡ n + 0 = omega arith in
    let g : edge_at lines n ≡ e = index_is lines n no_edge e (ap (slice_get lines) z ∙ at 0 e refl) in
    All-append (HasSide lines) (sides_of n e) (pieces_from (n + 1) es)
    (by_left e.has_left (ap (λ (x : Edge). x.has_left) g))
    (first_sides lines es (n + 1) (λ i x k. let y : n + 1 + i ≡ n + suc i = omega arith in ap (slice_get lines) y
    ∙ at (suc i) x k))
  where
    by_left : (b : Bool) → (edge_at lines n).has_left ≡ b → All (HasSide lines) (if b then (whole n Along ∷ whole n Against ∷ []) else (whole n Along ∷ []))
    by_left true s = All-cons (HasSide lines) (whole n Along) (whole n Against ∷ []) (inl refl) (All-cons (HasSide lines) (whole n Against) [] (inr (refl, s)) (All-nil (HasSide lines)))
    by_left false s = All-cons (HasSide lines) (whole n Along) [] (inl refl) (All-nil (HasSide lines))

-- ---- small facts
same_itself : (v : Vertex) → same_place v v ≡ true
same_itself v = grind (arith, ints)

pub stands_whole : {X : Type 0} (xs : List X) → StandsAt xs xs 0
stands_whole xs = λ k x e. let z : 0 + k ≡ k = omega arith in ap (slice_get xs) z ∙ e

-- ---- children
module _ (nodes : List Node) (subs : List Sub) (lines : List Edge) where
  root_child : (t : Tree) (s n b k : ℕ) → n + branch_count t ≤ k → IsLaid nodes subs lines t s n b → IsChild (length subs) k (child_of t s n)
  root_child (Leaf ps) s n b k l h = inr (s, slice_get_within subs s h.0 h.1, refl)
  root_child (Branch p right left) s n b k l h = inl (omega arith)

  pub record HasChildren (k : ℕ) : Type 0 where
    pub node : Node
    pub stands : slice_get nodes k ≡ Some node
    pub right : IsChild (length subs) k node.right
    pub left : IsChild (length subs) k node.left

  children_at : (t : Tree) (s n b : ℕ) → IsLaid nodes subs lines t s n b → (k : ℕ) → n ≤ k → k < n + branch_count t → HasChildren k
  children_at (Leaf ps) s n b h k lo hi = absurd (omega arith)
  children_at (Branch p right left) s n b h k lo hi =
      ⊎_elim
      (λ l. children_at right s n b h.0 k lo l)
      (λ l. ⊎_elim
      (λ m. children_at left (s + leaf_count right) (n + branch_count right) (b + length (pieces right)) h.1 k l m)
      (λ m.
      let z : k ≡ n + branch_count right + branch_count left = omega arith in
      let is = h.2.1 in
      record {
        node = h.2.0;
        stands = ap (slice_get nodes) z ∙ is.0;
        right = subst (IsChild (length subs) k) (sym is.2) (root_child right s n b k (omega arith) h.0);
        left = subst (IsChild (length subs) k) (sym is.3) (root_child left (s + leaf_count right) (n + branch_count right) (b + length (pieces right)) k (omega arith) h.1);
      })
      (cases_lt k (n + branch_count right + branch_count left)))
      (cases_lt k (n + branch_count right))

root_last : (t : Tree) → 0 < branch_count t → child_of t 0 0 + 1 ≡ branch_count t
root_last (Leaf ps) h = absurd (omega arith)
root_last (Branch p right left) h = omega arith

pub are_tree : (lines : List Edge) (t : Tree) (subs : List Sub) (nodes : List Node) → HasNodes lines t 0 0 nodes
    → IsLaid nodes subs lines t 0 0 0 → length subs ≡ leaf_count t → length subs ≤ 32767 → AreTree subs nodes
are_tree lines t subs nodes has lay many few =
    let nm = nodes_many lines t 0 0 nodes has in
    let o = one_leaf_more t in
    let child : (k : ℕ) → k < length nodes → HasChildren nodes subs lines k = λ k l. children_at nodes subs lines t 0 0 0 lay k (omega arith) (omega arith) in
    record {
      right = λ n node e.
          let c = child n (slice_get_within nodes n node e) in
          let f = c.stands in
          let same : c.node ≡ node = cc in
          subst (λ (x : Node). IsChild (length subs) n x.right) same c.right;
      left = λ n node e.
          let c = child n (slice_get_within nodes n node e) in
          let f = c.stands in
          let same : c.node ≡ node = cc in
          subst (λ (x : Node). IsChild (length subs) n x.left) same c.left;
      subs_once = λ some m l.
          let c = once lines t 0 0 nodes (subsector m) has in
          let r = root_last t (omega arith) in
          let a = among_no (subsector m) (child_of t 0 0) 1 (inr (omega arith)) in
          let b = among_yes (subsector m) (subsector 0) (leaf_count t) (omega arith) (omega arith) in
          let d = among_no (subsector m) 0 (branch_count t) (inr (omega arith)) in
          omega arith;
      nodes_once = λ n l.
          let c = once lines t 0 0 nodes n has in
          let r = root_last t (omega arith) in
          let a = among_no n (child_of t 0 0) 1 (inl (omega arith)) in
          let b = among_no n (subsector 0) (leaf_count t) (inl (omega arith)) in
          let d = among_yes n 0 (branch_count t) (omega arith) (omega arith) in
          omega arith;
      one_sub = λ z. omega arith;
      nodes_few = omega arith;
      subs_few = few;
    }

-- ---- the whole
module _ (lines : List Edge) (drawn vertices : List Vertex) (t : Tree) (segs : List Seg) (subs : List Sub)
    (nodes : List Node) (of : IsTreeOfLines lines t) (lists : AreListsOf lines vertices t segs subs nodes) where
  reached : IsReached lines (none_used lines) (first_pieces lines)
  reached = first_reached lines (first_pieces lines) of.each

  own_pieces : All (IsPiece lines) (pieces t)
  own_pieces = own_tree_pieces lines of.drawn t (first_pieces lines) (none_used lines) reached of.divides

  own_sides : All (HasSide lines) (pieces t)
  own_sides = tree_sides lines of.drawn t (first_pieces lines) (none_used lines) reached (first_sides lines lines 0 (stands_whole lines)) of.divides

  pub lay : IsLaid nodes subs lines t 0 0 0
  lay = laid nodes subs lines t 0 0 0 nodes subs lists.branch_nodes (stands_whole nodes) lists.leaf_counts lists.follow (stands_whole subs)

  seg_of : (i : ℕ) (s : Seg) → slice_get segs i ≡ Some s → IsSegIn lines vertices segs subs nodes (pieces t) lists.leaf_segs own_pieces (pieces t) s (i - 0)
  seg_of i s e =
      let w = slice_get_within segs i s e in
      let m = lists.leaf_segs.many in
      seg_at lines vertices segs subs nodes (pieces t) lists.leaf_segs own_pieces (pieces t) 0 i s (stands_whole (pieces t)) (omega arith) (omega arith) e

  pub fields : All (HasFields lines vertices) segs
  fields = all_by (HasFields lines vertices) segs (λ i s e. (seg_of i s e).is.fields)

  ends_apart : (p : Piece) (s : Seg) → IsSegOf lines vertices p s → IsPiece lines p → first_place lines vertices s ≢ second_place lines vertices s
  ends_apart p s h ok = λ e. true≢false (sym (by_side p.side h.first h.second e) ∙ ok.ends_differ)
    where
      by_side : (f : Facing) → first_place lines vertices s ≡ start_of lines f p → second_place lines vertices s
          ≡ end_of lines f p → first_place lines vertices s ≡ second_place lines vertices s
          → same_place (first_end lines p) (last_end lines p) ≡ true
      by_side Along a b e = ap (same_place (first_end lines p)) (sym b ∙ sym e ∙ a) ∙ same_itself (first_end lines p)
      by_side Against a b e = ap (same_place (first_end lines p)) (sym a ∙ e ∙ b) ∙ same_itself (first_end lines p)

  pub run_along : All (NamesFirst vertices) segs → RunAlong lines vertices segs
  run_along firsts = record {
    right = λ line k h. same_counts (seg_covers lines vertices line 0 k) (covers lines line Along k) segs
        (pieces t) lists.leaf_segs.many (λ i p s ep es.
        covers_right lines vertices line k p s (lists.leaf_segs.each i p s ep es))
        ∙ tree_cover lines of.drawn t (first_pieces lines) (none_used lines) reached of.divides line Along k
        ∙ first_right lines line k h.0 h.1;
    left = λ line k h there. same_counts (seg_covers lines vertices line 1 k) (covers lines line Against k) segs
        (pieces t) lists.leaf_segs.many (λ i p s ep es.
        covers_left lines vertices line k p s (lists.leaf_segs.each i p s ep es))
        ∙ tree_cover lines of.drawn t (first_pieces lines) (none_used lines) reached of.divides line Against k
        ∙ first_left lines line k h.0 h.1 there;
    covering = all_by (CoversStep lines vertices) segs (λ i s e. let g = seg_of i s e in covers_step lines vertices g.piece s g.is g.valid);
    first = all_by (λ s. IsPointOf lines vertices (seg_edge lines vertices s) (first_place lines vertices s)) segs
        (λ i s e. let g = seg_of i s e in (seg_points lines vertices g.piece s g.is g.valid).0);
    second = all_by (λ s. IsPointOf lines vertices (seg_edge lines vertices s) (second_place lines vertices s)) segs
        (λ i s e. let g = seg_of i s e in (seg_points lines vertices g.piece s g.is g.valid).1);
    ends_differ = all_by (λ s. first_place lines vertices s ≢ second_place lines vertices s) segs (λ i s e. let g = seg_of i s e in ends_apart g.piece s g.is g.valid);
    firsts = firsts;
  }

  pub tiles : Tiles 0 subs (length segs)
  tiles =
      let e : total (count_list subs) ≡ length segs = ap total lists.leaf_counts ∙ counts_total t ∙ sym lists.leaf_segs.many in
      tiles_from 0 subs (length segs) lists.follow (omega arith)

  pub tree_of : length subs ≤ 32767 → AreTree subs nodes
  tree_of few = are_tree lines t subs nodes lists.branch_nodes lay (subs_many t subs lists.leaf_counts) few

  pub convex_of : All (IsConvexSub lines vertices segs) subs
  convex_of = all_by (IsConvexSub lines vertices segs) subs (λ m sub e.
      let w = slice_get_within subs m sub e in
      let n = subs_many t subs lists.leaf_counts in
      let c = convex_at lines vertices segs subs nodes (pieces t) lists.leaf_segs own_pieces t 0 0 0 lay
      (stands_whole (pieces t)) (tree_convex lines of.drawn t (first_pieces lines)
      (none_used lines) reached of.divides) m (omega arith) (omega arith) in
      let f = c.stands in
      let same : c.sub ≡ sub = cc in
      subst (IsConvexSub lines vertices segs) same c.convex)

  pub partings_of : length subs ≤ 32767 → All (IsParting lines vertices segs subs nodes) nodes
  partings_of few = all_by (IsParting lines vertices segs subs nodes) nodes (λ k node e.
      let w = slice_get_within nodes k node e in
      let m = nodes_many lines t 0 0 nodes lists.branch_nodes in
      let n = subs_many t subs lists.leaf_counts in
      let o = one_leaf_more t in
      let c = partings lines vertices segs subs nodes (pieces t) lists.leaf_segs own_pieces t 0 0 0 (omega arith) lay
      (stands_whole (pieces t)) (tree_partitions lines of.drawn t (first_pieces lines)
      (none_used lines) reached of.divides) (tree_parted lines of.drawn t (first_pieces lines)
      (none_used lines) reached of.divides) k (omega arith) (omega arith) in
      let f = c.stands in
      let same : c.node ≡ node = cc in
      subst (IsParting lines vertices segs subs nodes) same c.parts)

  pub places_of : length lines ≤ 32767 → HaveEnds vertices segs → All (HasPlaces lines vertices) segs
  places_of few ends = all_by (HasPlaces lines vertices) segs (λ i s e.
      let g = seg_of i s e in
      let n = All-at (λ (s : Seg). IsNumber (length vertices) s.first × IsNumber (length vertices) s.second) segs i s ends e in
      let l = g.is.line in
      let v = g.valid.line_in in
      record {
        first = n.0;
        second = n.1;
        line = (omega arith, omega arith);
        side = ⊎_elim
            (λ a. inl (g.is.side ∙ ap side_number a))
            (λ a. inr (g.is.side ∙ ap side_number a.0, ap (λ (k : ℕ). (edge_at lines k).has_left) l ∙ a.1))
            (All-at (HasSide lines) (pieces t) (i - 0) g.piece own_sides g.stands);
      })

  -- the lists of the tree of the lines are sound, where their numbers are small, the segs name the first vertices at their places and each added one is an end
  pub sound : length lines ≤ 32767 → length subs ≤ 32767 → All (NamesFirst vertices) segs → HaveEnds vertices segs → AddsEnds drawn vertices segs → IsSound lines drawn vertices segs subs nodes
  sound few few_subs firsts ends added = record {
    added_ends = added;
    places = places_of few ends;
    tiles = tiles;
    tree = tree_of few_subs;
    run_along = run_along firsts;
    fields = fields;
    convex = convex_of;
    partings = partings_of few_subs;
  }
