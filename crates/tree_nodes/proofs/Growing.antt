-- One step of the recursion: a leaf, a node over two grown trees, and why it stops.
use Rattle.std.proofs.Common.{◌≡◌, refl, sym, ap, ◌∙◌, subst, ℕ, zero, suc, ◌+◌, ◌-◌, ◌<◌, ◌≤◌, List, [], ◌∷◌, ◌++◌, append_assoc, length, Some, Bool, true, false, arith, slice_get, All, Result, Ok, Err, IfOk, IfErr}
use Rattle.std.specs.Prelude.{slice_set, filter_map, Option, None}
use Rattle.std.specs.List.{cons_option}
use Rattle.std.proofs.lemmas.List.{length-append}
use Rattle.lump_records.specs.declared.records.Node.{Node}
use Rattle.lump_records.specs.declared.records.Bounds.{Bounds}
use Rattle.tree_pieces.specs.declared.edge.Edge.{Edge}
use Rattle.tree_pieces.specs.declared.piece.Piece.{Piece}
use Rattle.tree_pieces.specs.Division.{right_parts, left_parts, parts_of}
use Rattle.tree_pieces.specs.Tree.{HasNoChoice, Tree, Leaf, Branch, Divides, pieces, counts, leaves, depth, IsReached}
use Rattle.tree_pieces.specs.Pieces.{IsPiece}
use Rattle.tree_pieces.specs.Plane.{IsEdge}
use Rattle.tree_pieces.specs.Nodes.{IsLeastBox}
use Rattle.tree_pieces.proofs.Lists.{All-at}
use Rattle.tree_pieces.proofs.Choice.{one_tree, one_best}
use Rattle.tree_pieces.proofs.Trees.{right_reached, left_reached}
use Rattle.tree_nodes.specs.InRange.{greatest_number}
use Rattle.tree_nodes.specs.TreeLists.{leaf_count, branch_count, child_of, IsEndOf, HasNodes}
use Rattle.tree_nodes.specs.Placed.{Waiting}
use Rattle.tree_nodes.specs.Growth.{Lists, IsListStep, IsLeafStep, IsPartedStep, IsGrown, IsRefused, IsDivision, IsLeafPut, IsLeafRefused, IsNodePut}
use Rattle.tree_nodes.specs.declared.error.TreeError.{TreeError}
use Rattle.tree_nodes.specs.declared.error.TreeError.TheVariants.{OutOfMemory, NothingToBuild, TooManyVertices, TooManySegs, TooManySubsectors, TooDeep}
use Rattle.tree_nodes.specs.declared.growth.Child.{Child}
use Rattle.tree_nodes.specs.declared.step.Step.{Step}
use Rattle.tree_nodes.specs.declared.step.Step.TheVariants.{Leaf as StepLeaf, Parts as StepParts}
use Rattle.tree_nodes.proofs.Counting.{counts_append, counts_many, nodes_many, one_leaf_more, leaves_many}
use Rattle.tree_nodes.proofs.Filling.{right_some}
use Rattle.tree_nodes.proofs.CornerLemmas.{joined_pieces}

append_nil : {X : Type 0} (xs : List X) → xs ≡ xs ++ []
append_nil [] = refl
append_nil (x ∷ xs) = ap (λ l. x ∷ l) (append_nil xs)

-- ---- a leaf
module _ (lines : List Edge) (ps : List Piece) (used : List Bool) (none : HasNoChoice lines ps used) where
  -- the one tree of a list without a choice is a leaf
  only_leaf : (Q : Tree → Type 0) → Q (Leaf ps) → (t : Tree) → Divides lines ps used t → Q t
  only_leaf Q q (Leaf qs) d = subst (λ (x : List Piece). Q (Leaf x)) (sym d.0) q
  only_leaf Q q (Branch p r l) d = absurd (none d.0.0 p d.0.1.stands d.0.1.candidate)

  pub leaf_grown : (room : ℕ) (old new : Lists) (child : Child) → IsLeafPut lines ps old new child → IsGrown lines ps used room old new child
  leaf_grown room old new child h =
      record {
        tree = Leaf ps;
        divides = (refl, none);
        segs = h.segs;
        sizes = h.sizes;
        below = [];
        nodes = h.nodes ∙ append_nil old.nodes;
        has_nodes = refl;
        number = h.number;
        bounds = h.bounds;
        shallow = omega arith;
        few_segs = h.few_segs;
        few_sizes = h.few_sizes;
      }

  pub leaf_refused : (room : ℕ) (old : Lists) (e : TreeError) → IsLeafRefused ps old e → IsRefused lines ps used room old e
  leaf_refused room old OutOfMemory h = tt
  leaf_refused room old NothingToBuild h = h
  leaf_refused room old TooManyVertices h = h
  leaf_refused room old TooManySegs h = only_leaf (λ t. greatest_number < length old.segs + length (pieces t)) h
  leaf_refused room old TooManySubsectors h = only_leaf (λ t. greatest_number < length old.sizes + length (leaves t)) (omega arith)
  leaf_refused room old TooDeep h = absurd h

-- a mark taken back
pub restored : (bs : List Bool) (k : ℕ) → slice_get bs k ≡ Some false → slice_set (slice_set bs k true) k false ≡ bs
restored [] k e = refl
restored (b ∷ bs) zero e = let s : b ≡ false = cc in ap (λ (x : Bool). x ∷ bs) (sym s)
restored (b ∷ bs) (suc k) e = ap (λ (xs : List Bool). b ∷ xs) (restored bs k e)

-- a list of parts is no longer than the list
kept_most : {X Y : Type 0} (f : X → Option Y) (xs : List X) → length (filter_map f xs) ≤ length xs
kept_most f [] = omega arith
kept_most {X} {Y} f (x ∷ xs) = by_head (f x) (kept_most f xs)
  where
    by_head : (o : Option Y) → length (filter_map f xs) ≤ length xs → length (cons_option o (filter_map f xs)) ≤ length (x ∷ xs)
    by_head None h = omega arith
    by_head (Some y) h = omega arith

-- ---- over a division
module _ (lines : List Edge) (ps : List Piece) (used : List Bool) (p : Piece) (right left : List Piece) (d : IsDivision lines ps used p right left) where
  -- a tree of a list that is divided is a branch of the partition
  by_branch : (Q : Tree → Type 0) → ((r l : Tree) → Divides lines right (slice_set used p.line true) r
      → Divides lines left (slice_set used p.line true) l → Q (Branch p r l)) → (t : Tree) → Divides lines ps used t
      → Q t
  by_branch Q f (Leaf qs) h = absurd (h.1 d.place p d.best.stands d.best.candidate)
  by_branch Q f (Branch q r l) h =
      let e : q ≡ p = one_best lines ps used h.0.0 d.place q p h.0.1 d.best in
      let a : Divides lines (right_parts lines p ps) (slice_set used p.line true) r = subst (λ (x : Piece). Divides lines (right_parts lines x ps) (slice_set used x.line true) r) e h.1 in
      let b : Divides lines (left_parts lines p ps) (slice_set used p.line true) l = subst (λ (x : Piece). Divides lines (left_parts lines x ps) (slice_set used x.line true) l) e h.2 in
      subst (λ (x : Piece). Q (Branch x r l)) (sym e)
      (f r l (subst (λ (x : List Piece). Divides lines x (slice_set used p.line true) r) (sym d.right_is) a)
      (subst (λ (x : List Piece). Divides lines x (slice_set used p.line true) l) (sym d.left_is) b))

  module _ (all : All IsEdge lines) (reached : IsReached lines used ps) where
    pub partition_is : IsPiece lines p
    partition_is = All-at (IsPiece lines) ps d.place p reached.pieces d.best.stands

    pub right_side_reached : IsReached lines (slice_set used p.line true) right
    right_side_reached = subst (IsReached lines (slice_set used p.line true)) (sym d.right_is) (right_reached lines all used ps reached p partition_is)

    pub left_side_reached : IsReached lines (slice_set used p.line true) left
    left_side_reached = subst (IsReached lines (slice_set used p.line true)) (sym d.left_is) (left_reached lines all used ps reached p partition_is)

    pub right_side_some : 0 < length right
    right_side_some = let h = right_some lines all p partition_is ps d.place d.best.stands in let e = ap length d.right_is in omega arith

  pub left_side_some : 0 < length left
  left_side_some = let h = d.best.candidate.1 in let e = ap length d.left_is in omega arith

  pub right_side_few : length right ≤ length ps
  right_side_few = let h = kept_most (λ (q : Piece). (parts_of lines p q).right) ps in let e = ap length d.right_is in omega arith

  pub left_side_few : length left ≤ length ps
  left_side_few = let h = kept_most (λ (q : Piece). (parts_of lines p q).left) ps in let e = ap length d.left_is in omega arith

  pub line_free : slice_get used p.line ≡ Some false
  line_free = d.best.candidate.0

  -- ---- why it stops
  pub deep_here : (room : ℕ) (old : Lists) → room ≡ 0 → IsRefused lines ps used room old TooDeep
  deep_here room old z = by_branch (λ t. room < depth t) (λ r l x y. omega arith)

  pub refused_right : (room : ℕ) (old : Lists) (e : TreeError) → IsRefused lines right (slice_set used p.line true) (room - 1) old e → IsRefused lines ps used room old e
  refused_right room old OutOfMemory h = tt
  refused_right room old NothingToBuild h = h
  refused_right room old TooManyVertices h = h
  refused_right room old TooManySegs h = by_branch (λ t. greatest_number < length old.segs + length (pieces t)) (λ r l x y. let k = h r x in let a = length-append (pieces r) (pieces l) in omega arith)
  refused_right room old TooManySubsectors h =
      by_branch (λ t. greatest_number < length old.sizes + length (leaves t))
      (λ r l x y. let k = h r x in let a = length-append (leaves r) (leaves l) in omega arith)
  refused_right room old TooDeep h = by_branch (λ t. room < depth t) (λ r l x y. let k = h r x in omega arith)

  module _ (room : ℕ) (old mid : Lists) (on_right : Child) (g : IsGrown lines right (slice_set used p.line true) (room - 1) old mid on_right) where
    same_right : (r : Tree) → Divides lines right (slice_set used p.line true) r → r ≡ g.tree
    same_right r x = one_tree lines r g.tree right (slice_set used p.line true) x g.divides

    segs_mid : length mid.segs ≡ length old.segs + length (pieces g.tree)
    segs_mid = ap length g.segs ∙ length-append old.segs (pieces g.tree)

    sizes_mid : length mid.sizes ≡ length old.sizes + leaf_count g.tree
    sizes_mid = ap length g.sizes ∙ length-append old.sizes (counts g.tree) ∙ ap (λ (n : ℕ). length old.sizes + n) (counts_many g.tree)

    nodes_mid : length mid.nodes ≡ length old.nodes + branch_count g.tree
    nodes_mid = ap length g.nodes ∙ length-append old.nodes g.below ∙ ap (λ (n : ℕ). length old.nodes + n) (nodes_many lines g.tree (length old.sizes) (length old.nodes) g.below g.has_nodes)

    -- one leaf more than nodes, so there are never more nodes than leaves
    pub fewer_mid : length old.nodes ≤ length old.sizes → length mid.nodes ≤ length mid.sizes
    fewer_mid h = let a = sizes_mid in let b = nodes_mid in let c = one_leaf_more g.tree in omega arith

    pub refused_left : (e : TreeError) → IsRefused lines left (slice_set used p.line true) (room - 1) mid e → IsRefused lines ps used room old e
    refused_left OutOfMemory h = tt
    refused_left NothingToBuild h = h
    refused_left TooManyVertices h = h
    refused_left TooManySegs h =
        by_branch (λ t. greatest_number < length old.segs + length (pieces t))
        (λ r l x y. let k = h l y in let a = length-append (pieces r) (pieces l) in let b =
        ap (λ (t : Tree). length (pieces t)) (same_right r x) in let c = segs_mid in omega arith)
    refused_left TooManySubsectors h =
        by_branch (λ t. greatest_number < length old.sizes + length (leaves t))
        (λ r l x y. let k = h l y in let a = length-append (leaves r) (leaves l) in let b =
        ap (λ (t : Tree). length (leaves t)) (same_right r x) in let c = sizes_mid in let m =
        leaves_many g.tree in omega arith)
    refused_left TooDeep h = by_branch (λ t. room < depth t) (λ r l x y. let k = h l y in omega arith)

    -- ---- a node
    module _ (end : Lists) (on_left : Child) (h : IsGrown lines left (slice_set used p.line true) (room - 1) mid end on_left) where
      -- there is a number for the node
      pub nodes_few : length old.nodes ≤ length old.sizes → length end.nodes < 32768
      nodes_few few =
          let a = fewer_mid few in
          let b = ap length h.nodes ∙ length-append mid.nodes h.below in
          let c = nodes_many lines h.tree (length mid.sizes) (length mid.nodes) h.below h.has_nodes in
          let e = ap length h.sizes ∙ length-append mid.sizes (counts h.tree) in
          let f = counts_many h.tree in
          let o = one_leaf_more h.tree in
          let k = h.few_sizes in
          omega arith

      end_nodes : length end.nodes ≡ length old.nodes + branch_count g.tree + branch_count h.tree
      end_nodes =
          let a = nodes_mid in
          let b = ap length h.nodes ∙ length-append mid.nodes h.below in
          let c = nodes_many lines h.tree (length mid.sizes) (length mid.nodes) h.below h.has_nodes in
          omega arith

      left_nodes : HasNodes lines h.tree (length old.sizes + leaf_count g.tree) (length old.nodes + branch_count g.tree) h.below
      left_nodes = subst (λ (s : ℕ). HasNodes lines h.tree s (length old.nodes + branch_count g.tree) h.below) sizes_mid
          (subst (λ (n : ℕ). HasNodes lines h.tree (length mid.sizes) n h.below) nodes_mid h.has_nodes)

      left_number : on_left.number ≡ child_of h.tree (length old.sizes + leaf_count g.tree) (length old.nodes + branch_count g.tree)
      left_number = h.number ∙ ap (λ (s : ℕ). child_of h.tree s (length mid.nodes)) sizes_mid ∙ ap (child_of h.tree (length old.sizes + leaf_count g.tree)) nodes_mid

      pub node_grown : (new : Lists) (child : Child) → 0 < room → IsNodePut lines p on_right on_left end new child → IsGrown lines ps used room old new child
      node_grown new child some put =
          let a = g.shallow in
          let b = h.shallow in
          record {
            tree = Branch p g.tree h.tree;
            divides = (
              (d.place, d.best),
              subst (λ (x : List Piece).
                  Divides lines x (slice_set used p.line true) g.tree) d.right_is g.divides,
              subst (λ (x : List Piece). Divides lines x (slice_set used p.line true) h.tree) d.left_is h.divides,
            );
            segs = put.segs ∙ h.segs ∙ ap (λ (x : List Piece). x ++ pieces h.tree) g.segs ∙ append_assoc old.segs (pieces g.tree) (pieces h.tree);
            sizes = put.sizes ∙ h.sizes ∙ ap (λ (x : List ℕ). x ++ counts h.tree) g.sizes
                ∙ append_assoc old.sizes (counts g.tree) (counts h.tree)
                ∙ ap (λ (x : List ℕ). old.sizes ++ x) (sym (counts_append (leaves g.tree) (leaves h.tree)));
            below = g.below ++ h.below ++ put.node ∷ [];
            nodes = put.nodes ∙ ap (λ (x : List Node). x ++ put.node ∷ [])
                (h.nodes ∙ ap (λ (x : List Node). x ++ h.below) g.nodes ∙ append_assoc old.nodes g.below h.below)
                ∙ append_assoc old.nodes (g.below ++ h.below) (put.node ∷ []);
            has_nodes = (
              g.below,
              h.below,
              put.node,
              refl,
              g.has_nodes,
              left_nodes,
              put.along,
              put.right_is ∙ g.number,
              put.left_is ∙ left_number,
              subst (λ (b : Bounds). IsLeastBox b (IsEndOf lines (pieces g.tree)))
                  (sym put.right_box) g.bounds,
              subst (λ (b : Bounds). IsLeastBox b (IsEndOf lines (pieces h.tree)))
                  (sym put.left_box) h.bounds,
            );
            number = put.number ∙ end_nodes;
            bounds = joined_pieces lines on_right.bounds on_left.bounds child.bounds (pieces g.tree) (pieces h.tree) g.bounds h.bounds put.bounds;
            shallow = omega arith;
            few_segs = let e = ap length put.segs in let f = h.few_segs in omega arith;
            few_sizes = let e = ap length put.sizes in let f = h.few_sizes in omega arith;
          }

-- ---- what a step says
pub parted_of : (lines : List Edge) (ps : List Piece) (used : List Bool) (old new : List Waiting) (s : Step) (p : Piece) → s ≡ StepParts p
    → IsListStep lines ps used old new s → IsPartedStep lines ps used old new p
parted_of lines ps used old new s p f h = subst (IsListStep lines ps used old new) f h

pub leaf_of : (lines : List Edge) (ps : List Piece) (used : List Bool) (old new : List Waiting) (s : Step) (leaf : Waiting) → s ≡ StepLeaf leaf
    → IsListStep lines ps used old new s → IsLeafStep lines ps used old new leaf
leaf_of lines ps used old new s leaf f h = subst (IsListStep lines ps used old new) f h

-- ---- what a result says
pub ok_by : {T E : Type 0} (r : Result T E) (P Q : T → Type 0) → ((x : T) → P x → Q x) → IfOk r P → IfOk r Q
ok_by (Ok x) P Q f h = f x h
ok_by (Err e) P Q f h = tt

pub err_by : {T E : Type 0} (r : Result T E) (P Q : E → Type 0) → ((e : E) → P e → Q e) → IfErr r P → IfErr r Q
err_by (Ok x) P Q f h = tt
err_by (Err e) P Q f h = f e h
