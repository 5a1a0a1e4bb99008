-- The steps of a tree that is being grown: the next list, an open node, a node that is put down, and why it stops.
use Rattle.std.proofs.Common.{◌≡◌, refl, sym, ap, ◌∙◌, subst, ℕ, ◌-◌, ◌<◌, List, [], ◌∷◌, ◌++◌, length, Bool, true, false, arith, All}
use Rattle.std.specs.Prelude.{slice_set}
use Rattle.std.proofs.lemmas.List.{length-append}
use Rattle.std.proofs.Math.ListN.{length-set}
use Rattle.std.proofs.lemmas.Option.{slice_get_within}
use Rattle.tree_pieces.specs.declared.edge.Edge.{Edge}
use Rattle.tree_pieces.specs.declared.piece.Piece.{Piece}
use Rattle.tree_pieces.specs.Plane.{IsEdge}
use Rattle.tree_pieces.specs.Tree.{IsReached, HasNoChoice}
use Rattle.tree_nodes.specs.declared.error.TreeError.{TreeError}
use Rattle.tree_nodes.specs.declared.error.TreeError.TheVariants.{TooDeep}
use Rattle.tree_nodes.specs.declared.growth.Child.{Child}
use Rattle.tree_nodes.specs.declared.open_tree.OpenTree.{OpenTree}
use Rattle.tree_nodes.specs.Placed.{Waiting}
use Rattle.tree_nodes.specs.Growth.{Lists, lists_of, IsGrown, IsRefused, IsDivision, IsPartedStep, IsLeafPut, IsLeafRefused}
use Rattle.tree_nodes.specs.OpenTree.{IsDivisible, HasNext, IsChildOf, HasGrown, IsNextRefused, IsLeafEnded, IsNodeOpened, IsNodeOpen, HasNodeOpen, CanClose, HasNodeClosed}
use Rattle.tree_nodes.proofs.Growing.{leaf_grown, leaf_refused, deep_here, partition_is, right_side_reached, left_side_reached, right_side_some, left_side_some, right_side_few, left_side_few, line_free, refused_right, refused_left, fewer_mid, nodes_few, node_grown, restored}

-- ---- lists by their last items
pub last_same : {X : Type 0} (xs ys : List X) (x y : X) → xs ++ x ∷ [] ≡ ys ++ y ∷ [] → (xs ≡ ys) × (x ≡ y)
last_same [] [] x y e = (refl, cc)
last_same [] (b ∷ ys) x y e = let l = ap length e in let a = length-append ys (y ∷ []) in absurd (omega arith)
last_same (a ∷ xs) [] x y e = let l = ap length e in let b = length-append xs (x ∷ []) in absurd (omega arith)
last_same (a ∷ xs) (b ∷ ys) x y e = let t : xs ++ x ∷ [] ≡ ys ++ y ∷ [] = cc in let h : a ≡ b = cc in let i = last_same xs ys x y t in (cc, i.1)

-- ---- the next list
pub divisible : (lines : List Edge) (tree : OpenTree) → HasNext lines tree → (rest : List Waiting) (list : Waiting) → tree.lists.items ≡ rest ++ list ∷ [] → IsDivisible lines tree list
divisible lines tree n rest list e = let s = last_same n.rest rest n.list list (sym n.lists ∙ e) in subst (IsDivisible lines tree) s.1 n.divisible

-- a tree whose last list was taken: but for the lists it is the same
pub record IsTaken (old mid : OpenTree) : Type 0 where
  pub partitions : mid.partitions.items ≡ old.partitions.items
  pub children : mid.children.items ≡ old.children.items
  pub used : mid.used.items ≡ old.used.items
  pub grown : lists_of mid.grown ≡ lists_of old.grown

module _ (lines : List Edge) (room : ℕ) (old mid : OpenTree) (before : List Waiting) (first : Waiting) (is : old.lists.items ≡ before ++ first ∷ []) (taken : IsTaken old mid) where
  next_refused : (e : TreeError) → IsRefused lines first.value.ended.pieces.items old.used.items room (lists_of old.grown) e → IsNextRefused lines room old e
  next_refused e h rest list f = let s = last_same before rest first list (sym is ∙ f) in subst (λ (l : Waiting). IsRefused lines l.value.ended.pieces.items old.used.items room (lists_of old.grown) e) s.1 h

  -- a leaf
  module _ (leaf : List Piece) (whole : leaf ≡ first.value.ended.pieces.items) (none : HasNoChoice lines first.value.ended.pieces.items old.used.items) where
    pub leaf_next_refused : (e : TreeError) → IsLeafRefused leaf (lists_of mid.grown) e → IsNextRefused lines room old e
    leaf_next_refused e h = next_refused e (leaf_refused lines first.value.ended.pieces.items old.used.items none room (lists_of old.grown) e
        (subst (λ (l : Lists). IsLeafRefused first.value.ended.pieces.items l e) taken.grown (subst (λ (qs : List Piece). IsLeafRefused qs (lists_of mid.grown) e) whole h)))

    pub leaf_next_grown : mid.lists.items ≡ before → (new : OpenTree) → IsLeafEnded lines leaf mid new → HasGrown lines room old new
    leaf_next_grown same new end rest list f =
        let s = last_same before rest first list (sym is ∙ f) in
        let put = subst (λ (l : Lists). IsLeafPut lines first.value.ended.pieces.items l (lists_of new.grown) end.child) taken.grown
        (subst (λ (qs : List Piece). IsLeafPut lines qs (lists_of mid.grown) (lists_of new.grown) end.child) whole end.put) in
        record {
          child = end.child;
          lists = end.lists ∙ same ∙ s.0;
          partitions = end.partitions ∙ taken.partitions;
          children = end.children ∙ ap (λ (x : List Child). x ++ end.child ∷ []) taken.children;
          used = end.used ∙ taken.used;
          grown = subst (λ (l : Waiting). IsGrown lines l.value.ended.pieces.items old.used.items room (lists_of old.grown) (lists_of new.grown) end.child) s.1
              (leaf_grown lines first.value.ended.pieces.items old.used.items none room (lists_of old.grown) (lists_of new.grown) end.child put);
        }

  -- a node
  module _ (p : Piece) (step : IsPartedStep lines first.value.ended.pieces.items old.used.items before mid.lists.items p) where
    abbrev right : Waiting
    right = step.parted.right

    abbrev left : Waiting
    left = step.parted.left

    d : IsDivision lines first.value.ended.pieces.items old.used.items p right.value.ended.pieces.items left.value.ended.pieces.items
    d = record { place = step.place; best = step.best; right_is = step.parted.right_is; left_is = step.parted.left_is }

    pub deep_next : room ≡ 0 → IsNextRefused lines room old TooDeep
    deep_next z = next_refused TooDeep (deep_here _ _ _ _ _ _ d room (lists_of old.grown) z)

    pub line_known : p.line < length mid.used.items
    line_known = let w = slice_get_within old.used.items p.line false (line_free _ _ _ _ _ _ d) in let n = ap length taken.used in omega (arith, n, w)

    pub node_next_opened : (new : OpenTree) → 0 < room → IsNodeOpened p mid new → HasNodeOpen lines room old new
    node_next_opened new some o rest list f =
        let s = last_same before rest first list (sym is ∙ f) in
        record {
          partition = p;
          right = right;
          left = left;
          division = subst (λ (l : Waiting). IsDivision lines l.value.ended.pieces.items old.used.items p right.value.ended.pieces.items left.value.ended.pieces.items) s.1 d;
          right_listed = step.parted.right_listed;
          left_listed = step.parted.left_listed;
          lists = o.lists ∙ step.parted.lists ∙ ap (λ (x : List Waiting). (x ++ left ∷ []) ++ right ∷ []) s.0;
          partitions = o.partitions ∙ ap (λ (x : List Piece). x ++ p ∷ []) taken.partitions;
          children = o.children ∙ taken.children;
          used = o.used ∙ ap (λ (x : List Bool). slice_set x p.line true) taken.used;
          grown = o.grown ∙ taken.grown;
          some = some;
        }

-- ---- an open node
module _ (lines : List Edge) (all : All IsEdge lines) (room : ℕ) (old one : OpenTree) (rest : List Waiting) (list : Waiting)
    (can : IsDivisible lines old list) (o : IsNodeOpen lines room old one rest list) where
  pub right_next : HasNext lines one
  right_next = record {
    rest = rest ++ o.left ∷ [];
    list = o.right;
    lists = o.lists;
    divisible = record {
      reached = subst (λ (u : List Bool). IsReached lines u o.right.value.ended.pieces.items) (sym o.used) (right_side_reached _ _ _ _ _ _ o.division all can.reached);
      listed = o.right_listed;
      some = right_side_some _ _ _ _ _ _ o.division all can.reached;
      few = let f = right_side_few _ _ _ _ _ _ o.division in omega (arith, o.right.value.ended.pieces.ok.0, list.value.ended.pieces.ok.0, can.few);
      fewer = let n = ap (λ (l : Lists). length l.nodes) o.grown in let c = ap (λ (l : Lists). length l.sizes) o.grown in omega (arith, n, c, can.fewer);
    };
  }

  pub right_refused : (e : TreeError) → IsNextRefused lines (room - 1) one e → IsRefused lines list.value.ended.pieces.items old.used.items room (lists_of old.grown) e
  right_refused e h =
      let r = h (rest ++ o.left ∷ []) o.right o.lists in
      let u = subst (λ (x : List Bool). IsRefused lines o.right.value.ended.pieces.items x (room - 1) (lists_of one.grown) e) o.used r in
      refused_right _ _ _ _ _ _ o.division room (lists_of old.grown) e (subst (λ (l : Lists). IsRefused lines o.right.value.ended.pieces.items (slice_set old.used.items o.partition.line true) (room - 1) l e) o.grown u)

  -- ---- once its right tree has grown
  module _ (two : OpenTree) (grown : HasGrown lines (room - 1) one two) where
    right_of : IsChildOf lines (room - 1) one two (rest ++ o.left ∷ []) o.right
    right_of = grown (rest ++ o.left ∷ []) o.right o.lists

    right_grown : IsGrown lines o.right.value.ended.pieces.items (slice_set old.used.items o.partition.line true) (room - 1) (lists_of old.grown) (lists_of two.grown) right_of.child
    right_grown = subst (λ (l : Lists). IsGrown lines o.right.value.ended.pieces.items (slice_set old.used.items o.partition.line true) (room - 1) l (lists_of two.grown) right_of.child) o.grown
        (subst (λ (x : List Bool). IsGrown lines o.right.value.ended.pieces.items x (room - 1) (lists_of one.grown) (lists_of two.grown) right_of.child) o.used right_of.grown)

    used_two : two.used.items ≡ slice_set old.used.items o.partition.line true
    used_two = right_of.used ∙ o.used

    pub left_next : HasNext lines two
    left_next = record {
      rest = rest;
      list = o.left;
      lists = right_of.lists;
      divisible = record {
        reached = subst (λ (u : List Bool). IsReached lines u o.left.value.ended.pieces.items) (sym used_two) (left_side_reached _ _ _ _ _ _ o.division all can.reached);
        listed = o.left_listed;
        some = left_side_some _ _ _ _ _ _ o.division;
        few = let f = left_side_few _ _ _ _ _ _ o.division in omega (arith, o.left.value.ended.pieces.ok.0, list.value.ended.pieces.ok.0, can.few);
        fewer = fewer_mid _ _ _ _ _ _ o.division room (lists_of old.grown) (lists_of two.grown) right_of.child right_grown can.fewer;
      };
    }

    pub left_refused : (e : TreeError) → IsNextRefused lines (room - 1) two e → IsRefused lines list.value.ended.pieces.items old.used.items room (lists_of old.grown) e
    left_refused e h =
        refused_left _ _ _ _ _ _ o.division room (lists_of old.grown) (lists_of two.grown) right_of.child right_grown e
        (subst (λ (x : List Bool). IsRefused lines o.left.value.ended.pieces.items x (room - 1) (lists_of two.grown) e) used_two (h rest o.left right_of.lists))

    -- ---- once both have grown
    module _ (three : OpenTree) (both : HasGrown lines (room - 1) two three) where
      left_of : IsChildOf lines (room - 1) two three rest o.left
      left_of = both rest o.left right_of.lists

      left_grown : IsGrown lines o.left.value.ended.pieces.items (slice_set old.used.items o.partition.line true) (room - 1) (lists_of two.grown) (lists_of three.grown) left_of.child
      left_grown = subst (λ (x : List Bool). IsGrown lines o.left.value.ended.pieces.items x (room - 1) (lists_of two.grown) (lists_of three.grown) left_of.child) used_two left_of.grown

      used_three : three.used.items ≡ slice_set old.used.items o.partition.line true
      used_three = left_of.used ∙ used_two

      path_three : three.partitions.items ≡ old.partitions.items ++ o.partition ∷ []
      path_three = left_of.partitions ∙ right_of.partitions ∙ o.partitions

      trees_three : three.children.items ≡ (old.children.items ++ right_of.child ∷ []) ++ left_of.child ∷ []
      trees_three = left_of.children ∙ ap (λ (x : List Child). x ++ left_of.child ∷ []) (right_of.children ∙ ap (λ (x : List Child). x ++ right_of.child ∷ []) o.children)

      pub can_close : CanClose lines three
      can_close = record {
        above = old.partitions.items;
        partition = o.partition;
        before = old.children.items;
        right = right_of.child;
        left = left_of.child;
        partitions = path_three;
        children = trees_three;
        piece = partition_is _ _ _ _ _ _ o.division all can.reached;
        known = let w = slice_get_within old.used.items o.partition.line false (line_free _ _ _ _ _ _ o.division) in
            let n = ap length used_three ∙ length-set old.used.items o.partition.line true in omega (arith, n, w);
        few = nodes_few _ _ _ _ _ _ o.division room (lists_of old.grown) (lists_of two.grown) right_of.child right_grown (lists_of three.grown) left_of.child left_grown can.fewer;
      }

      pub grown_here : (new : OpenTree) → HasNodeClosed lines three new → IsChildOf lines room old new rest list
      grown_here new closed =
          let k = closed old.partitions.items o.partition old.children.items right_of.child left_of.child path_three trees_three in
          record {
            child = k.child;
            lists = k.lists ∙ left_of.lists;
            partitions = k.partitions;
            children = k.children;
            used = k.used ∙ ap (λ (x : List Bool). slice_set x o.partition.line false) used_three ∙ restored old.used.items o.partition.line (line_free _ _ _ _ _ _ o.division);
            grown = node_grown _ _ _ _ _ _ o.division room (lists_of old.grown) (lists_of two.grown) right_of.child right_grown (lists_of three.grown) left_of.child left_grown (lists_of new.grown) k.child o.some k.put;
          }
