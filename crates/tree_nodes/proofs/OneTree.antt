-- A tree has one list of nodes, and counts have one list of subsectors.
use Rattle.std.proofs.Common.{◌≡◌, refl, sym, ◌∙◌, subst, ℕ, ◌+◌, List, [], ◌∷◌, ◌++◌, map}
use Rattle.lump_records.specs.declared.records.Node.{Node}
use Rattle.lump_records.specs.declared.records.Sub.{Sub}
use Rattle.lump_records.specs.declared.plane.Ray.{Ray}
use Rattle.tree_pieces.specs.declared.edge.Edge.{Edge}
use Rattle.tree_pieces.specs.Nodes.{node_ray}
use Rattle.tree_pieces.specs.Tree.{Tree, Leaf, Branch, pieces}
use Rattle.tree_nodes.specs.References.{FollowsFrom}
use Rattle.tree_nodes.specs.TreeLists.{HasNodes, IsEndOf, branch_count, leaf_count}
use Rattle.tree_nodes.proofs.OneField.{one_box}

pub one_node : (n m : Node) (r : Ray) → node_ray n ≡ r → node_ray m ≡ r → n.right ≡ m.right → n.left ≡ m.left → n.right_box ≡ m.right_box → n.left_box ≡ m.left_box → n ≡ m
one_node n m r a b right left right_box left_box =
    let e : node_ray n ≡ node_ray m = a ∙ sym b in
    λ i. record {
      x = (e i).start.x;
      y = (e i).start.y;
      dx = (e i).dx;
      dy = (e i).dy;
      right_box = right_box i;
      left_box = left_box i;
      right = right i;
      left = left i;
    }

module _ (lines : List Edge) where
  pub one_nodes : (t : Tree) (s n : ℕ) (xs ys : List Node) → HasNodes lines t s n xs → HasNodes lines t s n ys → xs ≡ ys
  one_nodes (Leaf ps) s n xs ys a b = a ∙ sym b
  one_nodes (Branch p right left) s n xs ys a b =
      let rs = one_nodes right s n a.0 b.0 a.4 b.4 in
      let ls = one_nodes left (s + leaf_count right) (n + branch_count right) a.1 b.1 a.5 b.5 in
      let node =
      one_node a.2 b.2 _ a.6 b.6 (a.7 ∙ sym b.7) (a.8 ∙ sym b.8)
      (one_box (IsEndOf lines (pieces right)) a.2.right_box b.2.right_box a.9 b.9)
      (one_box (IsEndOf lines (pieces left)) a.2.left_box b.2.left_box a.10 b.10) in
      let e : xs ≡ a.0 ++ a.1 ++ a.2 ∷ [] = a.3 in
      let f : ys ≡ b.0 ++ b.1 ++ b.2 ∷ [] = b.3 in
      let g : a.0 ++ a.1 ++ a.2 ∷ [] ≡ b.0 ++ b.1 ++ b.2 ∷ [] = λ i. rs i ++ ls i ++ node i ∷ [] in
      e ∙ g ∙ sym f

pub one_subs : (n : ℕ) (xs ys : List Sub) → FollowsFrom n xs → FollowsFrom n ys → map (λ (sub : Sub). sub.count) xs ≡ map (λ (sub : Sub). sub.count) ys → xs ≡ ys
one_subs n [] [] a b e = refl
one_subs n [] (y ∷ ys) a b e = absurd (cc)
one_subs n (x ∷ xs) [] a b e = absurd (cc)
one_subs n (x ∷ xs) (y ∷ ys) a b e =
    let c : x.count ≡ y.count = cc in
    let d : map (λ (sub : Sub). sub.count) xs ≡ map (λ (sub : Sub). sub.count) ys = cc in
    let f : x.first ≡ y.first = a.0 ∙ sym b.0 in
    let head : x ≡ y = λ i. record { count = c i; first = f i } in
    let rest = one_subs (n + x.count) xs ys a.3 (subst (λ (k : ℕ). FollowsFrom (n + k) ys) (sym c) b.3) d in
    λ i. head i ∷ rest i
