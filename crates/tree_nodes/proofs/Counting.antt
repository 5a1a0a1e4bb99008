-- How many leaves, nodes and pieces a tree has.
use Rattle.std.proofs.Common.{◌≡◌, refl, ap, ◌∙◌, ℕ, suc, ◌+◌, List, [], ◌∷◌, ◌++◌, length, map, arith}
use Rattle.std.proofs.lemmas.List.{length-append}
use Rattle.lump_records.specs.declared.records.Node.{Node}
use Rattle.tree_pieces.specs.declared.edge.Edge.{Edge}
use Rattle.tree_pieces.specs.declared.piece.Piece.{Piece}
use Rattle.tree_pieces.specs.Tree.{Tree, Leaf, Branch, leaves, counts}
use Rattle.tree_nodes.specs.TreeLists.{leaf_count, branch_count, HasNodes}

pub counts_append : (xs ys : List (List Piece)) → map length (xs ++ ys) ≡ map length xs ++ map length ys
counts_append [] ys = refl
counts_append (x ∷ xs) ys = ap (λ (l : List ℕ). length x ∷ l) (counts_append xs ys)

-- nodes are as many as branches
pub nodes_many : (lines : List Edge) (t : Tree) (s n : ℕ) (nodes : List Node) → HasNodes lines t s n nodes → length nodes ≡ branch_count t
nodes_many lines (Leaf ps) s n nodes h = ap length h
nodes_many lines (Branch p right left) s n nodes h =
    let a = nodes_many lines right s n h.0 h.4 in
    let b = nodes_many lines left (s + leaf_count right) (n + branch_count right) h.1 h.5 in
    let c = length-append (h.0 ++ h.1) (h.2 ∷ []) in
    let d = length-append h.0 h.1 in
    let e = ap length h.3 in
    omega arith

-- one leaf more than branches
pub one_leaf_more : (t : Tree) → leaf_count t ≡ branch_count t + 1
one_leaf_more (Leaf ps) = refl
one_leaf_more (Branch p right left) = let a = one_leaf_more right in let b = one_leaf_more left in omega arith

pub leaves_many : (t : Tree) → length (leaves t) ≡ leaf_count t
leaves_many (Leaf ps) = refl
leaves_many (Branch p right left) = let a = leaves_many right in let b = leaves_many left in let c = length-append (leaves right) (leaves left) in omega arith

pub counts_many : (t : Tree) → length (counts t) ≡ leaf_count t
counts_many t = map_long (leaves t) ∙ leaves_many t
  where
    map_long : (ls : List (List Piece)) → length (map length ls) ≡ length ls
    map_long [] = refl
    map_long (l ∷ ls) = ap suc (map_long ls)
