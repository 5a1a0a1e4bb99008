-- The lists of a tree of divisions: its leaves' pieces as segs, its leaves as subsectors, its
-- branches as nodes.
use Rattle.std.specs.Prelude.{◌≡◌, ℕ, ◌+◌, ◌⊎◌, List, [], ◌∷◌, ◌++◌, length, map, slice_get, Some}
use Rattle.lump_records.specs.declared.records.Vertex.{Vertex}
use Rattle.lump_records.specs.declared.records.Seg.{Seg}
use Rattle.lump_records.specs.declared.records.Sub.{Sub}
use Rattle.lump_records.specs.declared.records.Node.{Node}
use Rattle.tree_pieces.specs.declared.edge.Edge.{Edge}
use Rattle.tree_pieces.specs.declared.piece.Piece.{Piece}
use Rattle.tree_pieces.specs.declared.edge.Facing.{Facing}
use Rattle.tree_pieces.specs.declared.edge.Facing.TheVariants.{Along, Against}
use Rattle.tree_pieces.specs.Pieces.{first_end, last_end, ray_of}
use Rattle.tree_pieces.specs.Segs.{first_place, second_place, HasFields}
use Rattle.tree_pieces.specs.Tree.{Tree, Leaf, Branch, pieces, counts}
use Rattle.tree_pieces.specs.Nodes.{node_ray, IsLeastBox}
use Rattle.tree_nodes.specs.References.{subsector, FollowsFrom}

-- the number of a side
abbrev pub side_number : Facing → ℕ
side_number Along = 0
side_number Against = 1

-- where a piece's side begins, and where it ends
abbrev pub start_of : List Edge → Facing → Piece → Vertex
start_of lines Along p = first_end lines p
start_of lines Against p = last_end lines p

abbrev pub end_of : List Edge → Facing → Piece → Vertex
end_of lines Along p = last_end lines p
end_of lines Against p = first_end lines p

-- the seg of a piece: its line and side, and vertices at its rounded ends
pub record IsSegOf (lines : List Edge) (vertices : List Vertex) (p : Piece) (s : Seg) : Type 0 where
  pub line : s.line ≡ p.line
  pub side : s.side ≡ side_number p.side
  pub first : first_place lines vertices s ≡ start_of lines p.side p
  pub second : second_place lines vertices s ≡ end_of lines p.side p
  pub fields : HasFields lines vertices s

-- segs and pieces in the same order
pub record AreSegsOf (lines : List Edge) (vertices : List Vertex) (ps : List Piece)
    (segs : List Seg) : Type 0 where
  pub many : length segs ≡ length ps
  pub each : (i : ℕ) (p : Piece) (s : Seg) → slice_get ps i ≡ Some p → slice_get segs i ≡ Some s
      → IsSegOf lines vertices p s

-- how many leaves, and how many branches, a tree has
abbrev pub leaf_count : Tree → ℕ
leaf_count (Leaf ps) = 1
leaf_count (Branch p right left) = leaf_count right + leaf_count left

abbrev pub branch_count : Tree → ℕ
branch_count (Leaf ps) = 0
branch_count (Branch p right left) = branch_count right + branch_count left + 1

-- the child that stands for a tree whose first leaf has the number s and whose first branch has the
-- number n
abbrev pub child_of : Tree → ℕ → ℕ → ℕ
child_of (Leaf ps) s n = subsector s
child_of (Branch p right left) s n = n + branch_count right + branch_count left

-- a place is a rounded end of one of these pieces
abbrev pub IsEndOf : List Edge → List Piece → Vertex → Type 0
IsEndOf lines ps v = (j : ℕ) × (q : Piece) × (slice_get ps j ≡ Some q)
    × ((v ≡ first_end lines q) ⊎ (v ≡ last_end lines q))

-- a node's ray, its two children and their least boxes; nodes are put down right before left before
-- the node
abbrev pub HasNodes : List Edge → Tree → ℕ → ℕ → List Node → Type 0
HasNodes lines (Leaf ps) s n nodes = nodes ≡ []
HasNodes lines (Branch p right left) s n nodes =
    (below_right : List Node) × (below_left : List Node) × (node : Node) ×
    (nodes ≡ below_right ++ below_left ++ node ∷ []) ×
    HasNodes lines right s n below_right ×
    HasNodes lines left (s + leaf_count right) (n + branch_count right) below_left ×
    (node_ray node ≡ ray_of lines p) ×
    (node.right ≡ child_of right s n) ×
    (node.left ≡ child_of left (s + leaf_count right) (n + branch_count right)) ×
    IsLeastBox node.right_box (IsEndOf lines (pieces right)) ×
    IsLeastBox node.left_box (IsEndOf lines (pieces left))

-- the lists are those of a tree
pub record AreListsOf (lines : List Edge) (vertices : List Vertex) (t : Tree) (segs : List Seg)
    (subs : List Sub) (nodes : List Node) : Type 0 where
  pub leaf_segs : AreSegsOf lines vertices (pieces t) segs
  pub leaf_counts : map (λ (sub : Sub). sub.count) subs ≡ counts t
  pub follow : FollowsFrom 0 subs
  pub branch_nodes : HasNodes lines t 0 0 nodes
