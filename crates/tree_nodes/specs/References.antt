-- Each reference of segs, subsectors and nodes lies in its list.
use Rattle.std.specs.Prelude.{◌≡◌, ℕ, ◌+◌, ◌<◌, ◌≤◌, ◌⊎◌, IsTrue, List, [], ◌∷◌, length, slice_get, Some, count_by, nat_eq}
use Rattle.lump_records.specs.declared.records.Vertex.{Vertex}
use Rattle.lump_records.specs.declared.records.Seg.{Seg}
use Rattle.lump_records.specs.declared.records.Sub.{Sub}
use Rattle.lump_records.specs.declared.records.Node.{Node}
use Rattle.tree_pieces.specs.declared.edge.Edge.{Edge}
use Rattle.tree_pieces.specs.Pieces.{edge_at}
use Rattle.tree_nodes.specs.InRange.{greatest_number, sub_bit, below_each}

-- a number names an item of a list of this length
abbrev pub IsNumber : ℕ → ℕ → Type 0
IsNumber count n = (n < count) × (n ≤ greatest_number)

-- the seg's ends are vertices, its line is a line, and its side exists on that line
pub record HasPlaces (lines : List Edge) (vertices : List Vertex) (s : Seg) : Type 0 where
  pub first : IsNumber (length vertices) s.first
  pub second : IsNumber (length vertices) s.second
  pub line : IsNumber (length lines) s.line
  pub side : (s.side ≡ 0) ⊎ ((s.side ≡ 1) × IsTrue (edge_at lines s.line).has_left)

-- subsectors that begin at the number n hold at least one seg each, and follow one another
abbrev pub FollowsFrom : ℕ → List Sub → Type 0
FollowsFrom n [] = Unit {0}
FollowsFrom n (sub ∷ subs) = (sub.first ≡ n) × (n ≤ greatest_number) × (0 < sub.count)
    × FollowsFrom (n + sub.count) subs

-- a child from 32768 on is a subsector, a lower one a node
abbrev pub subsector : ℕ → ℕ
subsector n = sub_bit + n

-- the child of the node n is a subsector, or a node that is lower than n
abbrev pub IsChild : ℕ → ℕ → ℕ → Type 0
IsChild subs n child = (child < n) ⊎ ((m : ℕ) × (m < subs) × (child ≡ subsector m))

-- how often a number is a child
abbrev pub times_child : List Node → ℕ → ℕ
times_child nodes n = count_by (nat_eq n) (below_each nodes)

-- each subsector, and each node but the last, is a child exactly once; with no nodes there is one
-- subsector
pub record AreTree (subs : List Sub) (nodes : List Node) : Type 0 where
  pub right : (n : ℕ) (node : Node) → slice_get nodes n ≡ Some node
      → IsChild (length subs) n node.right
  pub left : (n : ℕ) (node : Node) → slice_get nodes n ≡ Some node
      → IsChild (length subs) n node.left
  pub subs_once : 0 < length nodes → (m : ℕ) → m < length subs → times_child nodes (subsector m) ≡ 1
  pub nodes_once : (n : ℕ) → n + 1 < length nodes → times_child nodes n ≡ 1
  pub one_sub : length nodes ≡ 0 → length subs ≡ 1
  pub nodes_few : length nodes ≤ greatest_number
  pub subs_few : length subs ≤ greatest_number
