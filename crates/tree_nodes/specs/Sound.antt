-- What a built tree is, and why one isn't built.
use Rattle.std.specs.Prelude.{◌≡◌, ℕ, ◌+◌, ◌<◌, ◌≤◌, ◌⊎◌, List, ◌++◌, length, All, slice_get, Some}
use Rattle.lump_records.specs.declared.records.Vertex.{Vertex}
use Rattle.lump_records.specs.declared.records.Seg.{Seg}
use Rattle.lump_records.specs.declared.records.Sub.{Sub}
use Rattle.lump_records.specs.declared.records.Node.{Node}
use Rattle.tree_pieces.specs.declared.edge.Edge.{Edge}
use Rattle.tree_pieces.specs.Places.{StandsFirst}
use Rattle.tree_pieces.specs.Segs.{RunAlong, HasFields, IsConvexSub}
use Rattle.tree_pieces.specs.Nodes.{IsParting}
use Rattle.tree_pieces.specs.Tree.{Tree, IsTreeOf, pieces, leaves, depth}
use Rattle.tree_pieces.specs.First.{first_pieces}
use Rattle.tree_nodes.specs.InRange.{greatest_number, Tiles}
use Rattle.tree_nodes.specs.References.{IsNumber, HasPlaces, AreTree}
use Rattle.tree_nodes.specs.TreeLists.{IsEndOf, AreListsOf}

-- the tree of the lines: that of the first list, with no line used above
abbrev pub IsTreeOfLines : List Edge → Tree → Type 0
IsTreeOfLines lines t = IsTreeOf lines (first_pieces lines) t

-- the vertex n is an end of a seg in front of the i-th
abbrev pub IsNamedBefore : List Seg → ℕ → ℕ → Type 0
IsNamedBefore segs i n = (j : ℕ) × (t : Seg) × (j < i) × (slice_get segs j ≡ Some t)
    × ((t.first ≡ n) ⊎ (t.second ≡ n))

-- places that go behind the drawn ones are new: none of them stands at a lower number
abbrev pub AreNew : List Vertex → List Vertex → Type 0
AreNew drawn added = (n : ℕ) → length drawn ≤ n → StandsFirst (drawn ++ added) n

-- the drawn vertices come first; each other one is a new place, and an end of a seg the added ones
-- stand in the order in which the segs first name them, a seg's first end before its second one
pub record AddsEnds (drawn vertices : List Vertex) (segs : List Seg) : Type 0 where
  pub added : List Vertex
  pub all : vertices ≡ drawn ++ added
  pub new : AreNew drawn added
  pub ends : (n : ℕ) → length drawn ≤ n → n < length vertices →
      (i : ℕ) × (s : Seg) × (slice_get segs i ≡ Some s) × ((s.first ≡ n) ⊎ (s.second ≡ n))
  pub first_in_order : (i n : ℕ) (s : Seg) → slice_get segs i ≡ Some s → length drawn ≤ n → s.first
      ≡ n + 1 →
      IsNamedBefore segs i n
  pub second_in_order : (i n : ℕ) (s : Seg) → slice_get segs i ≡ Some s → length drawn ≤ n
      → s.second ≡ n + 1 →
      IsNamedBefore segs i n ⊎ (s.first ≡ n)

-- a sound tree over all sides of the lines
pub record IsSound (lines : List Edge) (drawn vertices : List Vertex) (segs : List Seg)
    (subs : List Sub) (nodes : List Node) : Type 0 where
  pub added_ends : AddsEnds drawn vertices segs
  pub places : All (HasPlaces lines vertices) segs
  pub tiles : Tiles 0 subs (length segs)
  pub tree : AreTree subs nodes
  pub run_along : RunAlong lines vertices segs
  pub fields : All (HasFields lines vertices) segs
  pub convex : All (IsConvexSub lines vertices segs) subs
  pub partings : All (IsParting lines vertices segs subs nodes) nodes

-- it is the tree of the lines, of which no path is too long
pub record IsBuiltOf (lines : List Edge) (vertices : List Vertex) (segs : List Seg)
    (subs : List Sub) (nodes : List Node) : Type 0 where
  pub tree : Tree
  pub of_lines : IsTreeOfLines lines tree
  pub lists : AreListsOf lines vertices tree segs subs nodes
  pub shallow : depth tree ≤ 1024

-- each list is short enough that 16 bits hold the number of each item, signed or unsigned
pub record IsSmall (vertices : List Vertex) (segs : List Seg) (subs : List Sub)
    (nodes : List Node) : Type 0 where
  pub few_vertices : length vertices ≤ greatest_number
  pub few_segs : length segs ≤ greatest_number
  pub few_subs : length subs ≤ greatest_number
  pub few_nodes : length nodes ≤ greatest_number

-- both ends of each seg are vertices
abbrev pub HaveEnds : List Vertex → List Seg → Type 0
HaveEnds vertices segs =
    All (λ (s : Seg). IsNumber (length vertices) s.first × IsNumber (length vertices) s.second) segs

-- no two vertices have one place
abbrev pub AllDiffer : List Vertex → Type 0
AllDiffer vs = (i j : ℕ) (v : Vertex) → slice_get vs i ≡ Some v → slice_get vs j ≡ Some v → i ≡ j

-- ---- why it is refused
-- each cause is of the tree of the lines, of which there is exactly one the drawn vertices and new
-- places that are rounded ends of its pieces are more than there are numbers
abbrev pub HasTooManyVertices : List Edge → List Vertex → Type 0
HasTooManyVertices lines drawn = (t : Tree) × IsTreeOfLines lines t
    × ((added : List Vertex) × AreNew drawn added × All (IsEndOf lines (pieces t)) added
    × (greatest_number < length drawn + length added))

abbrev pub HasTooManySegs : List Edge → Type 0
HasTooManySegs lines = (t : Tree) × IsTreeOfLines lines t × (greatest_number < length (pieces t))

abbrev pub HasTooManySubsectors : List Edge → Type 0
HasTooManySubsectors lines = (t : Tree) × IsTreeOfLines lines t
    × (greatest_number < length (leaves t))

abbrev pub IsTooDeep : List Edge → Type 0
IsTooDeep lines = (t : Tree) × IsTreeOfLines lines t × (1024 < depth t)

-- the tree of the lines has few enough segs and subsectors, and no path that is too long
abbrev pub IsWithinLimits : List Edge → Type 0
IsWithinLimits lines = (t : Tree) × IsTreeOfLines lines t × (length (pieces t) ≤ greatest_number)
    × (length (leaves t) ≤ greatest_number) × (depth t ≤ 1024)
