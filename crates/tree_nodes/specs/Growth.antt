-- What the recursion has put down of a tree, and why it stops.
use Rattle.std.specs.Prelude.{◌≡◌, ◌+◌, ◌<◌, ◌≤◌, ◌++◌, ℕ, Bool, List, [], ◌∷◌, length}
use Rattle.lump_records.specs.declared.records.Node.{Node}
use Rattle.tree_pieces.specs.declared.edge.Edge.{Edge}
use Rattle.tree_pieces.specs.declared.piece.Piece.{Piece}
use Rattle.tree_pieces.specs.Pieces.{ray_of}
use Rattle.tree_pieces.specs.Division.{right_parts, left_parts}
use Rattle.tree_pieces.specs.Tree.{IsBestAt, HasNoChoice, Tree, Divides, pieces, counts, leaves, depth}
use Rattle.tree_pieces.specs.Nodes.{IsLeastBox, node_ray}
use Rattle.tree_nodes.specs.declared.error.TreeError.{TreeError}
use Rattle.tree_nodes.specs.declared.error.TreeError.TheVariants.{OutOfMemory, NothingToBuild, TooManyVertices, TooManySegs, TooManySubsectors, TooDeep}
use Rattle.tree_nodes.specs.declared.growth.Grown.{Grown}
use Rattle.tree_nodes.specs.declared.growth.Child.{Child}
use Rattle.tree_nodes.specs.declared.step.Step.{Step}
use Rattle.tree_nodes.specs.declared.step.Step.TheVariants.{Leaf as StepLeaf, Parts as StepParts}
use Rattle.tree_nodes.specs.InRange.{greatest_number}
use Rattle.tree_nodes.specs.References.{subsector}
use Rattle.tree_nodes.specs.TreeLists.{child_of, IsEndOf, HasNodes}
use Rattle.tree_nodes.specs.Corners.{IsJoined}
use Rattle.tree_choice.specs.Columns.{IsEnded}
use Rattle.tree_nodes.specs.Placed.{Waiting, AreSideLists}

-- ---- one step
-- a division of a list: its best candidate, and the parts on its two sides
pub record IsDivision (lines : List Edge) (ps : List Piece) (used : List Bool) (partition : Piece)
    (right left : List Piece) : Type 0 where
  pub place : ℕ
  pub best : IsBestAt lines ps used place partition
  pub right_is : right ≡ right_parts lines partition ps
  pub left_is : left ≡ left_parts lines partition ps

-- a list without a choice is a leaf: the pieces with their rounded ends, and no new list waits
pub record IsLeafStep (lines : List Edge) (ps : List Piece) (used : List Bool)
    (old new : List Waiting) (leaf : Waiting) : Type 0 where
  pub pieces : leaf.value.ended.pieces.items ≡ ps
  pub ended : IsEnded lines leaf.value.ended
  pub none : HasNoChoice lines ps used
  pub lists : new ≡ old

-- another one has a best candidate, and the lists of its two sides wait behind the others
pub record IsPartedStep (lines : List Edge) (ps : List Piece) (used : List Bool)
    (old new : List Waiting) (partition : Piece) : Type 0 where
  pub place : ℕ
  pub best : IsBestAt lines ps used place partition
  pub parted : AreSideLists lines partition ps old new

-- what comes of a list, and of the lists that wait
abbrev pub IsListStep : List Edge → List Piece → List Bool → List Waiting → List Waiting → Step →
    Type 0
IsListStep lines ps used old new (StepLeaf leaf) = IsLeafStep lines ps used old new leaf
IsListStep lines ps used old new (StepParts partition) =
    IsPartedStep lines ps used old new partition

-- ---- the lists
-- the pieces, the count of each leaf, and the nodes that were put down
pub record Lists : Type 0 where
  pub segs : List Piece
  pub sizes : List ℕ
  pub nodes : List Node

abbrev pub lists_of : Grown → Lists
lists_of g = record { segs = g.pieces.items; sizes = g.counts.items; nodes = g.nodes.items }

-- the lists have gained those of a tree of this list of pieces, whose child is this one
pub record IsGrown (lines : List Edge) (ps : List Piece) (used : List Bool) (room : ℕ)
    (old new : Lists) (child : Child) : Type 0 where
  pub tree : Tree
  pub divides : Divides lines ps used tree
  pub segs : new.segs ≡ old.segs ++ pieces tree
  pub sizes : new.sizes ≡ old.sizes ++ counts tree
  pub below : List Node
  pub nodes : new.nodes ≡ old.nodes ++ below
  pub has_nodes : HasNodes lines tree (length old.sizes) (length old.nodes) below
  pub number : child.number ≡ child_of tree (length old.sizes) (length old.nodes)
  pub bounds : IsLeastBox child.bounds (IsEndOf lines (pieces tree))
  pub shallow : depth tree ≤ room
  pub few_segs : length new.segs ≤ greatest_number
  pub few_sizes : length new.sizes ≤ greatest_number

-- every tree of the list goes beyond a limit
abbrev pub IsRefused : List Edge → List Piece → List Bool → ℕ → Lists → TreeError → Type 0
IsRefused lines ps used room old TooDeep = (t : Tree) → Divides lines ps used t → room < depth t
IsRefused lines ps used room old TooManySegs = (t : Tree) → Divides lines ps used t
    → greatest_number < length old.segs + length (pieces t)
IsRefused lines ps used room old TooManySubsectors = (t : Tree) → Divides lines ps used t
    → greatest_number < length old.sizes + length (leaves t)
IsRefused lines ps used room old OutOfMemory = Unit {0}
IsRefused lines ps used room old NothingToBuild = ⊥
IsRefused lines ps used room old TooManyVertices = ⊥

-- ---- one leaf, one node
-- a leaf was put down
pub record IsLeafPut (lines : List Edge) (ps : List Piece) (old new : Lists) (child : Child) :
    Type 0 where
  pub segs : new.segs ≡ old.segs ++ ps
  pub sizes : new.sizes ≡ old.sizes ++ length ps ∷ []
  pub nodes : new.nodes ≡ old.nodes
  pub number : child.number ≡ subsector (length old.sizes)
  pub bounds : IsLeastBox child.bounds (IsEndOf lines ps)
  pub few_segs : length new.segs ≤ greatest_number
  pub few_sizes : length new.sizes ≤ greatest_number

-- it does not fit
abbrev pub IsLeafRefused : List Piece → Lists → TreeError → Type 0
IsLeafRefused ps old TooManySegs = greatest_number < length old.segs + length ps
IsLeafRefused ps old TooManySubsectors = greatest_number ≤ length old.sizes
IsLeafRefused ps old OutOfMemory = Unit {0}
IsLeafRefused ps old TooDeep = ⊥
IsLeafRefused ps old NothingToBuild = ⊥
IsLeafRefused ps old TooManyVertices = ⊥

-- a node of a partition with these two children was put down
pub record IsNodePut (lines : List Edge) (partition : Piece) (right left : Child) (old new : Lists)
    (child : Child) : Type 0 where
  pub segs : new.segs ≡ old.segs
  pub sizes : new.sizes ≡ old.sizes
  pub node : Node
  pub nodes : new.nodes ≡ old.nodes ++ node ∷ []
  pub along : node_ray node ≡ ray_of lines partition
  pub right_is : node.right ≡ right.number
  pub left_is : node.left ≡ left.number
  pub right_box : node.right_box ≡ right.bounds
  pub left_box : node.left_box ≡ left.bounds
  pub number : child.number ≡ length old.nodes
  pub bounds : IsJoined right.bounds left.bounds child.bounds
