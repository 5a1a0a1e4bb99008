-- The lists of the tree of the lines, and why there is none.
use Rattle.std.specs.Prelude.{◌≡◌, ◌≤◌, List, length}
use Rattle.tree_pieces.specs.declared.edge.Edge.{Edge}
use Rattle.tree_pieces.specs.Tree.{Tree, pieces, counts, depth}
use Rattle.tree_nodes.specs.declared.error.TreeError.{TreeError}
use Rattle.tree_nodes.specs.declared.error.TreeError.TheVariants.{OutOfMemory, NothingToBuild, TooManyVertices, TooManySegs, TooManySubsectors, TooDeep}
use Rattle.tree_nodes.specs.InRange.{greatest_number}
use Rattle.tree_nodes.specs.TreeLists.{HasNodes}
use Rattle.tree_nodes.specs.Sound.{IsTreeOfLines, HasTooManySegs, HasTooManySubsectors, IsTooDeep}
use Rattle.tree_nodes.specs.Growth.{Lists}

-- the lists are those of the tree of the lines
pub record AreTreeLists (lines : List Edge) (lists : Lists) : Type 0 where
  pub tree : Tree
  pub of_lines : IsTreeOfLines lines tree
  pub segs : lists.segs ≡ pieces tree
  pub sizes : lists.sizes ≡ counts tree
  pub has_nodes : HasNodes lines tree 0 0 lists.nodes
  pub shallow : depth tree ≤ 1024
  pub few_segs : length lists.segs ≤ greatest_number
  pub few_sizes : length lists.sizes ≤ greatest_number

-- the tree goes beyond a limit
abbrev pub IsTreeRefused : List Edge → TreeError → Type 0
IsTreeRefused lines TooDeep = IsTooDeep lines
IsTreeRefused lines TooManySegs = HasTooManySegs lines
IsTreeRefused lines TooManySubsectors = HasTooManySubsectors lines
IsTreeRefused lines OutOfMemory = Unit {0}
IsTreeRefused lines NothingToBuild = ⊥
IsTreeRefused lines TooManyVertices = ⊥
