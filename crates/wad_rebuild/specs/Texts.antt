-- The text of a cause, and of a fault that stays: one line without its end.
use Rattle.std.specs.Prelude.{ℕ, List, ◌++◌, codes, decimal}
use Rattle.wad_levels.specs.Texts.{hindrance_text}
use Rattle.tree_nodes.specs.declared.error.TreeError.{TreeError}
use Rattle.tree_nodes.specs.declared.error.TreeError.TheVariants as tree
use Rattle.tree_blocks.specs.declared.error.BlockmapError.{BlockmapError}
use Rattle.tree_blocks.specs.declared.error.BlockmapError.TheVariants as blockmap
use Rattle.wad_rebuild.specs.declared.cause.Cause.{Cause}
use Rattle.wad_rebuild.specs.declared.cause.Cause.TheVariants.{Hindered, TooManySectors, NoTree, NoBlockmap, OutOfMemory}
use Rattle.wad_rebuild.specs.declared.kept.KeptFault.{KeptFault}
use Rattle.wad_rebuild.specs.declared.kept.KeptFault.TheVariants.{NoLeftSide}

-- what is said of a level without a tree
abbrev pub tree_text : TreeError → List ℕ
tree_text tree.OutOfMemory = codes "out of memory"
tree_text tree.NothingToBuild = codes "the map has no line"
tree_text tree.TooManyVertices = codes "the tree needs more than 32767 vertices"
tree_text tree.TooManySegs = codes "the tree has more than 32767 segs"
tree_text tree.TooManySubsectors = codes "the tree has more than 32767 subsectors"
tree_text tree.TooDeep = codes "a path of the tree has more than 1024 nodes"

-- what is said of a level without a blockmap
abbrev pub blockmap_text : BlockmapError → List ℕ
blockmap_text blockmap.NothingToBuild = codes "there is no line to build from"
blockmap_text blockmap.BlockmapTooLarge =
    codes "a list of the blockmap would begin beyond word 32767"
blockmap_text blockmap.OutOfMemory = codes "out of memory"

-- the text of a cause
abbrev pub cause_text : Cause → List ℕ
cause_text (Hindered h) = hindrance_text h
cause_text TooManySectors = codes "the level has more than 32767 sectors"
cause_text (NoTree e) = tree_text e
cause_text (NoBlockmap e) = blockmap_text e
cause_text OutOfMemory = codes "out of memory"

-- the text of a fault that stays
abbrev pub kept_text : KeptFault → List ℕ
kept_text (NoLeftSide n) = codes "line " ++ decimal n ++ codes " is two-sided and has no left side"
