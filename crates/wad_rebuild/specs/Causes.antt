-- What a build of lines over a front of vertices is refused for.
use Rattle.std.specs.Prelude.{◌≢◌, List}
use Rattle.lump_records.specs.declared.records.Vertex.{Vertex}
use Rattle.tree_pieces.specs.declared.edge.Edge.{Edge}
use Rattle.tree_nodes.specs.Built.{IsRefusalOver}
use Rattle.tree_nodes.specs.declared.error.TreeError.TheVariants as tree
use Rattle.tree_blocks.specs.Lump.{RefusesBlockmapOver}
use Rattle.tree_blocks.specs.declared.error.BlockmapError.TheVariants as blockmap
use Rattle.tree_blocks.specs.declared.line_ends.LineEnds.{LineEnds}
use Rattle.wad_rebuild.specs.declared.cause.Cause.{Cause}
use Rattle.wad_rebuild.specs.declared.cause.Cause.TheVariants.{Hindered, TooManySectors, NoTree, NoBlockmap, OutOfMemory}

-- the cause of a refused tree, which is lack of memory only as a cause of its own
abbrev pub IsTreeCause : List Edge → List Vertex → Cause → Type 0
IsTreeCause edges front (Hindered h) = ⊥
IsTreeCause edges front TooManySectors = ⊥
IsTreeCause edges front (NoTree e) = (e ≢ tree.OutOfMemory) × IsRefusalOver edges front e
IsTreeCause edges front (NoBlockmap e) = ⊥
IsTreeCause edges front OutOfMemory = Unit {0}

-- the cause of a refused blockmap, likewise
abbrev pub IsBlockmapCause : List LineEnds → Cause → Type 0
IsBlockmapCause ends (Hindered h) = ⊥
IsBlockmapCause ends TooManySectors = ⊥
IsBlockmapCause ends (NoTree e) = ⊥
IsBlockmapCause ends (NoBlockmap e) = (e ≢ blockmap.OutOfMemory) × RefusesBlockmapOver ends e
IsBlockmapCause ends OutOfMemory = Unit {0}
