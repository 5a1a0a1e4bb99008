-- A PWAD that is a sound build of a map, and why it can't be built.
use Rattle.std.specs.Prelude.{◌≡◌, ℕ, ◌+◌, ◌≤◌, List, length, replicate, take, drop, All}
use Rattle.lump_records.specs.Names.{name_text}
use Rattle.lump_records.specs.declared.records.Vertex.{Vertex}
use Rattle.map_tables.specs.Tables.{Tables}
use Rattle.map_tables.specs.WellFormed.{WellFormed}
use Rattle.tree_blocks.specs.Blocks.{ends_over, map_ends}
use Rattle.tree_blocks.specs.Layout.{ListsBlocks}
use Rattle.tree_blocks.specs.Lump.{IsBlockmap, IsTooLarge}
use Rattle.tree_pieces.specs.Segs.{RunAlong, HasFields, IsConvexSub}
use Rattle.tree_pieces.specs.Nodes.{IsParting}
use Rattle.tree_pieces.specs.Edges.{edges_in, edges_of}
use Rattle.tree_nodes.specs.Sound.{AddsEnds, AllDiffer, HasTooManyVertices, HasTooManySegs, HasTooManySubsectors, IsTooDeep}
use Rattle.tree_nodes.specs.InRange.{TreeInRange}
use Rattle.tree_nodes.specs.Built.{IsBuilt}
use Rattle.tree_nodes.specs.declared.built.Built.{Built}
use Rattle.tree_nodes.specs.declared.error.TreeError.{TreeError}
use Rattle.tree_nodes.specs.declared.error.TreeError.TheVariants as tree
use Rattle.tree_blocks.specs.declared.error.BlockmapError.{BlockmapError}
use Rattle.tree_blocks.specs.declared.error.BlockmapError.TheVariants as blocks
use Rattle.wad_levels.specs.Levels.{Lumps, IsLevel}
use Rattle.wad_build.specs.Range.{IsInRange, ListInRange, blocks_in}
use Rattle.wad_build.specs.Reject.{reject_size}
use Rattle.wad_build.specs.Words.{words}
use Rattle.wad_build.specs.declared.error.BuildError.{BuildError}
use Rattle.wad_build.specs.declared.error.BuildError.TheVariants.{NothingToBuild, TooManyVertices, TooManySegs}
use Rattle.wad_build.specs.declared.error.BuildError.TheVariants.{TooManySubsectors, TooDeep, BlockmapTooLarge, OutOfMemory}

-- the bytes of REJECT: no sector is marked as out of sight of another
abbrev pub no_rejects : ℕ → List ℕ
no_rejects sectors = replicate (reject_size sectors) 0

-- the level that consists of a map, a tree of it, and the bytes of BLOCKMAP
abbrev pub level_over : Tables → Built → List ℕ → Lumps
level_over m b blockmap =
    record {
      things = m.things;
      lines = m.lines;
      sides = m.sides;
      vertices = b.vertices.items;
      segs = b.segs.items;
      subs = b.subs.items;
      nodes = b.nodes.items;
      sectors = m.sectors;
      reject = no_rejects (length m.sectors);
      blockmap = blockmap;
    }

-- a level that consists of the map, a tree of it, and the bytes of its blockmap
pub record IsBuiltLevel (m : Tables) (l : Lumps) : Type 0 where
  pub well_formed : WellFormed m
  pub tree : Built
  pub built : IsBuilt m tree
  pub blockmap : List ℕ
  pub is_blockmap : IsBlockmap m blockmap
  pub is_over : l ≡ level_over m tree blockmap

-- ---- sound
-- the level has a sound tree of its own lines, with the drawn vertices first, and the blockmap of these lines; each
-- reference of the built lists is in range
pub record IsSoundOver (drawn : List Vertex) (l : Lumps) : Type 0 where
  pub added : AddsEnds drawn l.vertices l.segs
  pub tree : TreeInRange l.vertices l.lines l.segs l.subs l.nodes
  pub along : RunAlong (edges_in drawn l.lines) l.vertices l.segs
  pub fields : All (HasFields (edges_in drawn l.lines) l.vertices) l.segs
  pub convex : All (IsConvexSub (edges_in drawn l.lines) l.vertices l.segs) l.subs
  pub partings :
      All (IsParting (edges_in drawn l.lines) l.vertices l.segs l.subs l.nodes) l.nodes
  pub blocks : ListsBlocks (ends_over drawn l.lines) (words l.blockmap)
  pub header : 4 + blocks_in (words l.blockmap) ≤ length (words l.blockmap)
  pub lists : All (ListInRange l (words l.blockmap))
      (take (blocks_in (words l.blockmap)) (drop 4 (words l.blockmap)))

-- the level has the lists of this tree
pub record HasTree (b : Built) (l : Lumps) : Type 0 where
  pub vertices : l.vertices ≡ b.vertices.items
  pub segs : l.segs ≡ b.segs.items
  pub subs : l.subs ≡ b.subs.items
  pub nodes : l.nodes ≡ b.nodes.items

-- a level that holds the map as drawn, and is sound over its lines; no two vertices are at the same place
pub record IsSoundLevel (m : Tables) (l : Lumps) : Type 0 where
  pub things : l.things ≡ m.things
  pub lines : l.lines ≡ m.lines
  pub sides : l.sides ≡ m.sides
  pub sectors : l.sectors ≡ m.sectors
  pub reject : l.reject ≡ no_rejects (length m.sectors)
  pub in_range : IsInRange l
  pub sound : IsSoundOver m.vertices l
  pub differ : AllDiffer l.vertices

-- the bytes hold a sound level of the map under its name
pub record IsSoundBuild (m : Tables) (wad : List ℕ) : Type 0 where
  pub level : Lumps
  pub reads : IsLevel wad (name_text m.name) level
  pub sound : IsSoundLevel m level

-- the map has a tree, and the layout of its blocks' lists has no offset that is too great
pub record CanBeBuilt (m : Tables) : Type 0 where
  pub tree : Built
  pub built : IsBuilt m tree
  pub fits : ¬ IsTooLarge (map_ends m)

-- the map has a tree, but the layout of its blocks' lists needs an offset that is too great
pub record HasOnlyTree (m : Tables) : Type 0 where
  pub tree : Built
  pub built : IsBuilt m tree
  pub too_large : IsTooLarge (map_ends m)

-- the cause of each refusal; the refusals of the tree come first
abbrev pub IsBuildRefusal : Tables → BuildError → Type 0
IsBuildRefusal m OutOfMemory = Unit {0}
IsBuildRefusal m NothingToBuild = length m.lines ≡ 0
IsBuildRefusal m TooManyVertices = HasTooManyVertices (edges_of m) m.vertices
IsBuildRefusal m TooManySegs = HasTooManySegs (edges_of m)
IsBuildRefusal m TooManySubsectors = HasTooManySubsectors (edges_of m)
IsBuildRefusal m TooDeep = IsTooDeep (edges_of m)
IsBuildRefusal m BlockmapTooLarge = HasOnlyTree m

-- the refusal of a build for a refusal of the tree; below, for one of the blockmap
abbrev pub of_tree : TreeError → BuildError
of_tree tree.OutOfMemory = OutOfMemory
of_tree tree.NothingToBuild = NothingToBuild
of_tree tree.TooManyVertices = TooManyVertices
of_tree tree.TooManySegs = TooManySegs
of_tree tree.TooManySubsectors = TooManySubsectors
of_tree tree.TooDeep = TooDeep

abbrev pub of_blockmap : BlockmapError → BuildError
of_blockmap blocks.OutOfMemory = OutOfMemory
of_blockmap blocks.NothingToBuild = NothingToBuild
of_blockmap blocks.BlockmapTooLarge = BlockmapTooLarge
