-- What `build_lines` answers of lines and drawn vertices, and `build_tree` of those of a map.
use Rattle.std.specs.Prelude.{◌≡◌, ◌<◌, ◌≤◌, List, length}
use Rattle.lump_records.specs.declared.records.Vertex.{Vertex}
use Rattle.map_tables.specs.Tables.{Tables}
use Rattle.tree_pieces.specs.declared.edge.Edge.{Edge}
use Rattle.tree_pieces.specs.Edges.{edges_of}
use Rattle.tree_nodes.specs.InRange.{greatest_number}
use Rattle.tree_nodes.specs.Sound.{IsSound, IsSmall, IsBuiltOf, HasTooManyVertices, HasTooManySegs, HasTooManySubsectors, IsTooDeep}
use Rattle.tree_nodes.specs.declared.built.Built.{Built}
use Rattle.tree_nodes.specs.declared.error.TreeError.{TreeError}
use Rattle.tree_nodes.specs.declared.error.TreeError.TheVariants.{OutOfMemory, NothingToBuild, TooManyVertices, TooManySegs, TooManySubsectors, TooDeep}

-- a sound tree over all sides of the lines, of lists with small numbers, and the one tree of the lines' first list
pub record IsBuiltOver (lines : List Edge) (drawn : List Vertex) (b : Built) : Type 0 where
  pub some_line : 0 < length lines
  pub few_lines : length lines ≤ greatest_number
  pub small : IsSmall b.vertices.items b.segs.items b.subs.items b.nodes.items
  pub sound : IsSound lines drawn b.vertices.items b.segs.items b.subs.items b.nodes.items
  pub of_tree : IsBuiltOf lines b.vertices.items b.segs.items b.subs.items b.nodes.items

-- the cause of each refusal, of the one tree of the lines' first list
abbrev pub IsRefusalOver : List Edge → List Vertex → TreeError → Type 0
IsRefusalOver lines drawn OutOfMemory = Unit {0}
IsRefusalOver lines drawn NothingToBuild = length lines ≡ 0
IsRefusalOver lines drawn TooManyVertices = HasTooManyVertices lines drawn
IsRefusalOver lines drawn TooManySegs = HasTooManySegs lines
IsRefusalOver lines drawn TooManySubsectors = HasTooManySubsectors lines
IsRefusalOver lines drawn TooDeep = IsTooDeep lines

-- the built tree is that of a map's lines and vertices
abbrev pub IsBuilt : Tables → Built → Type 0
IsBuilt m b = IsBuiltOver (edges_of m) m.vertices b

-- why a map's lines and vertices have no built tree
abbrev pub IsTreeRefusal : Tables → TreeError → Type 0
IsTreeRefusal m e = IsRefusalOver (edges_of m) m.vertices e
