-- That lines and drawn vertices have one built tree.
use Rattle.std.specs.Prelude.{◌≡◌, List}
use Rattle.lump_records.specs.declared.records.Vertex.{Vertex}
use Rattle.tree_pieces.specs.declared.edge.Edge.{Edge}
use Rattle.tree_nodes.specs.Built.{IsBuiltOver}
use Rattle.tree_nodes.specs.declared.built.Built.{Built}

-- two built trees have the same vertices, segs, subsectors and nodes, in the same order
pub record HaveSameLists (a b : Built) : Type 0 where
  pub vertices : a.vertices.items ≡ b.vertices.items
  pub segs : a.segs.items ≡ b.segs.items
  pub subs : a.subs.items ≡ b.subs.items
  pub nodes : a.nodes.items ≡ b.nodes.items

-- whatever is built of lines over drawn vertices has the same lists
abbrev pub LinesHaveOneBuild : Type 0
LinesHaveOneBuild =
    (lines : List Edge) (drawn : List Vertex) (a b : Built) →
    IsBuiltOver lines drawn a → IsBuiltOver lines drawn b → HaveSameLists a b
