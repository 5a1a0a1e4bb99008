-- Lines and drawn vertices have one built tree.
use Rattle.std.proofs.Common.{◌∙◌, sym, subst, List}
use Rattle.lump_records.specs.declared.records.Vertex.{Vertex}
use Rattle.tree_pieces.specs.declared.edge.Edge.{Edge}
use Rattle.tree_pieces.specs.First.{first_pieces}
use Rattle.tree_pieces.specs.Tree.{Tree, none_used, pieces}
use Rattle.tree_pieces.proofs.Choice.{one_tree}
use Rattle.tree_nodes.specs.Built.{IsBuiltOver}
use Rattle.tree_nodes.specs.Laws.{HaveSameLists, LinesHaveOneBuild}
use Rattle.tree_nodes.specs.TreeLists.{AreListsOf}
use Rattle.tree_nodes.specs.declared.built.Built.{Built}
use Rattle.tree_nodes.proofs.OneNumbering.{IsNumbering, segs_same, vertices_same}
use Rattle.tree_nodes.proofs.OneTree.{one_nodes, one_subs}

module _ (lines : List Edge) (drawn : List Vertex) where
  -- what is built is a numbering of the tree's pieces
  numbering : (b : Built) (t : Tree) → IsBuiltOver lines drawn b → AreListsOf lines b.vertices.items t b.segs.items b.subs.items b.nodes.items
      → IsNumbering lines drawn (pieces t) b.vertices.items b.segs.items
  numbering b t is lists =
      record { segs_are = lists.leaf_segs; places = is.sound.places; added = is.sound.added_ends; firsts = is.sound.run_along.firsts }

  -- two builds of one tree
  of_one_tree : (a b : Built) (t : Tree) → IsBuiltOver lines drawn a → IsBuiltOver lines drawn b
      → AreListsOf lines a.vertices.items t a.segs.items a.subs.items a.nodes.items
      → AreListsOf lines b.vertices.items t b.segs.items b.subs.items b.nodes.items → HaveSameLists a b
  of_one_tree a b t is also f g =
      let one = numbering a t is f in
      let two = numbering b t also g in
      record {
        vertices = vertices_same lines drawn (pieces t) a.vertices.items b.vertices.items a.segs.items b.segs.items one two;
        segs = segs_same lines drawn (pieces t) a.vertices.items b.vertices.items a.segs.items b.segs.items one two;
        subs = one_subs 0 a.subs.items b.subs.items f.follow g.follow (f.leaf_counts ∙ sym g.leaf_counts);
        nodes = one_nodes lines t 0 0 a.nodes.items b.nodes.items f.branch_nodes g.branch_nodes;
      }

pub one_build : LinesHaveOneBuild
one_build lines drawn a b is also =
    let t = is.of_tree.tree in
    let u = also.of_tree.tree in
    let same = one_tree lines u t (first_pieces lines) (none_used lines) also.of_tree.of_lines.divides is.of_tree.of_lines.divides in
    of_one_tree lines drawn a b t is also is.of_tree.lists
    (subst (λ (x : Tree). AreListsOf lines b.vertices.items x b.segs.items b.subs.items b.nodes.items) same also.of_tree.lists)
