use Rattle.std.proofs.Common.{rules, refl, subst, List}
use Rattle.lump_records.specs.declared.records.Vertex.{Vertex}
use Rattle.tree_pieces.specs.Nodes.{IsLeastBox}
use Rattle.tree_nodes.specs.Corners.{StandsInOne}
use Rattle.tree_nodes.proofs.CornerLemmas.{ends_box}
use Rattle.tree_nodes.proofs.growth.put_leaf.Goals as goal

pub returns-clause-ok : goal.returns-clause-ok
returns-clause-ok c =
    let leaf = c.args.leaf.now in
    let b = c.bounds_of.result in
    record {
      segs = search rules;
      sizes = search rules;
      nodes = refl;
      number = search rules;
      bounds = ends_box c.args.lines.now b leaf.pieces.items leaf.firsts.items leaf.lasts.items c.requires.ended
          (subst (λ (ls : List Vertex). IsLeastBox b (StandsInOne leaf.firsts.items ls)) c.deref-3.ensures.value
          (subst (λ (fs : List Vertex). IsLeastBox b (StandsInOne fs c.deref-3.result.now)) c.deref-2.ensures.value c.bounds_of.ensures));
      few_segs = search rules;
      few_sizes = search rules;
    }
