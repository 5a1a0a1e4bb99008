use Rattle.std.proofs.Common.{◌<◌, length, sym, subst, take, arith, All}
use Rattle.std.proofs.lemmas.Option.{slice_get-get_or}
use Rattle.tree_pieces.specs.Plane.{IsEdge}
use Rattle.tree_pieces.proofs.EdgeLemmas.{buildable_drawn, buildable_more, edges_more}
use Rattle.tree_pieces.proofs.line_list.edges_in.Goals as goal

pub loop-n-preserved : goal.loop-n-preserved
loop-n-preserved c =
    let vs = c.args.vertices.now in
    let ls = c.args.lines.now in
    let n = c.loop-n.n in
    let h : n < length ls = omega (arith, c.loop-n-test.true) in
    record {
      edges = edges_more vs ls n _ c.loop-n.edges.items c.push.new.self.items c.in-Ok-edge_in.edge c.loop-n.invariant.edges (slice_get-get_or ls n _ h) c.in-Ok-edge_in.ensures.edge c.in-Ok-push.ensures.items;
      each = buildable_more vs c.args.sides.now ls n _ c.loop-n.invariant.each (slice_get-get_or ls n _ h) c.in-Ok-edge_in.ensures.buildable;
    }

pub of-requires : goal.of-requires
of-requires c =
    subst (All IsEdge) (sym c.loop-n.invariant.edges)
    (buildable_drawn c.args.vertices.now c.args.sides.now (take c.loop-n.n c.args.lines.now) c.loop-n.invariant.each)
