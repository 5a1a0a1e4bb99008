use Rattle.std.proofs.Common.{List, [], ◌∷◌, ◌++◌, sym, ap, ◌∙◌, arith}
use Rattle.lump_records.specs.declared.records.Vertex.{Vertex}
use Rattle.map_areas.proofs.Copies.{is_there, one_more, all_there}
use Rattle.map_areas.proofs.lists.vertices_of.Goals as goal

pub unwrap-vertex-requires : goal.unwrap-vertex-requires
unwrap-vertex-requires c = is_there c.args.map.now.tables.vertices c.loop-n.n _ c.vertex.ensures.item (omega arith)

pub loop-n-preserved : goal.loop-n-preserved
loop-n-preserved c =
    c.in_ok-push.ensures.items
    ∙ ap (λ (vs : List Vertex). vs ++ c.unwrap-vertex.result ∷ []) c.loop-n.invariant
    ∙ one_more c.args.map.now.tables.vertices c.loop-n.n c.unwrap-vertex.result (sym c.vertex.ensures.item ∙ c.unwrap-vertex.ensures)

pub returns : goal.returns
returns c =
    c.loop-n.invariant ∙ all_there c.args.map.now.tables.vertices c.loop-n.n (omega arith)
