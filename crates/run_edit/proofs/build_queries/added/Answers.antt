use Rattle.std.proofs.Common.{◌≡◌, ◌∙◌, ℕ, List, ap, drop, length}
use Rattle.std.specs.Prelude.{flat_map}
use Rattle.std.proofs.lemmas.Result.{IfOk-weaker}
use Rattle.lump_records.specs.Records.{vertex_record}
use Rattle.lump_records.specs.declared.records.Vertex.{Vertex}
use Rattle.wad_levels.specs.Views.{view}
use Rattle.run_edit.proofs.build_queries.added.Goals as goal

pub returns : goal.returns
returns c =
    let drawn = length c.args.map.now.tables.vertices in
    let same : c.behind.result.now ≡ drop drawn (view c.args.level.now).vertices =
    c.behind.ensures ∙ ap (λ (n : ℕ). drop n c.deref.result.now) c.count.ensures.number
    ∙ ap (λ (vs : List Vertex). drop drawn vs) c.deref.ensures.value in
    IfOk-weaker c.encode_vertices.result _ _ (λ v is. is ∙ ap (flat_map vertex_record) same) c.encode_vertices.ensures.bytes
