use Rattle.std.proofs.Common.{◌∙◌, ap}
use Rattle.std.specs.Option.{unwrap_or}
use Rattle.std.proofs.lemmas.Option.{unwrap_or-slice_get}
use Rattle.std.specs.Prelude.{pos}
use Rattle.lump_records.specs.declared.records.Vertex.{Vertex}
use Rattle.tree_blocks.proofs.line_ends.place.Goals as goal

pub returns : goal.returns
returns c =
    let origin : Vertex = record { x = pos 0; y = pos 0 } in
    let item = rw c.from.ensures at c.vertex.ensures.item in
    c.unwrap_or.ensures ∙ ap (λ o. unwrap_or o origin) item ∙ unwrap_or-slice_get c.args.map.now.tables.vertices c.args.vertex origin
