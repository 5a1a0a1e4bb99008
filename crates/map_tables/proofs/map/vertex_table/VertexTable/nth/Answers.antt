-- The vertex with the number, or the origin.
use Rattle.std.proofs.Common.{◌∙◌}
use Rattle.std.proofs.lemmas.Option.{unwrap_or-slice_get}
use Rattle.map_tables.proofs.map.vertex_table.VertexTable.nth.Goals as goal

pub returns : goal.returns
returns c = c.unwrap_or.ensures ∙ (rw (c.get.ensures, c.from.ensures) (unwrap_or-slice_get c.args.self.now.items c.args.n _))
