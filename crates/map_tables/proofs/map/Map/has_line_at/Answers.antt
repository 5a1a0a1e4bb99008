-- The lines of a vertex are those with its key.
use Rattle.std.proofs.Common.{◌∙◌, sym, ap}
use Rattle.std.specs.List.{list_any}
use Rattle.map_tables.specs.Faults.{uses_vertex}
use Rattle.map_tables.proofs.KeyedLemmas.{lines_at}
use Rattle.map_tables.proofs.map.Map.has_line_at.Goals as goal

pub returns : goal.returns
returns c =
    c.has_line_with_end.ensures
    ∙ sym (lines_at c.self.inside.vertices.keys c.self.inside.sides.keys c.args.n c.key_at.result c.self.inside.lines.items c.key_at.ensures.only)
    ∙ ap (λ v. list_any (uses_vertex c.args.n) v.tables.lines) c.self.view_is
