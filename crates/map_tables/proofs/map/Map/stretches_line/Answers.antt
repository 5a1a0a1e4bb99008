-- Each line is tested by the numbers of its vertices.
use Rattle.std.proofs.Common.{◌∙◌, ◌&&◌, sym, ap}
use Rattle.std.specs.Prelude.{slice_set}
use Rattle.std.specs.List.{list_any}
use Rattle.map_tables.specs.Faults.{uses_vertex, is_too_long}
use Rattle.map_tables.specs.Keyed.{line_of}
use Rattle.map_tables.proofs.ListLemmas.{any-map}
use Rattle.map_tables.proofs.map.Map.stretches_line.Goals as goal

pub returns : goal.returns
returns c =
    c.has_line_stretched.ensures
    ∙ sym (any-map (λ l. uses_vertex c.args.n l && is_too_long
    (slice_set c.self.inside.vertices.items c.args.n c.args.to) l)
    (line_of c.self.inside.vertices.keys c.self.inside.sides.keys) c.self.inside.lines.items)
    ∙ ap (λ v. list_any (λ l. uses_vertex c.args.n l && is_too_long (slice_set v.tables.vertices c.args.n c.args.to) l) v.tables.lines) c.self.view_is
