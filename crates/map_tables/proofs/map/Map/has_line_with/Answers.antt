-- The lines of a side are those with its key.
use Rattle.std.proofs.Common.{◌∙◌, ◌<◌, sym, ap, arith}
use Rattle.std.specs.List.{list_any}
use Rattle.map_tables.specs.Faults.{uses_side}
use Rattle.map_tables.specs.Tables.{no_side}
use Rattle.map_tables.proofs.KeyedLemmas.{lines_with}
use Rattle.map_tables.proofs.map.Map.has_line_with.Goals as goal

pub returns : goal.returns
returns c =
    let there = rw (← c.self.view_is) at c.requires in
    let few : c.args.n < no_side = omega (arith, there, c.self.invariant.side_count) in
    c.has_line_with_key.ensures
    ∙ sym (lines_with c.self.inside.vertices.keys c.self.inside.sides.keys c.args.n c.key_at.result c.self.inside.lines.items few c.key_at.ensures.only)
    ∙ ap (λ v. list_any (uses_side c.args.n) v.tables.lines) c.self.view_is
