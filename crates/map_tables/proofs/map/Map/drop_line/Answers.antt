-- No item names a line, so the map stays well-formed without it.
use Rattle.std.proofs.Common.{refl, arith}
use Rattle.map_tables.specs.MapFields.{tables_of}
use Rattle.map_tables.specs.Edits.{without_line}
use Rattle.map_tables.specs.Keyed.{line_of}
use Rattle.map_tables.proofs.ListLemmas.{map-remove}
use Rattle.map_tables.proofs.FaultLemmas.{done}
use Rattle.map_tables.proofs.LineLemmas.{without_line-keeps}
use Rattle.std.proofs.lemmas.List.{length-map}
use Rattle.map_tables.proofs.map.Map.drop_line.Goals as goal

pub invariant_of-self : goal.invariant_of-self
invariant_of-self c =
    let fine = rw (← c.self.view_is) at c.in_ok-can_drop_line.ensures in
    rw (c.remove.ensures.items, map-remove (line_of c.self.inside.vertices.keys c.self.inside.sides.keys) c.self.inside.lines.items c.args.n) (without_line-keeps _ c.args.n c.self.invariant fine)

pub returns-clause-edit : goal.returns-clause-edit
returns-clause-edit c =
    let fine = rw (← c.self.view_is) at c.in_ok-can_drop_line.ensures in
    rw (← c.self.view_is) (done _ (without_line (tables_of c.self.inside) c.args.n) _ tt tt fine
    (rw (
      c.remove.ensures.items,
      map-remove
          (line_of c.self.inside.vertices.keys c.self.inside.sides.keys) c.self.inside.lines.items c.args.n,
    ) refl) refl)

pub remove-requires-clause-few : goal.remove-requires-clause-few
remove-requires-clause-few c = omega (arith, length-map c.self.inside.lines.items (line_of c.self.inside.vertices.keys c.self.inside.sides.keys), c.self.invariant.line_count)
