-- Nothing refuses the line, so the map stays well-formed with it.
use Rattle.std.proofs.Common.{refl, arith}
use Rattle.std.proofs.lemmas.List.{length-map}
use Rattle.map_tables.specs.MapFields.{tables_of}
use Rattle.map_tables.specs.Edits.{with_line}
use Rattle.map_tables.specs.Keyed.{line_of, side_of}
use Rattle.map_tables.proofs.ListLemmas.{map-push}
use Rattle.map_tables.proofs.FaultLemmas.{done}
use Rattle.map_tables.proofs.KeyedLemmas.{found_from}
use Rattle.map_tables.proofs.LineLemmas.{new_fits, with_line-keeps}
use Rattle.map_tables.proofs.map.Map.add_line.Goals as goal

pub keyed_line-keyed-requires : goal.keyed_line-keyed-requires
keyed_line-keyed-requires c =
    let fine = rw (← c.self.view_is) at c.in_ok-can_add_line.ensures in
    let fits = new_fits (tables_of c.self.inside) c.args.line fine in
    found_from c.self.inside.vertices.items (tables_of c.self.inside).sides _ c.args.line (length-map c.self.inside.sides.items (side_of c.self.inside.sectors.keys)) fits.0 fits.1

pub invariant_of-self-2 : goal.invariant_of-self-2
invariant_of-self-2 c =
    let fine = rw (← c.self.view_is) at c.in_ok-can_add_line.ensures in
    let lines = map-push (line_of c.self.inside.vertices.keys c.self.inside.sides.keys) c.self.inside.lines.items c.keyed_line-keyed.result c.args.line c.keyed_line-keyed.ensures in
    rw (c.in_ok-push.ensures.items, lines) (with_line-keeps _ c.args.line c.self.invariant c.requires fine)

pub returns-clause-edit : goal.returns-clause-edit
returns-clause-edit c =
    let fine = rw (← c.self.view_is) at c.in_ok-can_add_line.ensures in
    let lines = map-push (line_of c.self.inside.vertices.keys c.self.inside.sides.keys) c.self.inside.lines.items c.keyed_line-keyed.result c.args.line c.keyed_line-keyed.ensures in
    rw (← c.self.view_is) (done _ (with_line (tables_of c.self.inside) c.args.line) _ _ _ fine
    (rw (c.in_ok-push.ensures.items, lines) refl)
    (omega (
      arith,
      c.len-number.ensures,
      length-map c.self.inside.lines.items
          (line_of c.self.inside.vertices.keys c.self.inside.sides.keys),
    )))

pub push-requires : goal.push-requires
push-requires c =
    omega (arith, length-map c.self.inside.lines.items (line_of c.self.inside.vertices.keys c.self.inside.sides.keys), c.self.invariant.line_count)

pub overflow_cast-number : goal.overflow_cast-number
overflow_cast-number c = omega (arith, c.len-number.ensures, length-map c.self.inside.lines.items (line_of c.self.inside.vertices.keys c.self.inside.sides.keys), c.self.invariant.line_count)
