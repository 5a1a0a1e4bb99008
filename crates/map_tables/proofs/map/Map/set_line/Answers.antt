-- Nothing refuses the line, so the map stays well-formed with it.
use Rattle.std.proofs.Common.{refl, arith}
use Rattle.std.proofs.lemmas.List.{length-map}
use Rattle.map_tables.specs.MapFields.{tables_of}
use Rattle.map_tables.specs.Edits.{with_line_at}
use Rattle.map_tables.specs.Keyed.{line_of, side_of}
use Rattle.map_tables.proofs.ListLemmas.{map-set_at}
use Rattle.map_tables.proofs.FaultLemmas.{done, none_hold, not_lacking}
use Rattle.map_tables.proofs.KeyedLemmas.{found_from}
use Rattle.map_tables.proofs.LineLemmas.{changed_fits, with_line_at-keeps}
use Rattle.map_tables.specs.Faults.{set_line_faults}
use Rattle.map_tables.proofs.map.Map.set_line.Goals as goal

pub keyed_line-keyed-requires : goal.keyed_line-keyed-requires
keyed_line-keyed-requires c =
    let fine = rw (← c.self.view_is) at c.in_ok-can_set_line.ensures in
    let fits = changed_fits (tables_of c.self.inside) c.args.n c.args.line fine in
    found_from c.self.inside.vertices.items (tables_of c.self.inside).sides _ c.args.line (length-map c.self.inside.sides.items (side_of c.self.inside.sectors.keys)) fits.0 fits.1

pub invariant_of-self : goal.invariant_of-self
invariant_of-self c =
    let fine = rw (← c.self.view_is) at c.in_ok-can_set_line.ensures in
    let lines = map-set_at (line_of c.self.inside.vertices.keys c.self.inside.sides.keys) c.self.inside.lines.items c.args.n c.keyed_line-keyed.result c.args.line c.keyed_line-keyed.ensures in
    rw (c.set.ensures.items, lines) (with_line_at-keeps _ c.args.n c.args.line c.self.invariant c.requires fine)

pub returns-clause-edit : goal.returns-clause-edit
returns-clause-edit c =
    let fine = rw (← c.self.view_is) at c.in_ok-can_set_line.ensures in
    let lines = map-set_at (line_of c.self.inside.vertices.keys c.self.inside.sides.keys) c.self.inside.lines.items c.args.n c.keyed_line-keyed.result c.args.line c.keyed_line-keyed.ensures in
    rw (← c.self.view_is) (done _ (with_line_at (tables_of c.self.inside) c.args.n c.args.line) _ tt tt fine (rw (c.set.ensures.items, lines) refl) refl)

pub set-requires : goal.set-requires
set-requires c =
    let m = tables_of c.self.inside in
    let fine = rw (← c.self.view_is) at c.in_ok-can_set_line.ensures in
    let there = not_lacking m.lines c.args.n (none_hold (set_line_faults m c.args.n c.args.line) fine).1.1.0 in
    omega (arith, there, length-map c.self.inside.lines.items (line_of c.self.inside.vertices.keys c.self.inside.sides.keys))
