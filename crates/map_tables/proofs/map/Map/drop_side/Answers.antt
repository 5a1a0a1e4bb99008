-- No line names the side, so each line names its sides by their new numbers.
use Rattle.std.proofs.Common.{◌≤◌, refl, length, arith}
use Rattle.std.proofs.lemmas.List.{length-map}
use Rattle.map_tables.specs.MapFields.{tables_of}
use Rattle.map_tables.specs.Edits.{without_side}
use Rattle.map_tables.specs.Keyed.{side_of}
use Rattle.map_tables.proofs.ListLemmas.{map-remove}
use Rattle.map_tables.proofs.FaultLemmas.{done, none_hold, not_lacking}
use Rattle.map_tables.proofs.KeyedLemmas.{lines_drop_side, none_with}
use Rattle.map_tables.proofs.SideLemmas.{without_side-keeps}
use Rattle.map_tables.specs.Faults.{drop_side_faults}
use Rattle.map_tables.proofs.map.Map.drop_side.Goals as goal

pub invariant_of-self : goal.invariant_of-self
invariant_of-self c =
    let fine = rw (← c.self.view_is) at c.in_ok-can_drop_side.ensures in
    let many = length-map c.self.inside.sides.items (side_of c.self.inside.sectors.keys) in
    let few : length c.self.inside.sides.items ≤ 32767 = omega (arith, many, c.self.invariant.side_count) in
    let lines = lines_drop_side c.self.inside.vertices.keys c.self.inside.sides c.remove.new.self c.args.n
    (tables_of c.self.inside).sides c.self.inside.lines.items c.remove.ensures.ranks c.remove.ensures.count few many c.self.invariant.line_sides (none_with (tables_of c.self.inside) c.args.n fine) in
    rw (c.remove.ensures.items, map-remove (side_of c.self.inside.sectors.keys) c.self.inside.sides.items c.args.n, lines) (without_side-keeps _ c.args.n c.self.invariant fine)

pub returns-clause-edit : goal.returns-clause-edit
returns-clause-edit c =
    let fine = rw (← c.self.view_is) at c.in_ok-can_drop_side.ensures in
    let many = length-map c.self.inside.sides.items (side_of c.self.inside.sectors.keys) in
    let few : length c.self.inside.sides.items ≤ 32767 = omega (arith, many, c.self.invariant.side_count) in
    let lines = lines_drop_side c.self.inside.vertices.keys c.self.inside.sides c.remove.new.self c.args.n
    (tables_of c.self.inside).sides c.self.inside.lines.items c.remove.ensures.ranks c.remove.ensures.count few many c.self.invariant.line_sides (none_with (tables_of c.self.inside) c.args.n fine) in
    rw (← c.self.view_is) (done _ (without_side (tables_of c.self.inside) c.args.n) _ tt tt fine
    (rw (
      c.remove.ensures.items,
      map-remove (side_of c.self.inside.sectors.keys) c.self.inside.sides.items c.args.n,
      lines,
    ) refl) refl)

pub remove-requires-clause-few : goal.remove-requires-clause-few
remove-requires-clause-few c = omega (arith, length-map c.self.inside.sides.items (side_of c.self.inside.sectors.keys), c.self.invariant.side_count)

pub remove-requires-clause-there : goal.remove-requires-clause-there
remove-requires-clause-there c =
    let m = tables_of c.self.inside in
    let fine = rw (← c.self.view_is) at c.in_ok-can_drop_side.ensures in
    let there = not_lacking m.sides c.args.n (none_hold (drop_side_faults m c.args.n) fine).0 in
    omega (arith, there, length-map c.self.inside.sides.items (side_of c.self.inside.sectors.keys))
