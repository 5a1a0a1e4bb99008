-- Nothing refuses the side, so the map stays well-formed with it. The lines keep their sides.
use Rattle.std.proofs.Common.{◌≡◌, ◌∙◌, ◌≤◌, refl, ap, length, arith, rules}
use Rattle.std.proofs.lemmas.List.{length-map}
use Rattle.map_tables.specs.MapFields.{tables_of}
use Rattle.map_tables.specs.Edits.{with_side}
use Rattle.map_tables.specs.Keyed.{side_of}
use Rattle.map_tables.proofs.ListLemmas.{map-push}
use Rattle.map_tables.proofs.FaultLemmas.{done, none_hold, not_lacking}
use Rattle.map_tables.proofs.KeyedLemmas.{lines_push_side}
use Rattle.map_tables.proofs.SideLemmas.{with_side-keeps}
use Rattle.map_tables.specs.Faults.{side_faults}
use Rattle.map_tables.proofs.map.Map.add_side.Goals as goal

pub invariant_of-self-2 : goal.invariant_of-self-2
invariant_of-self-2 c =
    let fine = rw (← c.self.view_is) at c.in_ok-can_add_side.ensures in
    let sides = map-push (side_of c.self.inside.sectors.keys) c.self.inside.sides.items c.keyed_side-keyed.result c.args.side c.keyed_side-keyed.ensures in
    let many = length-map c.self.inside.sides.items (side_of c.self.inside.sectors.keys) in
    let few : length c.self.inside.sides.items ≤ 32767 = omega (arith, many, c.self.invariant.side_count) in
    let lines = lines_push_side c.self.inside.vertices.keys c.self.inside.sides c.push.new.self
    (tables_of c.self.inside).sides c.self.inside.lines.items c.in_ok-push.ensures.ranks c.in_ok-push.ensures.count few many c.self.invariant.line_sides in
    rw (c.in_ok-push.ensures.items, sides, lines) (with_side-keeps _ c.args.side c.self.invariant c.requires fine)

pub returns-clause-edit : goal.returns-clause-edit
returns-clause-edit c =
    let fine = rw (← c.self.view_is) at c.in_ok-can_add_side.ensures in
    let sides = map-push (side_of c.self.inside.sectors.keys) c.self.inside.sides.items c.keyed_side-keyed.result c.args.side c.keyed_side-keyed.ensures in
    let many = length-map c.self.inside.sides.items (side_of c.self.inside.sectors.keys) in
    let few : length c.self.inside.sides.items ≤ 32767 = omega (arith, many, c.self.invariant.side_count) in
    let lines = lines_push_side c.self.inside.vertices.keys c.self.inside.sides c.push.new.self
    (tables_of c.self.inside).sides c.self.inside.lines.items c.in_ok-push.ensures.ranks c.in_ok-push.ensures.count few many c.self.invariant.line_sides in
    let number = c.len-number.ensures in
    rw (← c.self.view_is) (done _ (with_side (tables_of c.self.inside) c.args.side) _ _ _ fine (rw (c.in_ok-push.ensures.items, sides, lines) refl) (omega (arith, number, many)))

pub invariant_of-self : goal.invariant_of-self
invariant_of-self c =
    let many = length-map c.self.inside.sides.items (side_of c.self.inside.sectors.keys) in
    let few : length c.self.inside.sides.items ≤ 32767 = omega (arith, many, c.self.invariant.side_count) in
    let lines = lines_push_side c.self.inside.vertices.keys c.self.inside.sides c.push.new.self
    (tables_of c.self.inside).sides c.self.inside.lines.items c.in_err-push.ensures.ranks c.in_err-push.ensures.count few many c.self.invariant.line_sides in
    rw (c.in_err-push.ensures.items, lines) c.self.invariant

pub returns-in_err-push-clause-edit : goal.returns-in_err-push-clause-edit
returns-in_err-push-clause-edit c =
    let many = length-map c.self.inside.sides.items (side_of c.self.inside.sectors.keys) in
    let few : length c.self.inside.sides.items ≤ 32767 = omega (arith, many, c.self.invariant.side_count) in
    let lines = lines_push_side c.self.inside.vertices.keys c.self.inside.sides c.push.new.self
    (tables_of c.self.inside).sides c.self.inside.lines.items c.in_err-push.ensures.ranks c.in_err-push.ensures.count few many c.self.invariant.line_sides in
    let same : tables_of (record c.self.inside { sides = c.push.new.self }) ≡ c.args.self.now.tables = (rw (c.in_err-push.ensures.items, lines) refl) ∙ ap (λ v. v.tables) c.self.view_is in
    search (rules, same)

pub keyed_side-keyed-requires : goal.keyed_side-keyed-requires
keyed_side-keyed-requires c =
    let m = tables_of c.self.inside in
    let fine = rw (← c.self.view_is) at c.in_ok-can_add_side.ensures in
    not_lacking m.sectors c.args.side.sector (none_hold (side_faults m c.args.side) fine).0

pub push-requires : goal.push-requires
push-requires c = omega (arith, length-map c.self.inside.sides.items (side_of c.self.inside.sectors.keys), c.self.invariant.side_count)

pub overflow_cast-number : goal.overflow_cast-number
overflow_cast-number c = omega (arith, c.len-number.ensures, length-map c.self.inside.sides.items (side_of c.self.inside.sectors.keys), c.self.invariant.side_count)
