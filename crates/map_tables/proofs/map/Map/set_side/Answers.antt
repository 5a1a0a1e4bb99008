-- Nothing refuses the side, so the map stays well-formed with it. The lines keep their sides.
use Rattle.std.proofs.Common.{refl, arith}
use Rattle.map_tables.specs.MapFields.{tables_of}
use Rattle.map_tables.specs.Edits.{with_side_at}
use Rattle.map_tables.specs.Keyed.{side_of}
use Rattle.map_tables.proofs.ListLemmas.{map-set_at}
use Rattle.map_tables.proofs.FaultLemmas.{done, none_hold, not_lacking}
use Rattle.map_tables.proofs.SideLemmas.{with_side_at-keeps}
use Rattle.std.proofs.lemmas.List.{length-map}
use Rattle.map_tables.specs.Faults.{set_side_faults}
use Rattle.map_tables.proofs.map.Map.set_side.Goals as goal

pub invariant_of-self : goal.invariant_of-self
invariant_of-self c =
    let fine = rw (← c.self.view_is) at c.in_ok-can_set_side.ensures in
    let sides = map-set_at (side_of c.self.inside.sectors.keys) c.self.inside.sides.items c.args.n c.keyed_side-keyed.result c.args.side c.keyed_side-keyed.ensures in
    rw (c.set.ensures.items, sides, c.set.ensures.keys) (with_side_at-keeps _ c.args.n c.args.side c.self.invariant c.requires fine)

pub returns-clause-edit : goal.returns-clause-edit
returns-clause-edit c =
    let fine = rw (← c.self.view_is) at c.in_ok-can_set_side.ensures in
    let sides = map-set_at (side_of c.self.inside.sectors.keys) c.self.inside.sides.items c.args.n c.keyed_side-keyed.result c.args.side c.keyed_side-keyed.ensures in
    rw (← c.self.view_is) (done _ (with_side_at (tables_of c.self.inside) c.args.n c.args.side) _ tt tt fine (rw (c.set.ensures.items, sides, c.set.ensures.keys) refl) refl)

pub keyed_side-keyed-requires : goal.keyed_side-keyed-requires
keyed_side-keyed-requires c =
    let m = tables_of c.self.inside in
    let fine = rw (← c.self.view_is) at c.in_ok-can_set_side.ensures in
    not_lacking m.sectors c.args.side.sector (none_hold (set_side_faults m c.args.n c.args.side) fine).0

pub set-requires : goal.set-requires
set-requires c =
    let m = tables_of c.self.inside in
    let fine = rw (← c.self.view_is) at c.in_ok-can_set_side.ensures in
    let there = not_lacking m.sides c.args.n (none_hold (set_side_faults m c.args.n c.args.side) fine).1.0 in
    omega (arith, there, length-map c.self.inside.sides.items (side_of c.self.inside.sectors.keys))
