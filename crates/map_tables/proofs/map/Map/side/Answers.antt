-- What is true of each side of the map is true of this one.
use Rattle.std.proofs.Common.{◌≡◌, ap, length, arith, rules}
use Rattle.std.specs.Prelude.{Some, slice_get}
use Rattle.map_tables.specs.Ranges.{IsSide}
use Rattle.map_tables.specs.WellFormed.{HasSector}
use Rattle.map_tables.specs.Keyed.{side_of}
use Rattle.map_tables.proofs.ListLemmas.{given_holds}
use Rattle.map_tables.proofs.map.Map.side.Goals as goal

pub returns-clause-range : goal.returns-clause-range
returns-clause-range c =
    let there : slice_get c.self.inside.sides.items c.args.n ≡ Some c.in_ok-side.side = search rules in
    rw c.numbered_side.ensures (given_holds IsSide (side_of c.self.inside.sectors.keys) c.self.inside.sides.items c.args.n c.in_ok-side.side there c.self.invariant.sides)

pub returns-clause-sector : goal.returns-clause-sector
returns-clause-sector c =
    let there : slice_get c.self.inside.sides.items c.args.n ≡ Some c.in_ok-side.side = search rules in
    let sectors = ap (λ v. length v.tables.sectors) c.self.view_is in
    let within = given_holds (HasSector c.self.inside.sectors.items) (side_of c.self.inside.sectors.keys) c.self.inside.sides.items c.args.n c.in_ok-side.side there c.self.invariant.side_sectors in
    rw c.numbered_side.ensures (omega (arith, sectors, within))
