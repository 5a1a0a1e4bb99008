-- Nothing refuses the sector, so the map stays well-formed with it. The sides keep their sectors.
use Rattle.map_tables.proofs.SectorLemmas.{with_sector_at-keeps}
use Rattle.std.proofs.Common.{refl}
use Rattle.map_tables.specs.MapFields.{tables_of}
use Rattle.map_tables.specs.Edits.{with_sector_at}
use Rattle.map_tables.proofs.FaultLemmas.{done}
use Rattle.map_tables.proofs.map.Map.set_sector.Goals as goal

pub invariant_of-self : goal.invariant_of-self
invariant_of-self c = rw (c.set.ensures.items, c.set.ensures.keys) (with_sector_at-keeps _ c.args.n c.args.sector c.self.invariant c.requires)

pub returns-clause-edit : goal.returns-clause-edit
returns-clause-edit c =
    let fine = rw (← c.self.view_is) at c.in_ok-can_set_sector.ensures in
    rw (← c.self.view_is) (done _ (with_sector_at (tables_of c.self.inside) c.args.n c.args.sector) _ tt tt fine (rw (c.set.ensures.items, c.set.ensures.keys) refl) refl)
