-- No side belongs to the sector, so each side has its sector with the new number.
use Rattle.map_tables.proofs.SectorLemmas.{without_sector-keeps}
use Rattle.map_tables.proofs.KeyedLemmas.{sides_drop_sector, none_in}
use Rattle.map_tables.specs.MapFields.{tables_of}
use Rattle.std.proofs.Common.{refl}
use Rattle.map_tables.proofs.FaultLemmas.{done}
use Rattle.map_tables.specs.Edits.{without_sector}
use Rattle.map_tables.proofs.map.Map.drop_sector.Goals as goal

pub invariant_of-self : goal.invariant_of-self
invariant_of-self c =
    let fine = rw (← c.self.view_is) at c.in_ok-can_drop_sector.ensures in
    let sides =
    sides_drop_sector c.self.inside.sectors c.remove.new.self c.args.n c.self.inside.sides.items c.remove.ensures.ranks c.self.invariant.side_sectors (none_in (tables_of c.self.inside) c.args.n fine) in
    rw (c.remove.ensures.items, sides) (without_sector-keeps _ c.args.n c.self.invariant fine)

pub returns-clause-edit : goal.returns-clause-edit
returns-clause-edit c =
    let fine = rw (← c.self.view_is) at c.in_ok-can_drop_sector.ensures in
    let sides =
    sides_drop_sector c.self.inside.sectors c.remove.new.self c.args.n c.self.inside.sides.items c.remove.ensures.ranks c.self.invariant.side_sectors (none_in (tables_of c.self.inside) c.args.n fine) in
    rw (← c.self.view_is) (done _ (without_sector (tables_of c.self.inside) c.args.n) _ tt tt fine (rw (c.remove.ensures.items, sides) refl) refl)
