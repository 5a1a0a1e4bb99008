-- Nothing refuses the sector, so the map stays well-formed with it. The sides keep their sectors.
use Rattle.map_tables.proofs.SectorLemmas.{with_sector-keeps}
use Rattle.map_tables.proofs.KeyedLemmas.{sides_push_sector}
use Rattle.std.proofs.Common.{◌≡◌, ◌∙◌, refl, ap, rules}
use Rattle.map_tables.proofs.FaultLemmas.{done}
use Rattle.map_tables.specs.MapFields.{tables_of}
use Rattle.map_tables.specs.Edits.{with_sector}
use Rattle.map_tables.proofs.map.Map.add_sector.Goals as goal

pub invariant_of-self-2 : goal.invariant_of-self-2
invariant_of-self-2 c =
    let sides = sides_push_sector c.self.inside.sectors c.push.new.self c.self.inside.sides.items c.in_ok-push.ensures.ranks c.self.invariant.side_sectors in
    rw (c.in_ok-push.ensures.items, sides) (with_sector-keeps _ c.args.sector c.self.invariant c.requires (rw (← c.self.view_is) at c.in_ok-can_add_sector.ensures))

pub returns-clause-edit : goal.returns-clause-edit
returns-clause-edit c =
    let fine = rw (← c.self.view_is) at c.in_ok-can_add_sector.ensures in
    let sides = sides_push_sector c.self.inside.sectors c.push.new.self c.self.inside.sides.items c.in_ok-push.ensures.ranks c.self.invariant.side_sectors in
    rw (← c.self.view_is) (done _ (with_sector (tables_of c.self.inside) c.args.sector) _ _ _ fine (rw (c.in_ok-push.ensures.items, sides) refl) c.len-number.ensures)

pub invariant_of-self : goal.invariant_of-self
invariant_of-self c =
    let sides = sides_push_sector c.self.inside.sectors c.push.new.self c.self.inside.sides.items c.in_err-push.ensures.ranks c.self.invariant.side_sectors in
    rw (c.in_err-push.ensures.items, sides) c.self.invariant

pub returns-in_err-push-clause-edit : goal.returns-in_err-push-clause-edit
returns-in_err-push-clause-edit c =
    let sides = sides_push_sector c.self.inside.sectors c.push.new.self c.self.inside.sides.items c.in_err-push.ensures.ranks c.self.invariant.side_sectors in
    let same : tables_of (record c.self.inside { sectors = c.push.new.self }) ≡ c.args.self.now.tables = (rw (c.in_err-push.ensures.items, sides) refl) ∙ ap (λ v. v.tables) c.self.view_is in
    search (rules, same)
