-- The addition leaves the map well-formed and its name, so the project stays well-formed.
use Rattle.map_tables.specs.declared.edit.Edit.TheVariants.{Add}
use Rattle.map_tables.proofs.ProjectLemmas.{edited-stays, keeps_edit}
use Rattle.map_tables.proofs.maps.Maps.add.Goals as goal

pub invariant_of-self : goal.invariant_of-self
invariant_of-self c =
    keeps_edit c.self.inside c.add.new.self
    (edited-stays c.add.result (Add c.args.item) c.self.inside.map.tables c.add.new.self.tables c.add.ensures.edit c.add.ensures.well_formed)
    c.self.invariant
