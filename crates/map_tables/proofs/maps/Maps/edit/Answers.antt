-- The edit leaves the map well-formed and its name, so the project stays well-formed.
use Rattle.map_tables.proofs.ProjectLemmas.{edited-stays, keeps_edit}
use Rattle.map_tables.proofs.maps.Maps.edit.Goals as goal

pub invariant_of-self : goal.invariant_of-self
invariant_of-self c =
    keeps_edit c.self.inside c.edit.new.self
    (edited-stays c.edit.result c.args.edit c.self.inside.map.tables c.edit.new.self.tables c.edit.ensures.edit c.edit.ensures.well_formed)
    c.self.invariant
