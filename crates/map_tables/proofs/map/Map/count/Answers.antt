-- Every map is well-formed, by its invariant.
use Rattle.std.proofs.Common.{subst}
use Rattle.map_tables.specs.Tables.{MapView}
use Rattle.map_tables.specs.WellFormed.{WellFormed}
use Rattle.map_tables.proofs.map.Map.count.Goals as goal

pub returns-clause-well_formed : goal.returns-clause-well_formed
returns-clause-well_formed c = subst (λ (v : MapView). WellFormed v.tables) c.self.view_is c.self.invariant
