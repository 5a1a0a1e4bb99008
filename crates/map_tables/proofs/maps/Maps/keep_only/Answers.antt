-- A single well-formed map is a project.
use Rattle.std.proofs.Common.{[], arith}
use Rattle.std.proofs.lemmas.List.Elements.{All-push}
use Rattle.map_tables.specs.Tables.{Tables}
use Rattle.map_tables.specs.WellFormed.{WellFormed}
use Rattle.map_tables.specs.Projects.{WellFormedProject}
use Rattle.map_tables.specs.ProjectBody.{alone}
use Rattle.map_tables.proofs.maps.Maps.keep_only.Goals as goal

one_fine : (m : Tables) → WellFormed m → WellFormedProject (alone m)
one_fine m w =
    record {
      count = omega arith;
      current = omega arith;
      maps = All-push WellFormed [] m (λ k d h. absurd (omega arith)) w;
      names = λ i j d before within. absurd (omega arith);
    }

pub invariant_of-self : goal.invariant_of-self
invariant_of-self c = record { number = omega arith; project = rw c.clear.ensures (one_fine c.args.map.tables c.requires) }

pub returns-clause-well_formed : goal.returns-clause-well_formed
returns-clause-well_formed c = rw c.clear.ensures (one_fine c.args.map.tables c.requires)
