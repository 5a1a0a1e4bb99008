-- The map exists and isn't the current one.
use Rattle.map_tables.specs.Projects.{project_of}
use Rattle.map_tables.proofs.ProjectLemmas.{other_map}
use Rattle.map_tables.proofs.maps.Maps.drop_map.Goals as goal

pub take_out-requires-clause-other : goal.take_out-requires-clause-other
take_out-requires-clause-other c = other_map (project_of c.args.self.now) c.args.name _ c.number_of-n.ensures.value c.in_ok-can_drop_map.ensures
