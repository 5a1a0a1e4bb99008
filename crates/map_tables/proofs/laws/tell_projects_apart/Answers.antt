-- The parts of a body are those of one list of maps, and the versions differ in their first byte.
use Rattle.map_tables.proofs.BodyLaws.{one_project}
use Rattle.map_tables.proofs.laws.tell_projects_apart.Goals as goal

pub returns : goal.returns
returns c = one_project
