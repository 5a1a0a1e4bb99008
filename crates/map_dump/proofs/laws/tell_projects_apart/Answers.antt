use Rattle.map_dump.proofs.Drawn.{tells_apart}
use Rattle.map_dump.proofs.laws.tell_projects_apart.Goals as goal

pub returns : goal.returns
returns c = tells_apart
