use Rattle.map_commands.proofs.ProjectOutcomes.{one_way}
use Rattle.map_commands.proofs.project.laws.end_in_one_way.Goals as goal

pub returns : goal.returns
returns c = one_way
