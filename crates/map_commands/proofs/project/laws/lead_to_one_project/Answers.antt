use Rattle.map_commands.proofs.ProjectOutcomes.{one_project}
use Rattle.map_commands.proofs.project.laws.lead_to_one_project.Goals as goal

pub returns : goal.returns
returns c = one_project
