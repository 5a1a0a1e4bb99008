use Rattle.map_commands.proofs.ProjectWords.{project_spelling-accepted}
use Rattle.map_commands.proofs.project.laws.accept_each_spelling.Goals as goal

pub returns : goal.returns
returns c = project_spelling-accepted
