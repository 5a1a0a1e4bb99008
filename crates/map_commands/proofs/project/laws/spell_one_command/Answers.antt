use Rattle.map_commands.proofs.ProjectWords.{project_spelling-one}
use Rattle.map_commands.proofs.project.laws.spell_one_command.Goals as goal

pub returns : goal.returns
returns c = project_spelling-one
