use Rattle.map_commands.proofs.FormsOfAll.{all_forms}
use Rattle.map_commands.proofs.project.laws.have_a_form_each.Goals as goal

pub returns : goal.returns
returns c = all_forms
