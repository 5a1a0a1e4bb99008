use Rattle.map_commands.proofs.ProjectSteps.{renamed}
use Rattle.map_commands.proofs.edits.put_name.Goals as goal

pub returns-clause-tables : goal.returns-clause-tables
returns-clause-tables c =
    renamed c.args.maps.now c.set_name.new.self c.args.name c.set_name.result c.requires.accepted c.set_name.ensures.others c.set_name.ensures.edit
