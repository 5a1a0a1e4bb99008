use Rattle.std.proofs.Common.{◌∙◌, ap, sym}
use Rattle.map_tables.specs.Outcomes.{least}
use Rattle.map_tables.specs.Projects.{current_map, project_of}
use Rattle.map_tables.proofs.ProjectLemmas.{current_of}
use Rattle.map_commands.specs.Step.{faults}
use Rattle.map_commands.proofs.Cutting.{tells-alike}
use Rattle.map_commands.proofs.project.decision.can_change.Goals as goal

pub returns : goal.returns
returns c =
    tells-alike _ (faults c.current.result.now.tables c.args.command.now) (faults (current_map (project_of c.args.maps.now)) c.args.command.now)
    (ap (λ m. least (faults m c.args.command.now)) (c.current.ensures.tables ∙ sym (current_of c.args.maps.now))) c.can_do.ensures
