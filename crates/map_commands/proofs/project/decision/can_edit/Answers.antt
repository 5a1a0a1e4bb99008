use Rattle.std.proofs.Common.{◌++◌, sym}
use Rattle.map_tables.specs.Projects.{current_map, project_of}
use Rattle.map_commands.specs.ProjectStep.{naming_faults}
use Rattle.map_commands.specs.Step.{faults}
use Rattle.map_commands.proofs.Cutting.{tells-alike}
use Rattle.map_commands.proofs.Steps.{least-none, least-some}
use Rattle.map_commands.proofs.project.decision.can_edit.Goals as goal

pub returns-in-Ok : goal.returns-in-Ok
returns-in-Ok c =
    let fs = faults (current_map (project_of c.args.maps.now)) c.args.command.now in
    let gs = naming_faults (project_of c.args.maps.now) c.args.command.now in
    tells-alike _ gs (fs ++ gs) (sym (least-none fs gs c.in-Ok.ensures)) c.can_be_named.ensures

pub returns-in-Err : goal.returns-in-Err
returns-in-Err c =
    least-some (faults (current_map (project_of c.args.maps.now)) c.args.command.now) (naming_faults (project_of c.args.maps.now) c.args.command.now) _ c.in-Err.ensures
