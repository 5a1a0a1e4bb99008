use Rattle.std.proofs.Common.{◌≤◌}
use Rattle.std.specs.Prelude.{map, take}
use Rattle.map_tables.specs.Projects.{body_len, project_of}
use Rattle.map_commands.specs.ProjectCommands.{project_spelling}
use Rattle.map_commands.specs.ProjectLines.{Leads}
use Rattle.store_project.proofs.project.group.replay.Given as goal

-- the commands so far led to the maps
abbrev pub invariant-loop-command : goal.invariant-loop-command
invariant-loop-command l =
    record {
      led : Leads l.fn.cap (project_of l.fn.maps) (map project_spelling (take l.command-index l.commands)) (project_of l.maps);
      fits : body_len (project_of l.maps) ≤ l.fn.cap;
    }
