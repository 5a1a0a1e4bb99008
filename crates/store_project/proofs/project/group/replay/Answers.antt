use Rattle.std.proofs.Common.{sym, ◌∙◌}
use Rattle.std.proofs.lemmas.List.Elements.{All-get_or}
use Rattle.map_commands.specs.ProjectCommands.{InProjectRange}
use Rattle.map_tables.specs.Projects.{project_of}
use Rattle.store_project.proofs.Catching.{led_next}
use Rattle.store_project.proofs.project.group.replay.Goals as goal

pub loop-command-preserved : goal.loop-command-preserved
loop-command-preserved c = record {
  led =
      led_next c.args.cap (project_of c.args.maps.now) (project_of c.loop-command.maps) (project_of c.apply.new.maps) c.args.commands.now c.loop-command.command-index _ c.apply.result
      c.loop-command-test.true (sym c.is_err.ensures.value ∙ c.if-is_err.false)
      (All-get_or InProjectRange c.args.commands.now c.loop-command.command-index _ c.loop-command-test.true c.requires.range) c.loop-command.invariant.led c.apply.ensures.ends;
  fits = c.apply.ensures.fits;
}
