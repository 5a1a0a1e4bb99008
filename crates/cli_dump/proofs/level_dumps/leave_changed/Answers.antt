use Rattle.cli_dump.proofs.LevelDumps.{left_changed}
use Rattle.cli_dump.proofs.level_dumps.leave_changed.Goals as goal

pub returns-in-Ok : goal.returns-in-Ok
returns-in-Ok g c =
    left_changed c.args.name.now c.args.change (g.E.Write.contents c.args.errors.now) (g.E.Write.contents c.write_change.new.errors) c.in-Ok.ensures
