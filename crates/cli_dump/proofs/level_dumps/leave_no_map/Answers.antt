use Rattle.cli_dump.proofs.LevelDumps.{left_no_map}
use Rattle.cli_dump.proofs.level_dumps.leave_no_map.Goals as goal

pub returns-in-Ok : goal.returns-in-Ok
returns-in-Ok g c =
    left_no_map c.args.name.now c.args.refusal (g.E.Write.contents c.args.errors.now) (g.E.Write.contents c.write_refusal.new.errors) c.in-Ok.ensures
