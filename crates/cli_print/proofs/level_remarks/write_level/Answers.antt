use Rattle.std.proofs.Common.{rules}
use Rattle.cli_print.specs.Choosing.{wants_view}
use Rattle.cli_print.proofs.LevelLines.{level_lost, refusal_told}
use Rattle.cli_print.proofs.level_remarks.write_level.Goals as goal

pub returns-in-Err-OutOfMemory : goal.returns-in-Err-OutOfMemory
returns-in-Err-OutOfMemory g c =
    level_lost (wants_view c.args.wants) c.args.wad.now c.args.level c.args.before (g.W.Write.contents c.args.writer.now)

pub returns-in-Err : goal.returns-in-Err
returns-in-Err g c =
    refusal_told (wants_view c.args.wants) c.args.wad.now c.args.level c.count_no_map.result c.args.before c.level_name-name.result c.in-Err.error
    (g.W.Write.contents c.args.writer.now) (g.W.Write.contents c.count_no_map.new.writer) c.level_name-name.ensures c.in-Err.ensures (search rules) c.count_no_map.ensures
