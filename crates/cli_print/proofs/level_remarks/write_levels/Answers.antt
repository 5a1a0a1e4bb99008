use Rattle.std.proofs.Common.{[], refl}
use Rattle.std.proofs.KnownBytes.{Appends-nil}
use Rattle.cli_print.specs.Choosing.{wants_view}
use Rattle.cli_print.proofs.LevelLines.{levels_more, levels_stopped}
use Rattle.cli_print.proofs.level_remarks.write_levels.Goals as goal

pub loop-level-init : goal.loop-level-init
loop-level-init g c = ([], refl, refl, Appends-nil (g.W.Write.contents c.args.writer.now))

pub loop-level-preserved : goal.loop-level-preserved
loop-level-preserved g c =
    levels_more (wants_view c.args.wants) c.args.wad.now c.args.levels.now c.loop-level.level-index _ c.loop-level.count c.in-Ok.sum
    (g.W.Write.contents c.args.writer.now) (g.W.Write.contents c.loop-level.writer) (g.W.Write.contents c.write_level.new.writer) c.loop-level-test.true
    c.loop-level.invariant c.in-Ok.ensures

pub returns-in-Err : goal.returns-in-Err
returns-in-Err g c =
    levels_stopped (wants_view c.args.wants) c.args.wad.now c.args.levels.now c.loop-level.level-index _ c.loop-level.count c.in-Err.error
    (g.W.Write.contents c.args.writer.now) (g.W.Write.contents c.loop-level.writer) (g.W.Write.contents c.write_level.new.writer) c.loop-level-test.true
    c.loop-level.invariant c.in-Err.ensures
