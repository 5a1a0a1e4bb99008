use Rattle.cli_dump.proofs.LevelDumps.{note_more}
use Rattle.cli_dump.proofs.level_dumps.write_changes.Goals as goal

pub loop-change-preserved : goal.loop-change-preserved
loop-change-preserved g c =
    note_more c.args.name.now c.args.changes.now c.loop-change.change-index _ (g.E.Write.contents c.args.errors.now) (g.E.Write.contents c.loop-change.errors)
    (g.E.Write.contents c.write_change.new.errors) c.loop-change-test.true c.loop-change.invariant c.in-Ok.ensures
