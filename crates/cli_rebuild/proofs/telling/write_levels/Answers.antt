use Rattle.cli_rebuild.specs.Rebuilding.{fate_text}
use Rattle.cli_rebuild.proofs.Rebuilding.{texts_more}
use Rattle.cli_rebuild.proofs.telling.write_levels.Goals as goal

pub loop-level-preserved : goal.loop-level-preserved
loop-level-preserved g c =
    texts_more (λ l. fate_text l.name l.fate) c.args.levels.now c.loop-level.level-index c.level-item.result c.level-item.result (g.W.Write.contents c.args.writer.now)
    (g.W.Write.contents c.loop-level.writer) (g.W.Write.contents c.write_level.new.writer) c.loop-level-test.true c.level-item.is c.loop-level.invariant c.in-Ok.ensures
