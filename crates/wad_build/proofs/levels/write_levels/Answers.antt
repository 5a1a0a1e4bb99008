use Rattle.std.proofs.Common.{sym}
use Rattle.wad_build.proofs.LevelLemmas.{coded_more, put_level}
use Rattle.wad_build.proofs.levels.write_levels.Goals as goal

pub loop-n-preserved : goal.loop-n-preserved
loop-n-preserved g c = (
  put_level (g.W.Write.contents c.args.writer.now) (g.W.Write.contents c.loop-n.writer) (g.W.Write.contents c.write_level.new.writer) c.args.levels.now c.loop-n.n c.index-levels-n.result
      c.loop-n-test.true (sym c.index-levels-n.is) c.loop-n.invariant.0 c.in_ok-write_level.ensures.lumps,
  coded_more c.args.levels.now c.loop-n.n c.index-levels-n.result c.loop-n-test.true (sym c.index-levels-n.is) c.loop-n.invariant.1 c.in_ok-write_level.ensures.coded,
)
