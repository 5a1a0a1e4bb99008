use Rattle.std.proofs.Common.{sym}
use Rattle.wad_build.proofs.LevelLemmas.{level_listed}
use Rattle.wad_build.proofs.sizes.list_levels.Goals as goal

pub loop-n-preserved : goal.loop-n-preserved
loop-n-preserved c =
    level_listed c.loop-n.list c.list_level.new.list c.args.levels.now c.loop-n.n c.index-levels-n.result c.loop-n-test.true (sym c.index-levels-n.is) c.loop-n.invariant
    c.in_ok-list_level.ensures.lumps
