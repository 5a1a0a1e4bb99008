use Rattle.std.proofs.Common.{refl}
use Rattle.wad_rebuild.proofs.InTurn.{one_unbuilt}
use Rattle.wad_rebuild.proofs.levels.unbuilt.Goals as goal

pub loop-level-preserved : goal.loop-level-preserved
loop-level-preserved c =
    one_unbuilt c.args.wad.now c.args.levels.now c.loop-level.level-index c.loop-level.unbuilt.items c.push.new.self.items _ _ c.loop-level.invariant.0 c.loop-level.invariant.1
    c.in_ok-push.ensures.items c.loop-level-test.true refl c.level_name.ensures
