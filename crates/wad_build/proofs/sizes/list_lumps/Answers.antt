use Rattle.std.proofs.Common.{arith}
use Rattle.wad_build.proofs.LevelLemmas.{lumps_listed, lumps_whole}
use Rattle.wad_build.proofs.sizes.list_lumps.Goals as goal

pub loop-n-preserved : goal.loop-n-preserved
loop-n-preserved c =
    lumps_listed c.args.list.now c.loop-n.list c.list_lump.new.list c.args.names.now c.args.sizes.now c.loop-n.n _ _ c.loop-n-test.true c.requires c.loop-n.invariant
    c.in_ok-list_lump.ensures.lump

pub returns-clause-lumps : goal.returns-clause-lumps
returns-clause-lumps c = lumps_whole c.args.list.now c.loop-n.list c.args.names.now c.args.sizes.now c.loop-n.n (omega (arith, c.loop-n-test.false)) c.requires c.loop-n.invariant
