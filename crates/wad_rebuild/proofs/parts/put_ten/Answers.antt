use Rattle.std.proofs.Common.{[], map}
use Rattle.wad_rebuild.specs.Held.{at_hand}
use Rattle.wad_rebuild.specs.Rebuilt.{ten_lumps}
use Rattle.wad_rebuild.proofs.PartLemmas.{ten_next, ten_refuses}
use Rattle.wad_rebuild.proofs.AddLemmas.{add_all, add_none}
use Rattle.wad_rebuild.proofs.parts.put_ten.Goals as goal

pub loop-n-init : goal.loop-n-init
loop-n-init c = add_none c.args.to.now c.requires.fits

pub returns-in-Err : goal.returns-in-Err
returns-in-Err c =
    ten_refuses c.args.wad.now c.args.level c.args.made.now c.loop-n.n (record { bytes = [] }) c.made_lump.result.now c.args.to.now c.loop-n.to c.in-Err.error c.loop-n-test.true c.made_lump.ensures
    c.loop-n.invariant c.in-Err.ensures

pub loop-n-preserved : goal.loop-n-preserved
loop-n-preserved c =
    ten_next c.args.wad.now c.args.level c.args.made.now c.loop-n.n (record { bytes = [] }) c.made_lump.result.now c.args.to.now c.loop-n.to c.put_lump.new.to c.loop-n-test.true c.made_lump.ensures
    c.loop-n.invariant c.in-Ok.ensures

pub returns : goal.returns
returns c = add_all c.args.to.now c.loop-n.to (map at_hand (ten_lumps c.args.wad.now c.args.level c.args.made.now)) c.loop-n.n c.loop-n-test.false c.loop-n.invariant
