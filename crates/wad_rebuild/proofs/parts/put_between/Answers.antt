use Rattle.wad_rebuild.specs.Held.{directory_of, kept_between}
use Rattle.wad_rebuild.proofs.PartLemmas.{between_all, between_next, between_none, between_refuses}
use Rattle.wad_rebuild.proofs.parts.put_between.Goals as goal

pub loop-k-init : goal.loop-k-init
loop-k-init c = between_none (kept_between c.args.wad.now (directory_of c.args.held.now) c.args.from c.args.end) c.args.from c.args.to.now c.requires.fits

pub returns-in-Err : goal.returns-in-Err
returns-in-Err c =
    between_refuses c.args.wad.now (directory_of c.args.held.now) c.args.from c.args.end c.loop-k.k c.args.to.now c.loop-k.to c.in-Err.error c.loop-k.auto.k c.loop-k-test.true c.loop-k.invariant c.in-Err.ensures

pub loop-k-preserved : goal.loop-k-preserved
loop-k-preserved c =
    between_next c.args.wad.now (directory_of c.args.held.now) c.args.from c.args.end c.loop-k.k c.args.to.now c.loop-k.to c.put_kept.new.to c.loop-k.auto.k c.loop-k-test.true c.loop-k.invariant c.in-Ok.ensures

pub returns : goal.returns
returns c = between_all c.args.wad.now (directory_of c.args.held.now) c.args.from c.args.end c.loop-k.k c.args.to.now c.loop-k.to c.loop-k-test.false c.loop-k.invariant
