use Rattle.std.proofs.Common.{subst, sym, ℕ}
use Rattle.wad_rebuild.specs.Held.{directory_of, kept_between}
use Rattle.wad_rebuild.specs.Parts.{AddsPlaced, RefusesPut}
use Rattle.wad_rebuild.proofs.PartLemmas.{begun_up_to, end_refuses, up_to_end, up_to_next, up_to_refuses}
use Rattle.wad_rebuild.proofs.parts.put_rebuilt.Goals as goal

pub loop-n-init : goal.loop-n-init
loop-n-init c = begun_up_to c.args.wad.now (directory_of c.args.held.now) c.args.levels.now c.args.to.now c.requires.fits

pub returns-in-Err : goal.returns-in-Err
returns-in-Err c =
    up_to_refuses c.args.wad.now (directory_of c.args.held.now) c.args.levels.now c.loop-n.n c.loop-n.next c.index-levels-n.result c.args.to.now c.loop-n.to c.in-Err.error c.loop-n-test.true
    (sym c.index-levels-n.is) c.loop-n.invariant c.in-Err.ensures

pub loop-n-preserved : goal.loop-n-preserved
loop-n-preserved c =
    up_to_next c.args.wad.now (directory_of c.args.held.now) c.args.levels.now c.loop-n.n c.loop-n.next c.index-levels-n.result c.args.to.now c.loop-n.to c.put_up_to.new.to c.loop-n-test.true
    (sym c.index-levels-n.is) c.loop-n.invariant c.in-Ok.ensures

pub returns-in-Ok-put_between : goal.returns-in-Ok-put_between
returns-in-Ok-put_between c =
    let wad = c.args.wad.now in
    let held = directory_of c.args.held.now in
    up_to_end wad held c.args.levels.now c.loop-n.n c.loop-n.next c.args.to.now c.loop-n.to c.put_between.new.to c.loop-n-test.false c.loop-n.invariant
    (subst (λ (n : ℕ). AddsPlaced c.loop-n.to c.put_between.new.to (kept_between wad held c.loop-n.next n)) c.count.ensures.count c.in-Ok-put_between.ensures)

pub returns-in-Err-put_between : goal.returns-in-Err-put_between
returns-in-Err-put_between c =
    let wad = c.args.wad.now in
    let held = directory_of c.args.held.now in
    end_refuses wad held c.args.levels.now c.loop-n.n c.loop-n.next c.args.to.now c.loop-n.to c.in-Err-put_between.error c.loop-n-test.false c.loop-n.invariant
    (subst (λ (n : ℕ). RefusesPut c.loop-n.to (kept_between wad held c.loop-n.next n) c.in-Err-put_between.error) c.count.ensures.count c.in-Err-put_between.ensures)
