use Rattle.std.proofs.Common.{ap, false, not, sym}
use Rattle.std.proofs.lemmas.Bool.Decides.{when_false, when_true}
use Rattle.std.proofs.lemmas.List.{take_all}
use Rattle.lump_textures.specs.Marks.{MarksColumns}
use Rattle.lump_textures.proofs.MarkSteps.{columns_more, covered_once, covered_twice}
use Rattle.lump_textures.proofs.patched.cover_all.Goals as goal

pub returns-then-not-cover : goal.returns-then-not-cover
returns-then-not-cover c =
    ap not
    (sym
    (covered_twice c.args.width c.args.patches.now c.loop-patch.patch-index _ c.loop-patch-test.true c.loop-patch.marks c.loop-patch.invariant
    (when_false _ _ c.if-not-cover.true c.cover.ensures.covered)))

pub loop-patch-preserved : goal.loop-patch-preserved
loop-patch-preserved c =
    columns_more c.args.width c.args.patches.now c.loop-patch.patch-index _ c.loop-patch-test.true c.loop-patch.marks c.cover.new.marks c.cover.ensures.count
    c.loop-patch.invariant (when_true _ _ c.if-not-cover.false c.cover.ensures.covered)

pub returns : goal.returns
returns c =
    let all : MarksColumns c.args.width c.args.patches.now c.loop-patch.marks =
    rw (take_all c.loop-patch.patch-index c.args.patches.now c.loop-patch-test.false) at c.loop-patch.invariant in
    ap not (sym (covered_once c.args.width c.args.patches.now c.loop-patch.marks all))
