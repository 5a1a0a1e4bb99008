use Rattle.std.proofs.Common.{◌≡◌, ◌∙◌, ◌+◌, ap, arith}
use Rattle.wad_levels.specs.Graphics.{nth_patch_count}
use Rattle.wad_levels.specs.Patches.{patch_count}
use Rattle.wad_levels.proofs.GraphicLemmas.{of_more}
use Rattle.wad_levels.proofs.texture_lump.all_patches.Goals as goal

pub loop-n-preserved : goal.loop-n-preserved
loop-n-preserved c =
    let here : c.from-sum.result ≡ nth_patch_count c.args.lump.now c.loop-n.n = c.from-sum.ensures ∙ c.patch_count.ensures.count ∙ ap (patch_count c.args.lump.now) c.texture_at.ensures.place in
    let more = of_more (nth_patch_count c.args.lump.now) c.loop-n.n in
    let before = c.loop-n.invariant.0 in
    (omega (arith, more, here, before), omega arith)
