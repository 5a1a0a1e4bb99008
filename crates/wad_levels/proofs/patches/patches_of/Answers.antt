use Rattle.std.proofs.Common.{◌∙◌, ◌++◌, ◌∷◌, ◌+◌, ◌*◌, [], ap}
use Rattle.lump_textures.specs.declared.patch.Patch.{Patch}
use Rattle.wad_levels.specs.Patches.{nth_patch, patch_from}
use Rattle.wad_levels.proofs.GraphicLemmas.{named_more}
use Rattle.wad_levels.proofs.patches.patches_of.Goals as goal

pub loop-n-preserved : goal.loop-n-preserved
loop-n-preserved c =
    let widths = c.args.widths.now in
    let lump = c.args.lump.now in
    let at = c.args.at in
    let made = c.patch_from.ensures ∙ ap (λ n. patch_from widths lump (at + 22 + 10 * n)) c.from.ensures in
    c.in_ok-push.ensures.items ∙ ap (λ (p : Patch). c.loop-n.patches.items ++ p ∷ []) made
    ∙ named_more (nth_patch widths lump at) c.loop-n.n [] c.loop-n.patches.items c.loop-n.invariant
