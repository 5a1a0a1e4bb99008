use Rattle.std.proofs.Common.{◌∙◌, ◌++◌, ◌∷◌, [], ap, ℤ, rules}
use Rattle.std.specs.Prelude.{FitsSigned}
use Rattle.std.specs.Int.{w16}
use Rattle.std.proofs.lemmas.Int.{to_z-of_z}
use Rattle.wad_levels.specs.Patches.{width_of_number}
use Rattle.wad_levels.proofs.GraphicLemmas.{named_more}
use Rattle.wad_levels.proofs.patch_widths.widths_of_names.Goals as goal

pub loop-n-preserved : goal.loop-n-preserved
loop-n-preserved c =
    let fits : FitsSigned w16 c.width_of_number.result = search rules in
    let made = to_z-of_z w16 c.width_of_number.result fits ∙ c.width_of_number.ensures in
    c.in_ok-push.ensures.items ∙ ap (λ (w : ℤ). c.loop-n.widths.items ++ w ∷ []) made
    ∙ named_more (width_of_number c.args.wad.now c.args.names.now) c.loop-n.n [] c.loop-n.widths.items c.loop-n.invariant
