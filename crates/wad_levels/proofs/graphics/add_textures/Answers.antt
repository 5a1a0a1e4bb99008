use Rattle.std.proofs.Common.{◌∙◌, ◌++◌, ◌∷◌, [], ap, sym, arith}
use Rattle.lump_textures.specs.declared.texture.Texture.{Texture}
use Rattle.wad_levels.specs.Graphics.{nth_texture, texture_from}
use Rattle.wad_levels.proofs.GraphicLemmas.{texture_stands, named_more}
use Rattle.wad_levels.proofs.graphics.add_textures.Goals as goal

pub texture_from-requires : goal.texture_from-requires
texture_from-requires c =
    rw c.long_at-at.ensures
    (texture_stands c.args.lump.now c.loop-n.n c.requires (sym c.is_empty.ensures ∙ c.if-is_empty.false)
    (omega (arith, c.loop-n-test.true, c.texture_count-n-end.ensures)))

pub loop-n-preserved : goal.loop-n-preserved
loop-n-preserved c =
    let made = c.in_ok-texture_from.ensures.texture ∙ ap (texture_from c.args.widths.now c.args.lump.now) c.long_at-at.ensures in
    c.in_ok-push.ensures.items ∙ ap (λ (t : Texture). c.loop-n.textures.items ++ t ∷ []) made
    ∙ named_more (nth_texture c.args.widths.now c.args.lump.now) c.loop-n.n c.args.textures.now.items c.loop-n.textures.items c.loop-n.invariant
