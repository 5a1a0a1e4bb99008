use Rattle.std.proofs.Common.{◌∙◌, ◌<◌, sym, arith}
use Rattle.wad_levels.specs.Graphics.{is_texture_inside, texture_count}
use Rattle.wad_levels.proofs.GraphicLemmas.{all_more, one_fails}
use Rattle.wad_levels.proofs.texture_lump.are_all_inside.Goals as goal

pub returns-then-not-is_texture_inside : goal.returns-then-not-is_texture_inside
returns-then-not-is_texture_inside c =
    let among : c.loop-n.n < texture_count c.args.lump.now = omega (arith, c.loop-n-test.true, c.texture_count-n-end.ensures) in
    sym (one_fails (is_texture_inside c.args.lump.now) (texture_count c.args.lump.now) c.loop-n.n among (sym c.is_texture_inside.ensures ∙ c.if-not-is_texture_inside.true))

pub loop-n-preserved : goal.loop-n-preserved
loop-n-preserved c =
    all_more (is_texture_inside c.args.lump.now) c.loop-n.n c.loop-n.invariant (sym c.is_texture_inside.ensures ∙ c.if-not-is_texture_inside.false)
