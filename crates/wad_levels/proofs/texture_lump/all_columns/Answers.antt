use Rattle.std.proofs.Common.{◌≡◌, ◌∙◌, ◌+◌, ap, arith}
use Rattle.wad_levels.specs.Graphics.{column_count}
use Rattle.wad_levels.specs.Patches.{count_at}
use Rattle.wad_levels.proofs.GraphicLemmas.{of_more}
use Rattle.wad_levels.proofs.texture_lump.all_columns.Goals as goal

pub loop-n-preserved : goal.loop-n-preserved
loop-n-preserved c =
    let here : c.from-sum.result ≡ column_count c.args.lump.now c.loop-n.n = c.from-sum.ensures ∙ c.count_at.ensures ∙ ap (λ at. count_at (at + 12) c.args.lump.now) c.texture_at.ensures.place in
    let more = of_more (column_count c.args.lump.now) c.loop-n.n in
    let before = c.loop-n.invariant.0 in
    (omega (arith, more, here, before), omega arith)
