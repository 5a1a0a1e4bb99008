use Rattle.std.proofs.Common.{◌∙◌}
use Rattle.map_lint.specs.Graphics.{graphic_warning}
use Rattle.map_lint.proofs.GraphicSteps.{given_more}
use Rattle.map_lint.proofs.graphics.list_graphics.Goals as goal

pub loop-n-preserved : goal.loop-n-preserved
loop-n-preserved c =
    c.in_ok-add.ensures
    ∙ given_more (graphic_warning c.args.flats.now.names.now c.args.textures.now.textures.now c.args.map.now.tables c.args.rule) c.loop-n.n c.args.found.now.items
    c.loop-n.found.items c.loop-n.invariant c.graphic_warning.result c.graphic_warning.ensures
