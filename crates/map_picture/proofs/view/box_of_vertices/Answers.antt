use Rattle.std.proofs.Common.{◌∙◌, ◌<◌, None, length, arith, pos}
use Rattle.map_picture.specs.View.{grown}
use Rattle.map_svg.proofs.Growing.{folded_more}
use Rattle.map_picture.proofs.view.box_of_vertices.Goals as goal

pub loop-n-preserved : goal.loop-n-preserved
loop-n-preserved c =
    let vertices = c.args.map.now.tables.vertices in
    let within : c.loop-n.n < length vertices = omega arith in
    c.with_vertex-bounds.ensures
    ∙ folded_more grown None vertices c.loop-n.n (record { x = pos 0; y = pos 0 }) within c.loop-n.bounds c.loop-n.invariant
