use Rattle.std.proofs.Common.{◌∙◌, ◌<◌, length, arith, pos}
use Rattle.map_picture.specs.View.{box_of_vertices, grown_by}
use Rattle.map_svg.proofs.Growing.{folded_more}
use Rattle.map_picture.proofs.view.box_of.Goals as goal

pub loop-n-preserved : goal.loop-n-preserved
loop-n-preserved c =
    let things = c.args.map.now.tables.things in
    let within : c.loop-n.n < length things = omega arith in
    c.with_thing-bounds.ensures
    ∙ folded_more grown_by (box_of_vertices c.args.map.now.tables) things c.loop-n.n
    (record { x = pos 0; y = pos 0; angle = pos 0; kind = pos 0; options = pos 0 }) within c.loop-n.bounds c.loop-n.invariant
