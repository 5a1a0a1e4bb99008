use Rattle.std.proofs.Common.{◌∙◌, ◌<◌, length, arith, pos}
use Rattle.lump_records.specs.declared.records.Vertex.{Vertex}
use Rattle.map_picture.specs.Labels.{shown_with}
use Rattle.map_svg.proofs.Growing.{folded_more}
use Rattle.map_picture.proofs.labels.shown_count.Goals as goal

pub loop-n-preserved : goal.loop-n-preserved
loop-n-preserved c =
    let vertices = c.args.map.now.tables.vertices in
    let within : c.loop-n.n < length vertices = omega arith in
    let none : Vertex = record { x = pos 0; y = pos 0 } in (
      c.with_vertex-count.ensures.count ∙ folded_more (shown_with c.args.view.now) 0 vertices c.loop-n.n none within c.loop-n.count c.loop-n.invariant.0,
      omega (arith, c.with_vertex-count.ensures.bound, c.loop-n.invariant.1),
    )
