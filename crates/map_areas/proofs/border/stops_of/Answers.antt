use Rattle.std.proofs.Common.{◌++◌, ap, ◌∙◌}
use Rattle.std.specs.List.{list_any}
use Rattle.map_plane.specs.Meeting.{is_at}
use Rattle.map_areas.proofs.Cutting.{stops_more}
use Rattle.map_areas.proofs.border.stops_of.Goals as goal

pub loop-cut-preserved : goal.loop-cut-preserved
loop-cut-preserved c = λ p.
    ap (list_any (is_at p)) (c.in_ok-extend_from_slice.ensures.items ∙ (λ t. c.in_ok-push.ensures.items t ++ c.deref.ensures.value t))
    ∙ stops_more c.args.cut_edges.now c.loop-cut.cut-index c.cut-item.result c.loop-cut-test.true c.cut-item.is c.loop-cut.stops.items c.loop-cut.invariant p
