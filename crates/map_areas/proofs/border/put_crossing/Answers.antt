use Rattle.std.proofs.Common.{sym, ◌∙◌}
use Rattle.std.specs.List.{list_any, slice_get}
use Rattle.map_plane.proofs.Tests.{and_both}
use Rattle.map_plane.specs.Meeting.{is_at, is_on}
use Rattle.map_areas.proofs.Cutting.{crossing_between, crossing_put, no_line_put, uncrossed_put}
use Rattle.map_areas.proofs.border.put_crossing.Goals as goal

pub returns-in_default-clause-those : goal.returns-in_default-clause-those
returns-in_default-clause-those c = λ p.
    no_line_put c.args.edge.now (slice_get c.args.lines.now c.args.number) (sym c.in_default.ensures) p (list_any (is_at p) c.args.stops.now.items)

pub returns-then-not-crosses_way-clause-those : goal.returns-then-not-crosses_way-clause-those
returns-then-not-crosses_way-clause-those c = λ p.
    uncrossed_put c.args.edge.now c.in-Some.line (sym c.crosses_way.ensures ∙ c.if-not-crosses_way.true) (slice_get c.args.lines.now c.args.number) (sym c.in-Some.ensures) p
    (list_any (is_at p) c.args.stops.now.items)

pub put_along-requires : goal.put_along-requires
put_along-requires c =
    let e = c.args.edge.now in
    let l = c.in-Some.line in
    let x = c.in_ok-place.place in
    let on = and_both (is_on e x) (is_on l x) c.in_ok-place.ensures.whole in
    crossing_between e l (sym c.crosses_way.ensures ∙ c.if-not-crosses_way.false) x on.0 on.1

pub returns-clause-those : goal.returns-clause-those
returns-clause-those c =
    let e = c.args.edge.now in
    let l = c.in-Some.line in
    let x = c.in_ok-place.place in
    let on = and_both (is_on e x) (is_on l x) c.in_ok-place.ensures.whole in
    λ p. crossing_put e l (sym c.crosses_way.ensures ∙ c.if-not-crosses_way.false) x on.0 on.1 (slice_get c.args.lines.now c.args.number) (sym c.in-Some.ensures) p _ _
    (c.in_ok-put_along.ensures.those p)
