use Rattle.std.proofs.Common.{ap, sym, ◌∙◌}
use Rattle.std.specs.Prelude.{ℤ, ◌+ℤ◌}
use Rattle.tree_pieces.specs.Fractions.{rounded}
use Rattle.tree_pieces.proofs.Rounding.{rounded_is}
use Rattle.tree_pieces.proofs.Wide.{step_is}
use Rattle.tree_pieces.proofs.Coordinates.{IsWay, way_by, IsPlaced, placed, rounded_fits}
use Rattle.tree_pieces.proofs.line_points.coordinate.Goals as goal
use Rattle.tree_pieces.proofs.line_points.coordinate.Goals.{After-difference-way, After-steps_along-steps}

way : (c : After-difference-way) → IsWay c.difference-way.result
way c = way_by c.args.from c.args.to c.difference-way.result c.ranges.from c.ranges.to (step_is c.args.from c.args.to c.difference-way.result c.ranges.from c.ranges.to c.difference-way.ensures.value)

pub steps_along-steps-requires-clause-low : goal.steps_along-steps-requires-clause-low
steps_along-steps-requires-clause-low c = (way c).low

pub steps_along-steps-requires-clause-high : goal.steps_along-steps-requires-clause-high
steps_along-steps-requires-clause-high c = (way c).high

-- a coordinate and the steps from it make the rounded one
is_placed : (c : After-steps_along-steps) → IsPlaced c.args.from c.steps_along-steps.result (rounded c.args.from c.args.to c.args.at)
is_placed c =
    let from = c.args.from in
    let to = c.args.to in
    let t = c.args.at in
    let w = step_is from to c.difference-way.result c.ranges.from c.ranges.to c.difference-way.ensures.value in
    let b = way_by from to c.difference-way.result c.ranges.from c.ranges.to w in
    let s' = simp b.is at c.steps_along-steps.ensures in
    let s = simp w at s' in
    placed from c.steps_along-steps.result (rounded from to t) c.ranges.from (rounded_fits from to t c.requires c.ranges.from c.ranges.to)
    (ap (λ (x : ℤ). from +ℤ x) s ∙ sym (rounded_is from to t))

pub overflow_add-result : goal.overflow_add-result
overflow_add-result c = (is_placed c).sum_fits

pub overflow_cast-result : goal.overflow_cast-result
overflow_cast-result c = (is_placed c).from_fits

pub overflow_cast-result-2 : goal.overflow_cast-result-2
overflow_cast-result-2 c = (is_placed c).place_fits

pub returns : goal.returns
returns c = (is_placed c).is
