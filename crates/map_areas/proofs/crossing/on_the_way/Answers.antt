use Rattle.std.proofs.Common.{arith}
use Rattle.std.proofs.lemmas.Int.{ints}
use Rattle.std.specs.Prelude.{◌≤ℤ◌}
use Rattle.map_areas.proofs.Crossed.{as_far, so_far_down, so_far_up}
use Rattle.map_areas.proofs.crossing.on_the_way.Goals as goal

pub returns-then-from-to : goal.returns-then-from-to
returns-then-from-to c = λ p h e.
    let a = c.args.from in
    let b = c.args.to in
    let up : a ≤ℤ b = grind (arith, ints, c.if-from-to.true) in
    so_far_up a b p _ _ c.ranges.from c.ranges.to up h c.from.ensures
    (omega (arith, c.span.ensures.small, c.part_of-far.ensures.small))
    (as_far a b p _ _ _ _ c.ranges.from c.ranges.to c.span.ensures.span h e c.part_of-far.ensures.exact)

pub returns-else-from-to : goal.returns-else-from-to
returns-else-from-to c = λ p h e.
    let a = c.args.from in
    let b = c.args.to in
    let down : b ≤ℤ a = grind (arith, ints, c.if-from-to.false) in
    so_far_down a b p _ _ c.ranges.from c.ranges.to down h c.from-else-from-to.ensures
    (omega (arith, c.span.ensures.small, c.part_of-far.ensures.small))
    (as_far a b p _ _ _ _ c.ranges.from c.ranges.to c.span.ensures.span h e c.part_of-far.ensures.exact)
