use Rattle.std.proofs.Common.{arith, rules, ◌*◌}
use Rattle.std.proofs.lemmas.Int.{ints, to_z-of_z}
use Rattle.std.specs.Prelude.{pos, ◌+ℤ◌, FitsSigned}
use Rattle.std.specs.Int.{w16}
use Rattle.tree_blocks.proofs.Extremes.{up_either}
use Rattle.tree_blocks.proofs.fill.end_column.Goals as goal

pub returns-then-high-lt0-clause-none : goal.returns-then-high-lt0-clause-none
returns-then-high-lt0-clause-none c =
    let e1 = to_z-of_z w16 c.args.a c.ranges.a in
    let e2 = to_z-of_z w16 c.args.b c.ranges.b in
    let f3 : FitsSigned w16 c.max.result = search rules in
    let e3 = to_z-of_z w16 c.max.result f3 in
    let p = simp (e1, e2) at c.max.ensures.value in
    λ k from below meets.
    let m = up_either (c.args.left +ℤ pos (128 * k)) c.args.a c.args.b c.max.result p meets.not_below in
    absurd (omega (arith, ints))

pub returns-clause-none : goal.returns-clause-none
returns-clause-none c =
    let e1 = to_z-of_z w16 c.args.a c.ranges.a in
    let e2 = to_z-of_z w16 c.args.b c.ranges.b in
    let f3 : FitsSigned w16 c.max.result = search rules in
    let e3 = to_z-of_z w16 c.max.result f3 in
    let p = simp (e1, e2) at c.max.ensures.value in
    λ k from below meets.
    let m = up_either (c.args.left +ℤ pos (128 * k)) c.args.a c.args.b c.max.result p meets.not_below in
    absurd (omega (arith, ints))
