use Rattle.std.proofs.Common.{arith, rules, ◌*◌}
use Rattle.std.proofs.lemmas.Int.{ints, to_z-of_z}
use Rattle.std.specs.Prelude.{pos, ◌+ℤ◌, FitsSigned}
use Rattle.std.specs.Int.{w16}
use Rattle.tree_blocks.proofs.Extremes.{down_either}
use Rattle.tree_blocks.proofs.fill.first_column.Goals as goal

pub returns : goal.returns
returns c =
    let e1 = to_z-of_z w16 c.args.a c.ranges.a in
    let e2 = to_z-of_z w16 c.args.b c.ranges.b in
    let f3 : FitsSigned w16 c.min.result = search rules in
    let e3 = to_z-of_z w16 c.min.result f3 in
    let p = simp (e1, e2) at c.min.ensures.value in
    λ k below meets.
    let m = down_either (c.args.left +ℤ pos (128 * k) +ℤ pos 128) c.args.a c.args.b c.min.result p meets.not_above in
    absurd (omega (arith, ints))
