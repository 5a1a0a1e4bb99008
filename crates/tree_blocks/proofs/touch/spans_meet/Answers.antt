use Rattle.std.proofs.Common.{arith, rules}
use Rattle.std.proofs.lemmas.Int.{ints, to_z-of_z}
use Rattle.std.specs.Prelude.{pos, ◌+ℤ◌, FitsSigned}
use Rattle.std.specs.Int.{w16, w32, w64}
use Rattle.tree_blocks.proofs.Extremes.{either_up, either_down, down_either, at_most_yes, yes_at_most}
use Rattle.tree_blocks.proofs.touch.spans_meet.Goals as goal

pub returns-then-low-max : goal.returns-then-low-max
returns-then-low-max c =
    let e1 = to_z-of_z w16 c.args.a c.ranges.a in
    let e2 = to_z-of_z w16 c.args.b c.ranges.b in
    let e3 = to_z-of_z w32 c.args.low c.ranges.low in
    let f4 : FitsSigned w64 c.args.low = omega (arith, ints) in
    let e4 = to_z-of_z w64 c.args.low f4 in
    let f5 : FitsSigned w64 (c.args.low +ℤ pos 128) = omega (arith, ints) in
    let e5 = to_z-of_z w64 (c.args.low +ℤ pos 128) f5 in
    let m1 : FitsSigned w16 c.max.result = search rules in
    let n1 = to_z-of_z w16 c.max.result m1 in
    let m2 : FitsSigned w64 c.max.result = omega (arith, ints) in
    let n2 = to_z-of_z w64 c.max.result m2 in
    let m3 : FitsSigned w16 c.min.result = search rules in
    let n3 = to_z-of_z w16 c.min.result m3 in
    let m4 : FitsSigned w64 c.min.result = omega (arith, ints) in
    let n4 = to_z-of_z w64 c.min.result m4 in
    let p = simp (e1, e2) at c.max.ensures.value in
    let q = simp (e1, e2) at c.min.ensures.value in
    let t = simp (e3, e4, n1, n2) at c.if-low-max.true in
    simp (e3, e4, e5, n3, n4) (
      λ h. record { not_below = either_up c.args.low c.args.a c.args.b _ p (yes_at_most _ _ t); not_above = either_down (c.args.low +ℤ pos 128) c.args.a c.args.b _ q (yes_at_most _ _ h) },
      λ s. at_most_yes _ _ (down_either (c.args.low +ℤ pos 128) c.args.a c.args.b _ q s.not_above),
    )
