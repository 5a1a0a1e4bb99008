use Rattle.std.proofs.Common.{◌≤◌, arith, lit<}
use Rattle.std.proofs.lemmas.Int.{ints, to_z-of_z, fits_signed_mul}
use Rattle.std.specs.Prelude.{ℤ, pos, neg_ℤ, ◌*ℤ◌, ◌≤ℤ◌, FitsSigned, unsigned_abs}
use Rattle.std.specs.Int.{w64}
use Rattle.lump_records.proofs.plane.product.Goals as goal

fits : (a b : ℤ) → neg_ℤ (pos 2147483648) ≤ℤ a → a ≤ℤ pos 2147483648 → neg_ℤ (pos 4294967295) ≤ℤ b → b ≤ℤ pos 4294967295 → FitsSigned w64 (a *ℤ b)
fits a b a_low a_high b_low b_high =
    let a_size : unsigned_abs a ≤ 2147483648 = omega (arith, ints) in
    let b_size : unsigned_abs b ≤ 4294967295 = omega (arith, ints) in
    fits_signed_mul w64 a b 2147483648 4294967295 a_size b_size (lit< tt)

pub overflow_mul-result : goal.overflow_mul-result
overflow_mul-result c =
    let r = c.requires in
    rw (to_z-of_z w64 c.args.a c.ranges.a, to_z-of_z w64 c.args.b c.ranges.b) (fits c.args.a c.args.b r.a_low r.a_high r.b_low r.b_high)

pub returns : goal.returns
returns c =
    let r = c.requires in
    rw (to_z-of_z w64 c.args.a c.ranges.a, to_z-of_z w64 c.args.b c.ranges.b)
    (to_z-of_z w64 (c.args.a *ℤ c.args.b) (fits c.args.a c.args.b r.a_low r.a_high r.b_low r.b_high))
