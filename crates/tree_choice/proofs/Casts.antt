-- Numbers that went to more bits and came back.
use Rattle.std.proofs.Common.{◌≡◌, ap, ◌∙◌, arith}
use Rattle.std.proofs.lemmas.Int.{ints, to_z-of_z, int_max_is, int_min_is}
use Rattle.std.specs.Prelude.{ℤ, ◌≤ℤ◌, FitsSigned}
use Rattle.std.specs.Int.{w16, int_max, int_min}
use mir.Val.{to_z, of_z}
use Rattle.lump_records.proofs.Signs.{linear}

-- an order of numbers that went to 16 bits and came back
pub up_16 : (x m : ℤ) → FitsSigned w16 x → FitsSigned w16 m → to_z w16 (of_z w16 x) ≤ℤ m → x ≤ℤ to_z w16 (of_z w16 m)
up_16 x m f g h = let e = to_z-of_z w16 x f in let k = to_z-of_z w16 m g in omega (arith, linear)

pub down_16 : (x m : ℤ) → FitsSigned w16 x → FitsSigned w16 m → m ≤ℤ to_z w16 (of_z w16 x) → to_z w16 (of_z w16 m) ≤ℤ x
down_16 x m f g h = let e = to_z-of_z w16 x f in let k = to_z-of_z w16 m g in omega (arith, linear)

-- the greater of two such numbers, and the lesser
pub greatest_16 : (x y m : ℤ) → FitsSigned w16 x → FitsSigned w16 y → m ≡ int_max (to_z w16 (of_z w16 x)) (to_z w16 (of_z w16 y)) → to_z w16 (of_z w16 m) ≡ int_max x y
greatest_16 x y m f g h =
    let e = rw (to_z-of_z w16 x f, to_z-of_z w16 y g) at h in
    let is = int_max_is x y in
    let k : FitsSigned w16 (int_max x y) = omega (arith, ints) in
    ap (λ (z : ℤ). to_z w16 (of_z w16 z)) e ∙ to_z-of_z w16 (int_max x y) k

pub least_16 : (x y m : ℤ) → FitsSigned w16 x → FitsSigned w16 y → m ≡ int_min (to_z w16 (of_z w16 x)) (to_z w16 (of_z w16 y)) → to_z w16 (of_z w16 m) ≡ int_min x y
least_16 x y m f g h =
    let e = rw (to_z-of_z w16 x f, to_z-of_z w16 y g) at h in
    let is = int_min_is x y in
    let k : FitsSigned w16 (int_min x y) = omega (arith, ints) in
    ap (λ (z : ℤ). to_z w16 (of_z w16 z)) e ∙ to_z-of_z w16 (int_min x y) k
