-- The test of a machine number for 0.
use Rattle.std.proofs.Common.{◌≡◌, sym, ap, ◌∙◌, true, nat_eq}
use Rattle.std.proofs.lemmas.Bool.{eqb-true}
use Rattle.std.proofs.lemmas.Int.{to_z-of_z}
use Rattle.std.specs.Prelude.{ℤ, pos, FitsSigned}
use Rattle.std.specs.Int.{w64}
use mir.Val.{to_z, of_z}

pub zero_is : (z : ℤ) → FitsSigned w64 z → of_z w64 z ≡ 0 → z ≡ pos 0
zero_is z f e = sym (to_z-of_z w64 z f) ∙ ap (to_z w64) e

pub zero_if : (z : ℤ) → FitsSigned w64 z → nat_eq (of_z w64 z) 0 ≡ true → z ≡ pos 0
zero_if z f e = zero_is z f (eqb-true (of_z w64 z) 0 e)

pub zero_then : (z : ℤ) → z ≡ pos 0 → nat_eq (of_z w64 z) 0 ≡ true
zero_then z e = ap (λ (x : ℤ). nat_eq (of_z w64 x) 0) e
