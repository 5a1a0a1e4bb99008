use Rattle.std.proofs.Common.{◌≡◌, ◌∙◌, ◌≤◌, ◌*◌, ◌/◌, ℕ, ℤ, ◌-ℤ◌, ap, arith, rules}
use Rattle.std.proofs.Math.Nat.{div-le_self, mul-le-mul}
use Rattle.std.proofs.lemmas.Int.{to_z-of_z}
use Rattle.std.specs.Prelude.{FitsSigned, unsigned_abs}
use Rattle.std.specs.Int.{w16}
use Rattle.map_picture.specs.Floors.{step_count}
use Rattle.map_picture.proofs.floors.step_of_floor.Goals as goal

pub returns-clause-step : goal.returns-clause-step
returns-clause-step c =
    let h = c.args.heights in
    let above = unsigned_abs (c.args.floor -ℤ h.low) in
    let fits : FitsSigned w16 c.args.floor = search rules in
    let is_above : c.height_above.result ≡ above =
    c.height_above.ensures.value ∙ ap (λ (f : ℤ). unsigned_abs (f -ℤ h.low)) (to_z-of_z w16 c.args.floor fits) in
    ap (λ (n : ℕ). n * c.step_count.result / c.count_of_heights.result) is_above
    ∙ ap (λ (n : ℕ). above * n / c.count_of_heights.result) c.step_count.ensures.count
    ∙ ap (λ (n : ℕ). above * step_count h / n) c.count_of_heights.ensures.count

pub returns-clause-bound : goal.returns-clause-bound
returns-clause-bound c =
    let product : c.height_above.result * c.step_count.result ≤ 65535 * 8 =
    mul-le-mul c.height_above.ensures.bound c.step_count.ensures.bound in
    let quotient = div-le_self (c.height_above.result * c.step_count.result) c.count_of_heights.result in
    omega (arith, product, quotient)
