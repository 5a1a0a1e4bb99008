use Rattle.std.proofs.Common.{arith, ◌≡◌, rules, ◌∙◌, ap}
use Rattle.std.proofs.lemmas.Int.{ints, to_z-of_z}
use Rattle.std.specs.Prelude.{ℤ, ◌-ℤ◌, ◌*ℤ◌, FitsSigned}
use Rattle.std.specs.Int.{w64, w32, w16}
use Rattle.lump_records.proofs.plane.Ray.products.Goals as goal

pub product-left-requires-clause-a_low : goal.product-left-requires-clause-a_low
product-left-requires-clause-a_low c =
    let d : FitsSigned w32 c.args.self.dx = search rules in
    let d' : FitsSigned w64 c.args.self.dx = omega (arith, ints) in
    rw (to_z-of_z w32 c.args.self.dx d, to_z-of_z w64 c.args.self.dx d') (omega (arith, ints))

pub returns-clause-right : goal.returns-clause-right
returns-clause-right c =
    let ray = c.args.self in
    let point = c.args.point in
    let a : FitsSigned w16 ray.start.x = search rules in
    let a' : FitsSigned w32 ray.start.x = omega (arith, ints) in
    let p : FitsSigned w32 point.x = search rules in
    let d : FitsSigned w32 ray.dy = search rules in
    let d' : FitsSigned w64 ray.dy = omega (arith, ints) in
    let w : FitsSigned w64 c.difference.result = search rules in
    let r : FitsSigned w64 c.product-right.result = search rules in
    let way : c.difference.result ≡ point.x -ℤ ray.start.x = simp (to_z-of_z w16 ray.start.x a, to_z-of_z w32 ray.start.x a', to_z-of_z w32 point.x p) at c.difference.ensures.value in
    let term : c.product-right.result ≡ ray.dy *ℤ c.difference.result = simp (to_z-of_z w32 ray.dy d, to_z-of_z w64 ray.dy d', to_z-of_z w64 c.difference.result w) at c.product-right.ensures in
    to_z-of_z w64 c.product-right.result r ∙ term ∙ ap (λ (x : ℤ). ray.dy *ℤ x) way

pub returns-clause-left : goal.returns-clause-left
returns-clause-left c =
    let ray = c.args.self in
    let point = c.args.point in
    let a : FitsSigned w16 ray.start.y = search rules in
    let a' : FitsSigned w32 ray.start.y = omega (arith, ints) in
    let p : FitsSigned w32 point.y = search rules in
    let d : FitsSigned w32 ray.dx = search rules in
    let d' : FitsSigned w64 ray.dx = omega (arith, ints) in
    let w : FitsSigned w64 c.difference-2.result = search rules in
    let l : FitsSigned w64 c.product-left.result = search rules in
    let way : c.difference-2.result ≡ point.y -ℤ ray.start.y = simp (to_z-of_z w16 ray.start.y a, to_z-of_z w32 ray.start.y a', to_z-of_z w32 point.y p) at c.difference-2.ensures.value in
    let term : c.product-left.result ≡ ray.dx *ℤ c.difference-2.result = simp (to_z-of_z w32 ray.dx d, to_z-of_z w64 ray.dx d', to_z-of_z w64 c.difference-2.result w) at c.product-left.ensures in
    to_z-of_z w64 c.product-left.result l ∙ term ∙ ap (λ (x : ℤ). ray.dx *ℤ x) way
