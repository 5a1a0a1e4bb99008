use Rattle.std.proofs.Common.{arith, ◌≡◌, rules, ◌∙◌, ap, sym, subst}
use Rattle.std.proofs.lemmas.Int.{ints, to_z-of_z}
use Rattle.std.specs.Prelude.{ℤ, pos, ◌-ℤ◌, ◌*ℤ◌, FitsSigned}
use Rattle.std.specs.Int.{w64, w32, w16}
use Rattle.lump_records.specs.Plane.{side_value}
use Rattle.lump_records.proofs.Wide.{IsWithin, back_sub}
use Rattle.lump_records.proofs.PlaneLemmas.{term_within, term_fits, value_within, value_fits}
use Rattle.lump_records.proofs.plane.Ray.side_value.Goals as goal
use Rattle.lump_records.proofs.plane.Ray.side_value.Goals.{After-products-right}

-- the two products and their difference
record Facts (right left value : ℤ) : Type 0 where
  right_fits : FitsSigned w64 right
  left_fits : FitsSigned w64 left
  is : right -ℤ left ≡ value
  within : IsWithin (pos 281474976514050) (right -ℤ left)

facts : (c : After-products-right) → Facts c.products-right.result.0 c.products-right.result.1 (side_value c.args.self c.args.point)
facts c =
    let ray = c.args.self in
    let point = c.args.point in
    let q = c.requires in
    let e = c.products-right.ensures in
    let ax : FitsSigned w16 ray.start.x = search rules in
    let ay : FitsSigned w16 ray.start.y = search rules in
    let px : FitsSigned w32 point.x = search rules in
    let py : FitsSigned w32 point.y = search rules in
    let right = subst (IsWithin (pos 140737488257025)) (sym e.right) (term_within ray.dy ray.start.x point.x (record { low = q.dy_low; high = q.dy_high }) ax px) in
    let left = subst (IsWithin (pos 140737488257025)) (sym e.left) (term_within ray.dx ray.start.y point.y (record { low = q.dx_low; high = q.dx_high }) ay py) in
    record {
      right_fits = term_fits _ right;
      left_fits = term_fits _ left;
      is = ap (λ (x : ℤ). x -ℤ c.products-right.result.1) e.right ∙ ap (λ (x : ℤ). ray.dy *ℤ (point.x -ℤ ray.start.x) -ℤ x) e.left;
      within = value_within _ _ right left;
    }

pub overflow_sub-result : goal.overflow_sub-result
overflow_sub-result c =
    let f = facts (goal.at.overflow_sub-result c).After-products-right in
    rw (to_z-of_z w64 c.products-right.result.0 f.right_fits, to_z-of_z w64 c.products-right.result.1 f.left_fits) (value_fits _ f.within)

pub returns-clause-value : goal.returns-clause-value
returns-clause-value c =
    let f = facts (goal.at.returns-clause-value c).After-products-right in
    back_sub w64 _ _ f.right_fits f.left_fits (value_fits _ f.within) ∙ f.is

pub returns-clause-low : goal.returns-clause-low
returns-clause-low c =
    let f = facts (goal.at.returns-clause-low c).After-products-right in
    let e = back_sub w64 _ _ f.right_fits f.left_fits (value_fits _ f.within) in
    let low = f.within.low in
    rw e (omega (arith, ints))

pub returns-clause-high : goal.returns-clause-high
returns-clause-high c =
    let f = facts (goal.at.returns-clause-high c).After-products-right in
    let e = back_sub w64 _ _ f.right_fits f.left_fits (value_fits _ f.within) in
    let high = f.within.high in
    rw e (omega (arith, ints))
