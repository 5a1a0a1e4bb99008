use Rattle.std.proofs.Common.{rules, sym, subst}
use Rattle.std.specs.Prelude.{FitsSigned}
use Rattle.std.specs.Int.{w16}
use Rattle.lump_records.specs.Plane.{IsStep}
use Rattle.lump_records.proofs.PlaneLemmas.{step_back, between_step}
use Rattle.lump_records.proofs.plane.Ray.between.Goals as goal

pub returns-clause-ray : goal.returns-clause-ray
returns-clause-ray c =
    let from = c.args.from in
    let to = c.args.to in
    let fx : FitsSigned w16 from.x = search rules in
    let fy : FitsSigned w16 from.y = search rules in
    let tx : FitsSigned w16 to.x = search rules in
    let ty : FitsSigned w16 to.y = search rules in
    λ i. record { start = from; dx = step_back from.x to.x fx tx i; dy = step_back from.y to.y fy ty i }

pub returns-clause-step : goal.returns-clause-step
returns-clause-step c =
    let from = c.args.from in
    let to = c.args.to in
    let fx : FitsSigned w16 from.x = search rules in
    let fy : FitsSigned w16 from.y = search rules in
    let tx : FitsSigned w16 to.x = search rules in
    let ty : FitsSigned w16 to.y = search rules in
    subst IsStep (sym (returns-clause-ray c)) (between_step from to fx fy tx ty)
