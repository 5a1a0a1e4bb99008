use Rattle.std.proofs.Common.{rules}
use Rattle.std.proofs.lemmas.Int.{to_z-of_z}
use Rattle.std.specs.Prelude.{FitsSigned, ◌-ℤ◌, ◌*ℤ◌}
use Rattle.std.specs.Int.{w64}
use Rattle.lump_records.proofs.PlaneLemmas.{below_right}
use Rattle.lump_records.proofs.plane.Ray.has_on_right.Goals as goal

pub returns : goal.returns
returns c =
    let ray = c.args.self in
    let point = c.args.point in
    let right : FitsSigned w64 c.products-right.result.0 = search rules in
    let left : FitsSigned w64 c.products-right.result.1 = search rules in
    let e = c.products-right.ensures in
    rw (to_z-of_z w64 c.products-right.result.0 right, to_z-of_z w64 c.products-right.result.1 left, e.right, e.left)
    (below_right (ray.dy *ℤ (point.x -ℤ ray.start.x)) (ray.dx *ℤ (point.y -ℤ ray.start.y)))
