use Rattle.std.proofs.Common.{◌≡◌, ap, ◌∙◌, arith}
use Rattle.std.proofs.lemmas.Int.{ints, to_z-of_z}
use Rattle.std.specs.Prelude.{ℤ, pos, neg_ℤ, ◌-ℤ◌, FitsSigned}
use Rattle.std.specs.Int.{w16, w32}
use mir.Val.{to_z, of_z}
use Rattle.lump_records.proofs.Signs.{linear}
use Rattle.lump_records.proofs.Wide.{IsWithin}
use Rattle.tree_pieces.proofs.Bounds.{ray_dx, ray_dy}
use Rattle.tree_choice.proofs.FarPlaces.{through_16}
use Rattle.tree_choice.proofs.margins.normal_of.Goals as goal

-- a number with its sign turned
negated : (z : ℤ) → IsWithin (pos 32767) z → to_z w16 (of_z w16 (pos 0 -ℤ to_z w16 (of_z w16 (to_z w32 (of_z w32 z))))) ≡ neg_ℤ z
negated z h =
    let l = h.low in
    let k = h.high in
    let f : FitsSigned w16 (pos 0 -ℤ z) = omega (arith, ints) in
    let e : pos 0 -ℤ z ≡ neg_ℤ z = omega (arith, linear) in
    ap (λ (x : ℤ). to_z w16 (of_z w16 (pos 0 -ℤ x))) (through_16 z h).is ∙ to_z-of_z w16 (pos 0 -ℤ z) f ∙ e

negated_fits : (z : ℤ) → IsWithin (pos 32767) z → FitsSigned w16 (pos 0 -ℤ to_z w16 (of_z w16 (to_z w32 (of_z w32 z))))
negated_fits z h =
    let l = h.low in
    let k = h.high in
    let f : FitsSigned w16 (pos 0 -ℤ z) = omega (arith, ints) in
    rw (through_16 z h).is f

pub overflow_sub-result : goal.overflow_sub-result
overflow_sub-result c = negated_fits c.args.ray.dx (ray_dx c.args.ray c.requires)

pub overflow_cast-x : goal.overflow_cast-x
overflow_cast-x c = (through_16 c.args.ray.dy (ray_dy c.args.ray c.requires)).fits

pub overflow_cast-y : goal.overflow_cast-y
overflow_cast-y c = (through_16 c.args.ray.dx (ray_dx c.args.ray c.requires)).fits

pub returns : goal.returns
returns c = record { x = (through_16 c.args.ray.dy (ray_dy c.args.ray c.requires)).is; y = negated c.args.ray.dx (ray_dx c.args.ray c.requires) }
