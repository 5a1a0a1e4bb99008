-- The record of a node's ray in numbers of 16 bits.
use Rattle.std.proofs.Common.{◌≡◌, ap, ◌∙◌, arith}
use Rattle.std.proofs.lemmas.Int.{ints, to_z-of_z}
use Rattle.std.specs.Prelude.{ℤ, pos, FitsSigned}
use Rattle.std.specs.Int.{w16, w32}
use mir.Val.{to_z, of_z}
use Rattle.lump_records.specs.declared.records.Vertex.{Vertex}
use Rattle.lump_records.specs.declared.plane.Ray.{Ray}
use Rattle.lump_records.proofs.Wide.{IsWithin}

pub fits_16 : (z : ℤ) → IsWithin (pos 32767) z → FitsSigned w16 z
fits_16 z h = let l = h.low in let k = h.high in omega (arith, ints)

pub back_16 : (z : ℤ) → IsWithin (pos 32767) z → to_z w16 (of_z w16 z) ≡ z
back_16 z h = to_z-of_z w16 z (fits_16 z h)

pub back_32 : (z : ℤ) → IsWithin (pos 32767) z → to_z w32 (of_z w32 z) ≡ z
back_32 z h = let l = h.low in let k = h.high in let f : FitsSigned w32 z = omega (arith, ints) in to_z-of_z w32 z f

pub through_32 : (z : ℤ) → IsWithin (pos 32767) z → to_z w16 (of_z w16 (to_z w32 (of_z w32 z))) ≡ z
through_32 z h = ap (λ (x : ℤ). to_z w16 (of_z w16 x)) (back_32 z h) ∙ back_16 z h

pub ray_is : (r : Ray) (x y dx dy : ℤ) → x ≡ r.start.x → y ≡ r.start.y → dx ≡ r.dx → dy ≡ r.dy → record { start = record { x = x; y = y }; dx = dx; dy = dy } ≡ r
ray_is r x y dx dy a b c d =
    let place : ℤ → ℤ → Vertex = λ u v. record { x = u; y = v } in
    let one : ℤ → Ray = λ u. record { start = place u y; dx = dx; dy = dy } in
    let two : ℤ → Ray = λ v. record { start = place r.start.x v; dx = dx; dy = dy } in
    let three : ℤ → Ray = λ u. record { start = r.start; dx = u; dy = dy } in
    let four : ℤ → Ray = λ v. record { start = r.start; dx = r.dx; dy = v } in
    ap one a ∙ ap two b ∙ ap three c ∙ ap four d
