-- A side value and its two products fit in 64 bits.
use Rattle.std.proofs.Common.{◌≡◌, arith}
use Rattle.std.proofs.lemmas.Int.{ints, to_z-of_z}
use Rattle.std.specs.Prelude.{IsTrue, int_lt, ◌<ℤ◌, ℤ, pos, ◌-ℤ◌, ◌*ℤ◌, FitsSigned}
use Rattle.std.specs.Int.{w16, w32, w64}
use Rattle.lump_records.specs.Plane.{IsStep, ray_between}
use Rattle.lump_records.specs.declared.records.Vertex.{Vertex}
use mir.Val.{to_z, of_z}
use Rattle.lump_records.proofs.Wide.{IsWithin, product_within, back_sub}

way_within : (a p : ℤ) → FitsSigned w16 a → FitsSigned w32 p → IsWithin (pos 2147516415) (p -ℤ a)
way_within a p f g = record { low = omega (arith, ints); high = omega (arith, ints) }

-- a component of a vector times a difference from a vertex to a point: at most 65,535 * (2^31 + 2^15 - 1)
pub term_within : (d a p : ℤ) → IsWithin (pos 65535) d → FitsSigned w16 a → FitsSigned w32 p → IsWithin (pos 140737488257025) (d *ℤ (p -ℤ a))
term_within d a p h f g =
    product_within d (p -ℤ a) (pos 65535) (pos 2147516415) (omega (arith, ints)) (omega (arith, ints)) h (way_within a p f g)

pub term_fits : (z : ℤ) → IsWithin (pos 140737488257025) z → FitsSigned w64 z
term_fits z h = let l = h.low in let k = h.high in omega (arith, ints)

pub value_within : (x y : ℤ) → IsWithin (pos 140737488257025) x → IsWithin (pos 140737488257025) y → IsWithin (pos 281474976514050) (x -ℤ y)
value_within x y h k =
    let a = h.low in
    let b = h.high in
    let c = k.low in
    let d = k.high in
    record { low = omega (arith, ints); high = omega (arith, ints) }

pub value_fits : (z : ℤ) → IsWithin (pos 281474976514050) z → FitsSigned w64 z
value_fits z h = let l = h.low in let k = h.high in omega (arith, ints)

-- a difference of 16-bit numbers, computed in 32 bits
pub step_back : (a b : ℤ) → FitsSigned w16 a → FitsSigned w16 b → to_z w32 (of_z w32 (to_z w32 (of_z w32 (to_z w16 (of_z w16 b))) -ℤ to_z w32 (of_z w32 (to_z w16 (of_z w16 a))))) ≡ b -ℤ a
step_back a b f g =
    let af : FitsSigned w32 a = omega (arith, ints) in
    let bf : FitsSigned w32 b = omega (arith, ints) in
    let df : FitsSigned w32 (b -ℤ a) = omega (arith, ints) in
    simp (to_z-of_z w16 a f, to_z-of_z w16 b g) (back_sub w32 b a bf af df)

-- one product is below another exactly if the difference is above 0, and conversely
pub below_right : (right left : ℤ) → (IsTrue (int_lt left right) → pos 0 <ℤ (right -ℤ left)) × (pos 0 <ℤ (right -ℤ left) → IsTrue (int_lt left right))
below_right right left = grind (arith, ints)

pub below_left : (right left : ℤ) → (IsTrue (int_lt right left) → (right -ℤ left) <ℤ pos 0) × ((right -ℤ left) <ℤ pos 0 → IsTrue (int_lt right left))
below_left right left = grind (arith, ints)

-- the vector of a line between vertices has components of at most 65,535 in size
pub between_step : (a b : Vertex) → FitsSigned w16 a.x → FitsSigned w16 a.y → FitsSigned w16 b.x → FitsSigned w16 b.y → IsStep (ray_between a b)
between_step a b ax ay bx by =
    record { dx_low = omega (arith, ints); dx_high = omega (arith, ints); dy_low = omega (arith, ints); dy_high = omega (arith, ints) }
