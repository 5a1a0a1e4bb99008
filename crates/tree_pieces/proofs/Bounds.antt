-- The size of a side value of a drawable place by the ray of a line, and of a value between two.
use Rattle.std.proofs.Common.{◌≡◌, arith, [], ◌∷◌}
use Rattle.std.proofs.lemmas.Int.{ints}
use Rattle.std.specs.Prelude.{ℤ, pos, ◌-ℤ◌, ◌*ℤ◌, neg_ℤ, ◌≤ℤ◌}
use Rattle.lump_records.specs.declared.plane.Ray.{Ray}
use Rattle.lump_records.specs.declared.records.Vertex.{Vertex}
use Rattle.lump_records.specs.Plane.{IsStep}
use Rattle.tree_pieces.specs.declared.edge.Edge.{Edge}
use Rattle.tree_pieces.specs.declared.edge.Facing.{Facing}
use Rattle.tree_pieces.specs.declared.edge.Facing.TheVariants.{Along, Against}
use Rattle.tree_pieces.specs.Plane.{vertex_value, IsDrawable, IsEdge, ray}
use Rattle.tree_pieces.specs.Local.{IsLineRay}
use Rattle.tree_pieces.proofs.Lengths.{square_not_negative, at_most_by_squares, ray_along}
use Rattle.lump_records.proofs.Wide.{IsWithin, product_within}
use Rattle.lump_records.proofs.Signs.{linear}
use Rattle.lump_records.proofs.Ring.{by_ring, quotes}

-- a number whose square is at most 32767 squared is at most 32767 in size
short_by_square : (z : ℤ) → (z *ℤ z) ≤ℤ pos 1073676289 → IsWithin (pos 32767) z
short_by_square z h =
    let a = at_most_by_squares z (pos 32767) (omega (arith, ints)) (omega (arith, ints)) in
    let e : neg_ℤ z *ℤ neg_ℤ z ≡ z *ℤ z = by_ring (z ∷ []) _ _ (search quotes depth 20) (search quotes depth 20) tt in
    let b = at_most_by_squares (neg_ℤ z) (pos 32767) (omega (arith, ints)) (omega (arith, ints)) in
    record { low = omega (arith, ints); high = a }

pub ray_dx : (r : Ray) → IsLineRay r → IsWithin (pos 32767) r.dx
ray_dx r h = let s = h.short in let q = square_not_negative r.dy in short_by_square r.dx (omega (arith, linear))

pub ray_dy : (r : Ray) → IsLineRay r → IsWithin (pos 32767) r.dy
ray_dy r h = let s = h.short in let q = square_not_negative r.dx in short_by_square r.dy (omega (arith, linear))

pub ray_step : (r : Ray) → IsLineRay r → IsStep r
ray_step r h =
    let x = ray_dx r h in
    let y = ray_dy r h in
    let a = x.low in
    let b = x.high in
    let c = y.low in
    let d = y.high in
    record { dx_low = omega (arith, ints); dx_high = omega (arith, ints); dy_low = omega (arith, ints); dy_high = omega (arith, ints) }

-- both rays of a line
pub line_ray : (e : Edge) (f : Facing) → IsEdge e → IsLineRay (ray e f)
line_ray e Along l = record { start = l.start; short = l.short }
line_ray e Against l = let a = ray_along e Against in let s = l.short in record { start = l.end; short = omega (arith, linear) }

way : (a b : ℤ) → neg_ℤ (pos 16384) ≤ℤ a → a ≤ℤ pos 16383 → neg_ℤ (pos 16384) ≤ℤ b → b ≤ℤ pos 16383 → IsWithin (pos 32767) (b -ℤ a)
way a b la ha lb hb = record { low = omega (arith, ints); high = omega (arith, ints) }

difference_within : (a b : ℤ) → IsWithin (pos 1073676289) a → IsWithin (pos 1073676289) b → IsWithin (pos 2147483648) (a -ℤ b)
difference_within a b f g = let p = f.low in let q = f.high in let r = g.low in let s = g.high in record { low = omega (arith, ints); high = omega (arith, ints) }

pub value_within : (r : Ray) (v : Vertex) → IsLineRay r → IsDrawable v → IsWithin (pos 2147483648) (vertex_value r v)
value_within r v h d =
    let s = h.start in
    difference_within (r.dy *ℤ (v.x -ℤ r.start.x)) (r.dx *ℤ (v.y -ℤ r.start.y))
    (product_within r.dy (v.x -ℤ r.start.x) (pos 32767) (pos 32767) (omega (arith, ints)) (omega (arith, ints)) (ray_dy r h) (way r.start.x v.x s.x_low s.x_high d.x_low d.x_high))
    (product_within r.dx (v.y -ℤ r.start.y) (pos 32767) (pos 32767) (omega (arith, ints)) (omega (arith, ints)) (ray_dx r h) (way r.start.y v.y s.y_low s.y_high d.y_low d.y_high))

-- a part of a fraction's denominator by such a value
pub scaled_within : (a b : ℤ) → pos 0 ≤ℤ a → a ≤ℤ pos 1073676289 → neg_ℤ (pos 2147483648) ≤ℤ b → b ≤ℤ pos 2147483648 → IsWithin (pos 2305702273872822272) (a *ℤ b)
scaled_within a b la ha lb hb =
    product_within a b (pos 1073676289) (pos 2147483648) (omega (arith, ints)) (omega (arith, ints))
    (record { low = omega (arith, ints); high = ha }) (record { low = lb; high = hb })
