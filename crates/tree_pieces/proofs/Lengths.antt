-- Two vectors: their cross product is at most the product of their lengths.
use Rattle.std.proofs.Common.{◌≡◌, refl, ap, [], ◌∷◌, arith}
use Rattle.std.proofs.lemmas.Int.{ints, by_lt_z}
use Rattle.std.specs.Prelude.{ℤ, pos, negsuc, ◌+ℤ◌, ◌-ℤ◌, ◌*ℤ◌, neg_ℤ, ◌≤ℤ◌, ◌<ℤ◌}
use Rattle.tree_pieces.specs.declared.edge.Edge.{Edge}
use Rattle.tree_pieces.specs.declared.edge.Facing.{Facing}
use Rattle.tree_pieces.specs.declared.edge.Facing.TheVariants.{Along, Against}
use Rattle.lump_records.specs.declared.plane.Ray.{Ray}
use Rattle.tree_pieces.specs.Plane.{ray, vertex_value, LiesOn, dot, IsEdge}
use Rattle.lump_records.proofs.Ring.{by_ring, quotes}
use Rattle.lump_records.proofs.Signs.{linear, times_at_most, times_below, product_positive}

-- a square is not below 0
pub square_not_negative : (x : ℤ) → pos 0 ≤ℤ (x *ℤ x)
square_not_negative (pos n) = omega (arith, ints)
square_not_negative (negsuc n) = omega (arith, ints)

-- a number whose square is at most the square of m is at most m
pub at_most_by_squares : (z m : ℤ) → pos 0 ≤ℤ m → (z *ℤ z) ≤ℤ (m *ℤ m) → z ≤ℤ m
at_most_by_squares z m h k = by_lt_z m z over (λ l. l)
  where
    over : m <ℤ z → z ≤ℤ m
    over l =
        let p = times_at_most m m z h (omega (arith, linear)) in
        let q = times_below z m z (omega (arith, linear)) l in
        let e : m *ℤ z ≡ z *ℤ m = by_ring (m ∷ z ∷ []) _ _ (search quotes depth 20) (search quotes depth 20) tt in
        absurd (omega (arith, linear))

lagrange : (a b c d : ℤ) → (a *ℤ d -ℤ b *ℤ c) *ℤ (a *ℤ d -ℤ b *ℤ c) +ℤ (a *ℤ c +ℤ b *ℤ d) *ℤ (a *ℤ c +ℤ b *ℤ d) ≡ (a *ℤ a +ℤ b *ℤ b) *ℤ (c *ℤ c +ℤ d *ℤ d)
lagrange a b c d = by_ring (a ∷ b ∷ c ∷ d ∷ []) _ _ (search quotes depth 30 fits 20000) (search quotes depth 30 fits 20000) tt

product_at_most : (x y m : ℤ) → pos 0 ≤ℤ x → pos 0 ≤ℤ y → x ≤ℤ m → y ≤ℤ m → (x *ℤ y) ≤ℤ (m *ℤ m)
product_at_most x y m hx hy kx ky =
    let p = times_at_most x y m hx ky in
    let q = times_at_most m x m (omega (arith, linear)) kx in
    let e : x *ℤ m ≡ m *ℤ x = by_ring (x ∷ m ∷ []) _ _ (search quotes depth 20) (search quotes depth 20) tt in
    omega (arith, linear)

-- the cross product of (a, b) and (c, d), both at most as long as the root of m
cross_at_most : (a b c d m : ℤ) → (a *ℤ a +ℤ b *ℤ b) ≤ℤ m → (c *ℤ c +ℤ d *ℤ d) ≤ℤ m → (a *ℤ d -ℤ b *ℤ c) ≤ℤ m
cross_at_most a b c d m h k =
    let sa = square_not_negative a in
    let sb = square_not_negative b in
    let sc = square_not_negative c in
    let sd = square_not_negative d in
    let l = lagrange a b c d in
    let s = square_not_negative (a *ℤ c +ℤ b *ℤ d) in
    let p = product_at_most (a *ℤ a +ℤ b *ℤ b) (c *ℤ c +ℤ d *ℤ d) m (omega (arith, linear)) (omega (arith, linear)) h k in
    at_most_by_squares (a *ℤ d -ℤ b *ℤ c) m (omega (arith, linear)) (omega (arith, linear))

-- a line is as long in both directions
pub ray_along : (e : Edge) (f : Facing) → dot (ray e f) (ray e f) ≡ dot (ray e Along) (ray e Along)
ray_along e Along = refl
ray_along e Against = by_ring (e.v1.x ∷ e.v1.y ∷ e.v2.x ∷ e.v2.y ∷ []) _ _ (search quotes depth 30 fits 20000) (search quotes depth 30 fits 20000) tt

cross_is : (r : Ray) (e : Edge) → vertex_value r e.v1 -ℤ vertex_value r e.v2 ≡ r.dx *ℤ (ray e Along).dy -ℤ r.dy *ℤ (ray e Along).dx
cross_is r e = by_ring (r.dx ∷ r.dy ∷ r.start.x ∷ r.start.y ∷ e.v1.x ∷ e.v1.y ∷ e.v2.x ∷ e.v2.y ∷ []) _ _ (search quotes depth 40 fits 40000) (search quotes depth 40 fits 40000) tt

-- the side values of a line's ends differ by at most the square of the greatest length
pub side_values_near : (r : Ray) (e : Edge) → dot r r ≤ℤ pos 1073676289 → IsEdge e
    → ((vertex_value r e.v1 -ℤ vertex_value r e.v2) ≤ℤ pos 1073676289)
    × ((vertex_value r e.v2 -ℤ vertex_value r e.v1) ≤ℤ pos 1073676289)
side_values_near r e h l =
    let E = ray e Along in
    let c = cross_is r e in
    let s = l.short in
    let p = cross_at_most r.dx r.dy E.dx E.dy (pos 1073676289) h s in
    let sw : E.dy *ℤ E.dy +ℤ E.dx *ℤ E.dx ≡ dot E E = by_ring (E.dx ∷ E.dy ∷ []) _ _ (search quotes depth 30 fits 20000) (search quotes depth 30 fits 20000) tt in
    let sr : r.dy *ℤ r.dy +ℤ r.dx *ℤ r.dx ≡ dot r r = by_ring (r.dx ∷ r.dy ∷ []) _ _ (search quotes depth 30 fits 20000) (search quotes depth 30 fits 20000) tt in
    let q = cross_at_most r.dy r.dx E.dy E.dx (pos 1073676289) (omega (arith, linear)) (omega (arith, linear)) in
    (omega (arith, linear), omega (arith, linear))

-- a line on a ray's straight line runs along it
pub lies_crossed : (r : Ray) (e : Edge) → LiesOn r e → (f : Facing) → r.dx *ℤ (ray e f).dy -ℤ r.dy *ℤ (ray e f).dx ≡ pos 0
lies_crossed r e on Along = let c = cross_is r e in let a = on.0 in let b = on.1 in omega (arith, linear)
lies_crossed r e on Against =
    let c = cross_is r e in let a = on.0 in let b = on.1 in
    let t : r.dx *ℤ (ray e Against).dy -ℤ r.dy *ℤ (ray e Against).dx
    ≡ neg_ℤ (r.dx *ℤ (ray e Along).dy -ℤ r.dy *ℤ (ray e Along).dx) =
    by_ring (r.dx ∷ r.dy ∷ e.v1.x ∷ e.v1.y ∷ e.v2.x ∷ e.v2.y ∷ []) _ _ (search quotes depth 30 fits 20000)
    (search quotes depth 30 fits 20000) tt in
    omega (arith, linear)

-- two lines on one straight line have a product that isn't 0
pub dot_not_zero : (r : Ray) (e : Edge) (f : Facing) → pos 0 <ℤ dot r r → IsEdge e → LiesOn r e → dot r (ray e f) ≡ pos 0 → ⊥
dot_not_zero r e f h l on z =
    let E = ray e f in
    let p = ray_along e f in
    let q = l.apart in
    let m = product_positive (dot r r) (dot E E) h (omega (arith, linear)) in
    let g = lagrange r.dx r.dy E.dx E.dy in
    let c = lies_crossed r e on f in
    let c2 = ap (λ (x : ℤ). x *ℤ x) c in
    let z2 = ap (λ (x : ℤ). x *ℤ x) z in
    omega (arith, linear)
