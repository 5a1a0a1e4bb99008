-- A rounded point of a line lies no farther from the line's ends than these from one another; the angles of sides.
use Rattle.std.proofs.Common.{◌≡◌, ◌≢◌, sym, ap, ◌∙◌, subst, ◌⊎◌, inl, inr, ℕ, ◌≤◌, ◌<◌, List, [], ◌∷◌, length, get_or, arith}
use Rattle.std.proofs.lemmas.Int.{ints, by_lt_z}
use Rattle.std.specs.Prelude.{ℤ, pos, neg_ℤ, ◌≤ℤ◌, ◌<ℤ◌, ◌-ℤ◌, ◌*ℤ◌, ◌+ℤ◌}
use Rattle.lump_records.proofs.Signs.{linear, times_at_most}
use Rattle.lump_records.proofs.Ring.{by_ring, quotes}
use Rattle.tree_pieces.specs.declared.edge.Edge.{Edge}
use Rattle.tree_pieces.specs.declared.edge.Facing.{Facing}
use Rattle.tree_pieces.specs.declared.frac.Frac.{Frac}
use Rattle.tree_pieces.specs.Plane.{ray, IsEdge}
use Rattle.tree_pieces.specs.Fractions.{IsFraction, rounded, point_at}
use Rattle.tree_pieces.specs.Offset.{squared_distance, longest_squared}
use Rattle.tree_pieces.proofs.EdgeLemmas.{distance_is}
use Rattle.tree_pieces.specs.declared.edge.Facing.TheVariants.{Along, Against}
use Rattle.tree_pieces.specs.declared.piece.Piece.{Piece}
use Rattle.tree_pieces.specs.Pieces.{edge_of, ray_of}
use Rattle.tree_pieces.specs.Angle.{IsAngle}
use Rattle.tree_pieces.specs.LineAngles.{IsRayAngle, AreAngles}
use Rattle.tree_pieces.proofs.Rounding.{rounded_in}

part_square : (u w : ℤ) → pos 0 ≤ℤ u → u ≤ℤ w → (u *ℤ u) ≤ℤ (w *ℤ w)
part_square u w a b =
    let x = times_at_most u u w a b in
    let y = times_at_most w u w (omega (arith, linear)) b in
    let c : u *ℤ w ≡ w *ℤ u = by_ring (u ∷ w ∷ []) _ _ (search quotes depth 30 fits 20000) (search quotes depth 30 fits 20000) tt in
    omega (arith, linear)

turned_square : (a b : ℤ) → (a -ℤ b) *ℤ (a -ℤ b) ≡ (b -ℤ a) *ℤ (b -ℤ a)
turned_square a b = by_ring (a ∷ b ∷ []) _ _ (search quotes depth 30 fits 20000) (search quotes depth 30 fits 20000) tt

-- r lies from a to b
by_coordinate : (a b r : ℤ) → a ≤ℤ r → r ≤ℤ b → (((r -ℤ a) *ℤ (r -ℤ a)) ≤ℤ ((b -ℤ a) *ℤ (b -ℤ a))) × (((r -ℤ b) *ℤ (r -ℤ b)) ≤ℤ ((b -ℤ a) *ℤ (b -ℤ a)))
by_coordinate a b r l h =
    let x = part_square (r -ℤ a) (b -ℤ a) (omega (arith, linear)) (omega (arith, linear)) in
    let y = part_square (b -ℤ r) (b -ℤ a) (omega (arith, linear)) (omega (arith, linear)) in
    let t = turned_square r b in
    (x, omega (arith, linear))

coordinate : (a b : ℤ) (t : Frac) → IsFraction t
    → (((rounded a b t -ℤ a) *ℤ (rounded a b t -ℤ a)) ≤ℤ ((b -ℤ a) *ℤ (b -ℤ a)))
    × (((rounded a b t -ℤ b) *ℤ (rounded a b t -ℤ b)) ≤ℤ ((b -ℤ a) *ℤ (b -ℤ a)))
coordinate a b t f =
    by_lt_z a b
    (λ l. let k = rounded_in a b a b t f.positive f.at_least_zero f.at_most_one (omega (arith, linear))
    (omega (arith, linear)) (omega (arith, linear)) (omega (arith, linear)) in by_coordinate a b
    (rounded a b t) k.0 k.1)
    (λ l. let k = rounded_in b a a b t f.positive f.at_least_zero f.at_most_one l (omega (arith, linear)) (omega (arith, linear)) l in
    let h = by_coordinate b a (rounded a b t) k.0 k.1 in
    let s = turned_square a b in
    let h0 = h.0 in
    let h1 = h.1 in
    (omega (arith, linear), omega (arith, linear)))

at_most_too : (a b : ℕ) → pos a ≤ℤ pos b → a ≤ b
at_most_too a b h = omega (arith, ints)

pub from_start : (e : Edge) (t : Frac) → IsEdge e → IsFraction t → squared_distance e.v1 (point_at e t) ≤ longest_squared
from_start e t line f =
    let x = (coordinate e.v1.x e.v2.x t f).0 in
    let y = (coordinate e.v1.y e.v2.y t f).0 in
    let s = line.short in
    let d = distance_is e.v1 (point_at e t) in
    let g : (((point_at e t).x -ℤ e.v1.x) *ℤ ((point_at e t).x -ℤ e.v1.x) +ℤ ((point_at e t).y -ℤ e.v1.y) *ℤ ((point_at e t).y -ℤ e.v1.y)) ≤ℤ pos 1073676289 = omega (arith, linear) in
    at_most_too (squared_distance e.v1 (point_at e t)) 1073676289 (subst (λ (z : ℤ). z ≤ℤ pos 1073676289) (sym d) g)

pub from_end : (e : Edge) (t : Frac) → IsEdge e → IsFraction t → squared_distance e.v2 (point_at e t) ≤ longest_squared
from_end e t line f =
    let x = (coordinate e.v1.x e.v2.x t f).1 in
    let y = (coordinate e.v1.y e.v2.y t f).1 in
    let s = line.short in
    let d = distance_is e.v2 (point_at e t) in
    let g : (((point_at e t).x -ℤ e.v2.x) *ℤ ((point_at e t).x -ℤ e.v2.x) +ℤ ((point_at e t).y -ℤ e.v2.y) *ℤ ((point_at e t).y -ℤ e.v2.y)) ≤ℤ pos 1073676289 = omega (arith, linear) in
    at_most_too (squared_distance e.v2 (point_at e t)) 1073676289 (subst (λ (z : ℤ). z ≤ℤ pos 1073676289) (sym d) g)

-- ---- the angle of a side
zero_sum : (x y : ℤ) → x ≡ pos 0 → y ≡ pos 0 → x *ℤ x +ℤ y *ℤ y ≡ pos 0
zero_sum x y e f = ap (λ (z : ℤ). z *ℤ z +ℤ y *ℤ y) e ∙ ap (λ (z : ℤ). pos 0 *ℤ pos 0 +ℤ z *ℤ z) f

not_both : (x y : ℤ) → pos 0 <ℤ (x *ℤ x +ℤ y *ℤ y) → (x ≢ pos 0) ⊎ (y ≢ pos 0)
not_both x y h =
    by_lt_z x (pos 0)
    (λ l. inl (λ e. absurd (omega (arith, linear))))
    (λ l. by_lt_z (pos 0) x (λ m. inl (λ e. absurd (omega (arith, linear)))) (λ m. let z : x ≡ pos 0 = omega (arith, linear) in inr (λ e. let s = zero_sum x y z e in absurd (omega (arith, linear)))))

-- a line turned round
turned_dx : (e : Edge) → (ray e Against).dx ≡ neg_ℤ (ray e Along).dx
turned_dx e = omega (arith, linear)

turned_dy : (e : Edge) → (ray e Against).dy ≡ neg_ℤ (ray e Along).dy
turned_dy e = omega (arith, linear)

-- a right side runs at the angle of its line
pub along_angle : (lines : List Edge) (angles : List ℕ) (p : Piece) → AreAngles lines angles → p.line < length lines → p.side ≡ Along → IsRayAngle (ray_of lines p) (get_or angles p.line 0)
along_angle lines angles p a l e = subst (λ (f : Facing). IsRayAngle (ray (edge_of lines p) f) (get_or angles p.line 0)) (sym e) (a.each p.line l)

-- and a left side at the opposite one
pub against_angle : (lines : List Edge) (angles : List ℕ) (p : Piece) (opposite : ℕ) → AreAngles lines angles → p.line < length lines → IsEdge (edge_of lines p) → p.side ≡ Against
    → ((x : ℤ) → (y : ℤ) → (x ≢ pos 0) ⊎ (y ≢ pos 0) → IsAngle x y (get_or angles p.line 0) → IsAngle (neg_ℤ x) (neg_ℤ y) opposite)
    → IsRayAngle (ray_of lines p) opposite
against_angle lines angles p opposite a l line e h =
    let own = edge_of lines p in
    let r = ray own Along in
    let k = h r.dx r.dy (not_both r.dx r.dy line.apart) (a.each p.line l) in
    let x = subst (λ (z : ℤ). IsAngle z (neg_ℤ r.dy) opposite) (sym (turned_dx own)) k in
    let y = subst (λ (z : ℤ). IsAngle (ray own Against).dx z opposite) (sym (turned_dy own)) x in
    subst (λ (f : Facing). IsRayAngle (ray own f) opposite) (sym e) y
