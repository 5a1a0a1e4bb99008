-- A line on one side of a ray: each piece of it lies on that side.
use Rattle.std.proofs.Common.{◌≡◌, ap, ◌∙◌, List, true, false, ◌⊎◌, inl, inr, ⊎_elim, [], ◌∷◌, subst, arith}
use Rattle.std.proofs.lemmas.Int.{ints, by_lt_z}
use Rattle.std.specs.Prelude.{ℤ, pos, neg_ℤ, ◌+ℤ◌, ◌-ℤ◌, ◌*ℤ◌, ◌≤ℤ◌, ◌<ℤ◌, int_lt, FitsSigned}
use Rattle.std.specs.Int.{w64}
use Rattle.lump_records.specs.declared.plane.Ray.{Ray}
use Rattle.lump_records.proofs.Signs.{linear, times_at_most, times_below, zero_product}
use Rattle.lump_records.proofs.Ring.{by_ring, quotes}
use Rattle.tree_pieces.specs.declared.frac.Frac.{Frac}
use Rattle.tree_pieces.specs.declared.edge.Edge.{Edge}
use Rattle.tree_pieces.specs.declared.piece.Piece.{Piece}
use Rattle.tree_pieces.specs.declared.piece.Place.{Place}
use Rattle.tree_pieces.specs.declared.piece.Place.TheVariants.{Right, Left}
use Rattle.tree_pieces.specs.Plane.{ray, vertex_value, dot}
use Rattle.tree_pieces.specs.Local.{IsSideValue, HasFractions, place_on, parts_at, parts_on}
use Rattle.tree_pieces.specs.Pieces.{edge_of, ray_of}
use Rattle.tree_pieces.specs.Fractions.{between, IsFraction, IsBelow}
use Rattle.tree_pieces.specs.Division.{place_by, parts_of}
use Rattle.tree_pieces.proofs.LocalLemmas.{parts_on_is}
use Rattle.tree_pieces.proofs.Crossing.{zero_at_ends}
use Rattle.tree_pieces.proofs.Placing.{Means, place_means}
use Rattle.tree_pieces.proofs.SignLemmas.{right_if, left_if}

not_below : (a b : ℤ) (t : Frac) → IsFraction t → pos 0 ≤ℤ a → pos 0 ≤ℤ b → pos 0 ≤ℤ between a b t
not_below a b t f h k =
    let m = f.at_most_one in
    let p = times_at_most (t.d -ℤ t.n) (pos 0) a (omega (arith, linear)) h in
    let q = times_at_most t.n (pos 0) b f.at_least_zero k in
    let zp = zero_product (t.d -ℤ t.n) in
    let zq = zero_product t.n in
    omega (arith, linear)

not_above : (a b : ℤ) (t : Frac) → IsFraction t → a ≤ℤ pos 0 → b ≤ℤ pos 0 → between a b t ≤ℤ pos 0
not_above a b t f h k =
    let m = f.at_most_one in
    let p = times_at_most (t.d -ℤ t.n) a (pos 0) (omega (arith, linear)) h in
    let q = times_at_most t.n b (pos 0) f.at_least_zero k in
    let zp = zero_product (t.d -ℤ t.n) in
    let zq = zero_product t.n in
    omega (arith, linear)

pub line_right : (a b z : ℤ) (s t : Frac) → IsFraction s → IsFraction t → IsBelow s t → place_by a b z ≡ Right → place_by (between a b s) (between a b t) z ≡ Right
line_right a b z s t fs ft k e =
    let m : Means a b z Right = subst (Means a b z) e (place_means a b z) in
    right_if (between a b s) (between a b t) z (not_below a b s fs m.from m.to) (not_below a b t ft m.from m.to)
    (λ u w. let o = zero_at_ends a b s t fs.positive ft.positive k u w in m.direction o.0 o.1)

pub line_left : (a b z : ℤ) (s t : Frac) → IsFraction s → IsFraction t → IsBelow s t → place_by a b z ≡ Left → place_by (between a b s) (between a b t) z ≡ Left
line_left a b z s t fs ft k e =
    let m : Means a b z Left = subst (Means a b z) e (place_means a b z) in
    left_if (between a b s) (between a b t) z (not_above a b s fs m.from m.to) (not_above a b t ft m.from m.to)
    (λ u w. let o = zero_at_ends a b s t fs.positive ft.positive k u w in m.direction o.0 o.1)

module _ (r : Ray) (e : Edge) (q : Piece) (ok : HasFractions q) (a b z : ℤ) (first : a ≡ vertex_value r e.v1) (last : b ≡ vertex_value r e.v2)
    (direction : z ≡ dot r (ray e q.side)) where
  by_ends : (p : Place) → place_by (between a b q.from) (between a b q.to) z ≡ p → place_on r e q ≡ p
  by_ends p h =
      subst (λ (x : ℤ). place_by (between x (vertex_value r e.v2) q.from) (between x (vertex_value r e.v2) q.to) (dot r (ray e q.side)) ≡ p) first
      (subst (λ (y : ℤ). place_by (between a y q.from) (between a y q.to) (dot r (ray e q.side)) ≡ p) last
      (subst (λ (x : ℤ). place_by (between a b q.from) (between a b q.to) x ≡ p) direction h))

  -- the place of a piece by that of its whole line
  pub whole_right : place_by a b z ≡ Right → place_on r e q ≡ Right
  whole_right h = by_ends Right (line_right a b z q.from q.to ok.from ok.to ok.rising h)

  pub whole_left : place_by a b z ≡ Left → place_on r e q ≡ Left
  whole_left h = by_ends Left (line_left a b z q.from q.to ok.from ok.to ok.rising h)

-- the parts by the place that was found
pub parts_by_place : (lines : List Edge) (h q : Piece) (r : Ray) (place : Place) → r ≡ ray_of lines h → place ≡ place_on r (edge_of lines q) q
    → parts_at r (edge_of lines q) q place ≡ parts_of lines h q
parts_by_place lines h q r place e k = ap (parts_at r (edge_of lines q) q) k ∙ ap (λ (x : Ray). parts_on x (edge_of lines q) q) e ∙ parts_on_is lines h q

-- ---- two values whose product isn't below 0
no_less : (x : ℤ) → int_lt x (pos 0) ≡ false → pos 0 ≤ℤ x
no_less x e = grind (arith, ints)

turned_product : (a b : ℤ) → a *ℤ b ≡ b *ℤ a
turned_product a b = by_ring (a ∷ b ∷ []) _ _ (search quotes depth 20) (search quotes depth 20) tt

together : (a b : ℤ) → int_lt (a *ℤ b) (pos 0) ≡ false → ((pos 0 ≤ℤ a) × (pos 0 ≤ℤ b)) ⊎ ((a ≤ℤ pos 0) × (b ≤ℤ pos 0))
together a b e =
    let n = no_less (a *ℤ b) e in
    let za = zero_product a in
    let zb = zero_product b in
    by_lt_z (pos 0) a
    (λ h. inl (omega (arith, linear), by_lt_z b (pos 0) (λ k. let t = times_below a b (pos 0) h k in absurd (omega (arith, linear))) (λ k. k)))
    (λ h. by_lt_z a (pos 0)
    (λ k. inr (h, by_lt_z (pos 0) b (λ l. let t = times_below b a (pos 0) l k in let s = turned_product a b in absurd (omega (arith, linear))) (λ l. l)))
    (λ k. by_lt_z b (pos 0) (λ l. inr (h, omega (arith, linear))) (λ l. inl (k, l))))

-- the sign of their sum, or of the direction if the sum is 0, tells the place
pub place_right : (a b z x : ℤ) → int_lt (a *ℤ b) (pos 0) ≡ false → (a +ℤ b ≡ pos 0 → x ≡ z) → ((a +ℤ b ≡ pos 0 → ⊥) → x ≡ a +ℤ b) → pos 0 <ℤ x → place_by a b z ≡ Right
place_right a b z x t e f h = ⊎_elim
    (λ p. let u = p.0 in let w = p.1 in right_if a b z u w (λ c d. let s = e (omega (arith, linear)) in omega (arith, linear)))
    (λ p. let u = p.0 in let w = p.1 in by_sum u w) (together a b t)
  where
    by_sum : a ≤ℤ pos 0 → b ≤ℤ pos 0 → place_by a b z ≡ Right
    by_sum u w =
        by_lt_z (a +ℤ b) (pos 0) (λ l. let s = f (λ c. absurd (omega (arith, linear))) in absurd (omega (arith, linear)))
        (λ l. let s = e (omega (arith, linear)) in right_if a b z (omega (arith, linear)) (omega (arith, linear)) (λ c d. omega (arith, linear)))

pub place_left : (a b z x : ℤ) → int_lt (a *ℤ b) (pos 0) ≡ false → (a +ℤ b ≡ pos 0 → x ≡ z) → ((a +ℤ b ≡ pos 0 → ⊥) → x ≡ a +ℤ b) → x ≤ℤ pos 0 → place_by a b z ≡ Left
place_left a b z x t e f h = ⊎_elim
    (λ p. let u = p.0 in let w = p.1 in by_sum u w)
    (λ p. let u = p.0 in let w = p.1 in left_if a b z u w (λ c d. let s = e (omega (arith, linear)) in omega (arith, linear))) (together a b t)
  where
    by_sum : pos 0 ≤ℤ a → pos 0 ≤ℤ b → place_by a b z ≡ Left
    by_sum u w =
        by_lt_z (pos 0) (a +ℤ b) (λ l. let s = f (λ c. absurd (omega (arith, linear))) in absurd (omega (arith, linear)))
        (λ l. let s = e (omega (arith, linear)) in left_if a b z (omega (arith, linear)) (omega (arith, linear)) (λ c d. omega (arith, linear)))

pub above : (x : ℤ) → int_lt (pos 0) x ≡ true → pos 0 <ℤ x
above x e = grind (arith, ints)

pub not_above_0 : (x : ℤ) → int_lt (pos 0) x ≡ false → x ≤ℤ pos 0
not_above_0 x e = grind (arith, ints)

-- a side value in 64 bits
pub record IsNarrow (z : ℤ) : Type 0 where
  pub fits : FitsSigned w64 z
  pub low : neg_ℤ (pos 2147483648) ≤ℤ z
  pub high : z ≤ℤ pos 2147483648

pub narrow : (z : ℤ) → IsSideValue z → IsNarrow z
narrow z h = let l = h.low in let k = h.high in record { fits = omega (arith, ints); low = l; high = k }

pub sum_fits : (a b : ℤ) → IsSideValue a → IsSideValue b → FitsSigned w64 (a +ℤ b)
sum_fits a b h k =
    let al = h.low in
    let ah = h.high in
    let bl = k.low in
    let bh = k.high in
    let l : neg_ℤ (pos 4294967296) ≤ℤ (a +ℤ b) = omega (arith, linear) in
    let m : (a +ℤ b) ≤ℤ pos 4294967296 = omega (arith, linear) in
    omega (arith, ints)
