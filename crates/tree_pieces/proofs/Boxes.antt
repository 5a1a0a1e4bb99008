-- A box on one side of a ray: each piece whose rounded ends lie well in it goes to that side whole.
use Rattle.std.proofs.Common.{◌≡◌, refl, ap, [], ◌∷◌, Bool, true, false, arith, List, Some, None}
use Rattle.std.proofs.lemmas.Int.{ints}
use Rattle.std.specs.Prelude.{ℤ, pos, ◌+ℤ◌, ◌-ℤ◌, ◌*ℤ◌, ◌≤ℤ◌, ◌<ℤ◌, int_le, if◌then◌else◌}
use Rattle.lump_records.specs.declared.plane.Ray.{Ray}
use Rattle.lump_records.specs.declared.records.Bounds.{Bounds}
use Rattle.tree_pieces.specs.declared.edge.Edge.{Edge}
use Rattle.tree_pieces.specs.declared.frac.Frac.{Frac}
use Rattle.tree_pieces.specs.declared.piece.Piece.{Piece}
use Rattle.tree_pieces.specs.declared.piece.Place.TheVariants.{Right, Left}
use Rattle.tree_pieces.specs.Plane.{dot}
use Rattle.tree_pieces.specs.Fractions.{between, exact_value, rounded, point_at, IsFraction}
use Rattle.tree_pieces.specs.Pieces.{edge_of, ray_of, IsPiece}
use Rattle.tree_pieces.specs.Division.{place_by, parts_of, parts_by, value_by}
use Rattle.tree_pieces.specs.Boxes.{least_times, greatest_times, ray_offset, least_value, greatest_value, IsWellIn, HoldsPiece}
use Rattle.tree_pieces.proofs.Rounding.{error_bounds}
use Rattle.lump_records.proofs.Signs.{linear, times_at_most, times_negative, product_positive, times_below}
use Rattle.lump_records.proofs.Ring.{by_ring, quotes}

-- the exact coordinate, times the denominator, is within a whole step of the rounded one
exact_above : (a b low : ℤ) (t : Frac) → IsFraction t → low <ℤ rounded a b t → (t.d *ℤ low) ≤ℤ between a b t
exact_above a b low t f h =
    let e = error_bounds a b t f.positive in
    let d = f.positive in
    let m = times_at_most t.d (low +ℤ pos 1) (rounded a b t) (omega (arith, linear)) (omega (arith, linear)) in
    let s : t.d *ℤ (low +ℤ pos 1) ≡ t.d *ℤ low +ℤ t.d = by_ring (t.d ∷ low ∷ []) _ _ (search quotes depth 20) (search quotes depth 20) tt in
    omega (arith, ints)

exact_below : (a b high : ℤ) (t : Frac) → IsFraction t → rounded a b t <ℤ high → between a b t ≤ℤ (t.d *ℤ high)
exact_below a b high t f h =
    let e = error_bounds a b t f.positive in
    let d = f.positive in
    let m = times_at_most t.d (rounded a b t +ℤ pos 1) high (omega (arith, linear)) (omega (arith, linear)) in
    let s : t.d *ℤ (rounded a b t +ℤ pos 1) ≡ t.d *ℤ rounded a b t +ℤ t.d = by_ring (t.d ∷ rounded a b t ∷ []) _ _ (search quotes depth 20) (search quotes depth 20) tt in
    omega (arith, ints)

-- a number times what lies between d*low and d*high
least_is : (k low high d x : ℤ) → (d *ℤ low) ≤ℤ x → x ≤ℤ (d *ℤ high) → (d *ℤ least_times k low high) ≤ℤ (k *ℤ x)
least_is k low high d x l h = by_test (int_le (pos 0) k) refl
  where
    by_test : (b : Bool) → int_le (pos 0) k ≡ b → (d *ℤ (if b then k *ℤ low else k *ℤ high)) ≤ℤ (k *ℤ x)
    by_test true e =
        let m = times_at_most k (d *ℤ low) x (omega (arith, ints)) l in
        let s : k *ℤ (d *ℤ low) ≡ d *ℤ (k *ℤ low) = by_ring (k ∷ d ∷ low ∷ []) _ _ (search quotes depth 20) (search quotes depth 20) tt in
        omega (arith, linear)
    by_test false e =
        let m = times_negative k x (d *ℤ high) (omega (arith, ints)) h in
        let s : k *ℤ (d *ℤ high) ≡ d *ℤ (k *ℤ high) = by_ring (k ∷ d ∷ high ∷ []) _ _ (search quotes depth 20) (search quotes depth 20) tt in
        omega (arith, linear)

greatest_is : (k low high d x : ℤ) → (d *ℤ low) ≤ℤ x → x ≤ℤ (d *ℤ high) → (k *ℤ x) ≤ℤ (d *ℤ greatest_times k low high)
greatest_is k low high d x l h = by_test (int_le (pos 0) k) refl
  where
    by_test : (b : Bool) → int_le (pos 0) k ≡ b → (k *ℤ x) ≤ℤ (d *ℤ (if b then k *ℤ high else k *ℤ low))
    by_test true e =
        let m = times_at_most k x (d *ℤ high) (omega (arith, ints)) h in
        let s : k *ℤ (d *ℤ high) ≡ d *ℤ (k *ℤ high) = by_ring (k ∷ d ∷ high ∷ []) _ _ (search quotes depth 20) (search quotes depth 20) tt in
        omega (arith, linear)
    by_test false e =
        let m = times_negative k (d *ℤ low) x (omega (arith, ints)) l in
        let s : k *ℤ (d *ℤ low) ≡ d *ℤ (k *ℤ low) = by_ring (k ∷ d ∷ low ∷ []) _ _ (search quotes depth 20) (search quotes depth 20) tt in
        omega (arith, linear)

-- the exact value by the two exact coordinates
value_splits : (r : Ray) (e : Edge) (t : Frac) → exact_value r e t ≡ r.dy *ℤ between e.v1.x e.v2.x t -ℤ r.dx *ℤ between e.v1.y e.v2.y t -ℤ t.d *ℤ ray_offset r
value_splits r e t = by_ring (r.dx ∷ r.dy ∷ r.start.x ∷ r.start.y ∷ e.v1.x ∷ e.v1.y ∷ e.v2.x ∷ e.v2.y ∷ t.n ∷ t.d ∷ []) _ _ (search quotes depth 40 fits 60000) (search quotes depth 40 fits 60000) tt

spread_out : (d a b c : ℤ) → d *ℤ (a -ℤ b -ℤ c) ≡ d *ℤ a -ℤ d *ℤ b -ℤ d *ℤ c
spread_out d a b c = by_ring (d ∷ a ∷ b ∷ c ∷ []) _ _ (search quotes depth 20) (search quotes depth 20) tt

-- the exact value at a point whose rounded place lies well in a box
pub value_in_box : (r : Ray) (e : Edge) (t : Frac) (b : Bounds) → IsFraction t → IsWellIn b (point_at e t)
    → ((t.d *ℤ least_value r b) ≤ℤ exact_value r e t) × (exact_value r e t ≤ℤ (t.d *ℤ greatest_value r b))
value_in_box r e t b f w =
    let xl = exact_above e.v1.x e.v2.x b.left t f w.left in
    let xh = exact_below e.v1.x e.v2.x b.right t f w.right in
    let yl = exact_above e.v1.y e.v2.y b.bottom t f w.bottom in
    let yh = exact_below e.v1.y e.v2.y b.top t f w.top in
    let x1 = least_is r.dy b.left b.right t.d (between e.v1.x e.v2.x t) xl xh in
    let x2 = greatest_is r.dy b.left b.right t.d (between e.v1.x e.v2.x t) xl xh in
    let y1 = least_is r.dx b.bottom b.top t.d (between e.v1.y e.v2.y t) yl yh in
    let y2 = greatest_is r.dx b.bottom b.top t.d (between e.v1.y e.v2.y t) yl yh in
    let v = value_splits r e t in
    let l = spread_out t.d (least_times r.dy b.left b.right) (greatest_times r.dx b.bottom b.top) (ray_offset r) in
    let g = spread_out t.d (greatest_times r.dy b.left b.right) (least_times r.dx b.bottom b.top) (ray_offset r) in
    by_parts (r.dy *ℤ between e.v1.x e.v2.x t) (r.dx *ℤ between e.v1.y e.v2.y t) (t.d *ℤ ray_offset r) (exact_value r e t) _ _ _ _ _ _ v x1 x2 y1 y2 l g
  where
    by_parts : (x y c v xl xh yl yh low high : ℤ) → v ≡ x -ℤ y -ℤ c → xl ≤ℤ x → x ≤ℤ xh → yl ≤ℤ y → y ≤ℤ yh → low ≡ xl -ℤ yh -ℤ c → high ≡ xh -ℤ yl -ℤ c → (low ≤ℤ v) × (v ≤ℤ high)
    by_parts x y c v xl xh yl yh low high e a b c' d l h = (omega (arith, linear), omega (arith, linear))

-- signs decide the place
right_by_signs : (u w z : ℤ) → pos 0 <ℤ u → pos 0 <ℤ w → place_by u w z ≡ Right
right_by_signs u w z h k = grind (arith, ints)

left_by_signs : (u w z : ℤ) → u <ℤ pos 0 → w <ℤ pos 0 → place_by u w z ≡ Left
left_by_signs u w z h k = grind (arith, ints)

-- a box on the right: the piece goes right whole
pub box_right : (lines : List Edge) (partition p : Piece) (b : Bounds) → IsPiece lines p → HoldsPiece lines b p
    → pos 0 <ℤ least_value (ray_of lines partition) b → parts_of lines partition p
    ≡ record { right = Some p; left = None }
box_right lines partition p b ok holds h =
    let r = ray_of lines partition in
    let e = edge_of lines p in
    let u = (value_in_box r e p.from b ok.from_in holds.first).0 in
    let w = (value_in_box r e p.to b ok.to_in holds.last).0 in
    let f = ok.from_in.positive in
    let t = ok.to_in.positive in
    let uf = product_positive p.from.d (least_value r b) (omega (arith, linear)) h in
    let wt = product_positive p.to.d (least_value r b) (omega (arith, linear)) h in
    let s = right_by_signs (value_by lines partition p p.from) (value_by lines partition p p.to) (dot r (ray_of lines p)) (omega (arith, linear)) (omega (arith, linear)) in
    ap (parts_by lines partition p) s

-- a box on the left: the piece goes left whole
pub box_left : (lines : List Edge) (partition p : Piece) (b : Bounds) → IsPiece lines p → HoldsPiece lines b p
    → greatest_value (ray_of lines partition) b <ℤ pos 0 → parts_of lines partition p
    ≡ record { right = None; left = Some p }
box_left lines partition p b ok holds h =
    let r = ray_of lines partition in
    let e = edge_of lines p in
    let u = (value_in_box r e p.from b ok.from_in holds.first).1 in
    let w = (value_in_box r e p.to b ok.to_in holds.last).1 in
    let f = ok.from_in.positive in
    let t = ok.to_in.positive in
    let uf = times_below p.from.d (greatest_value r b) (pos 0) (omega (arith, linear)) h in
    let wt = times_below p.to.d (greatest_value r b) (pos 0) (omega (arith, linear)) h in
    let s = left_by_signs (value_by lines partition p p.from) (value_by lines partition p p.to) (dot r (ray_of lines p)) (omega (arith, ints)) (omega (arith, ints)) in
    ap (parts_by lines partition p) s
