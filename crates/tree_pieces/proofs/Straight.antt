-- One piece by two partitions on one straight line: the parts agree, or have right and left exchanged.
use Rattle.std.proofs.Common.{◌≡◌, refl, sym, ap, ◌∙◌, subst, ⊎_elim, List, [], ◌∷◌, Some, None, Bool, true, false, arith, All}
use Rattle.std.proofs.lemmas.Int.{ints, by_lt_z}
use Rattle.std.specs.Prelude.{ℤ, pos, ◌+ℤ◌, ◌-ℤ◌, ◌*ℤ◌, neg_ℤ, ◌≤ℤ◌, ◌<ℤ◌, int_lt, if◌then◌else◌, is_some}
use Rattle.lump_records.specs.declared.records.Vertex.{Vertex}
use Rattle.lump_records.specs.declared.plane.Ray.{Ray}
use Rattle.tree_pieces.specs.declared.edge.Edge.{Edge}
use Rattle.tree_pieces.specs.declared.edge.Facing.{Facing}
use Rattle.tree_pieces.specs.declared.edge.Facing.TheVariants.{Along, Against}
use Rattle.tree_pieces.specs.declared.frac.Frac.{Frac}
use Rattle.tree_pieces.specs.declared.piece.Piece.{Piece}
use Rattle.tree_pieces.specs.declared.piece.Parts.{Parts}
use Rattle.tree_pieces.specs.declared.piece.Place.{Place}
use Rattle.tree_pieces.specs.declared.piece.Place.TheVariants.{Right, Left, Across}
use Rattle.tree_pieces.specs.Plane.{ray, vertex_value, dot, IsEdge, LiesOn, RunsWith, RunsAgainst}
use Rattle.tree_pieces.specs.Fractions.{between, exact_value, zero_between, crossing, point_at, IsFraction}
use Rattle.tree_pieces.specs.Pieces.{edge_of, ray_of, first_end, last_end, same_place, IsPiece}
use Rattle.tree_pieces.specs.Division.{value_by, LiesAlong, place_by, place_of_piece, kept, cut_at, parts_by, parts_of}
use Rattle.lump_records.proofs.Ring.{by_ring, quotes}
use Rattle.lump_records.proofs.Signs.{linear, zero_product, factor_at_most}
use Rattle.tree_pieces.proofs.Rounding.{steps_rise, one_point}
use Rattle.tree_pieces.proofs.Crossing.{zero_rising, zero_falling, crossing_down, crossing_up, crossing_in, zero_at_ends}
use Rattle.tree_pieces.proofs.Lengths.{dot_not_zero, lies_crossed}
use Rattle.tree_pieces.proofs.Placing.{Means, place_means}
use Rattle.tree_pieces.proofs.Division.{MayDivide, crossing_small}
use Rattle.tree_pieces.proofs.Trees.{may_divide}
use Rattle.tree_pieces.proofs.SignLemmas.{HasSign, has_sign, HasOther, has_other, same_place_by, turned, turned_place_by}

-- ---- the values by the two rays
-- what is got from one ray is k/m of what is got from the other
pub record IsScaled (r r' : Ray) (k m : ℤ) : Type 0 where
  pub value : (v : Vertex) → k *ℤ vertex_value r' v ≡ m *ℤ vertex_value r v
  pub dot : (s : Ray) → k *ℤ dot r' s ≡ m *ℤ dot r s

cross_times : (a b c d x y : ℤ) → (a *ℤ a +ℤ b *ℤ b) *ℤ (d *ℤ x -ℤ c *ℤ y) ≡ (a *ℤ c +ℤ b *ℤ d) *ℤ (b *ℤ x -ℤ a *ℤ y) +ℤ (a *ℤ x +ℤ b *ℤ y) *ℤ (a *ℤ d -ℤ b *ℤ c)
cross_times a b c d x y = by_ring (a ∷ b ∷ c ∷ d ∷ x ∷ y ∷ []) _ _ (search quotes depth 30 fits 20000) (search quotes depth 30 fits 20000) tt

dot_times : (a b c d p q : ℤ) → (a *ℤ a +ℤ b *ℤ b) *ℤ (c *ℤ p +ℤ d *ℤ q) ≡ (a *ℤ c +ℤ b *ℤ d) *ℤ (a *ℤ p +ℤ b *ℤ q) +ℤ (a *ℤ q -ℤ b *ℤ p) *ℤ (a *ℤ d -ℤ b *ℤ c)
dot_times a b c d p q = by_ring (a ∷ b ∷ c ∷ d ∷ p ∷ q ∷ []) _ _ (search quotes depth 30 fits 20000) (search quotes depth 30 fits 20000) tt

value_from : (r : Ray) (u v : Vertex) → r.dy *ℤ (v.x -ℤ u.x) -ℤ r.dx *ℤ (v.y -ℤ u.y) ≡ vertex_value r v -ℤ vertex_value r u
value_from r u v = by_ring (r.dx ∷ r.dy ∷ r.start.x ∷ r.start.y ∷ u.x ∷ u.y ∷ v.x ∷ v.y ∷ []) _ _ (search quotes depth 40 fits 40000) (search quotes depth 40 fits 40000) tt

-- a ray that starts on the straight line of another, and runs along it
pub scaled : (r r' : Ray) → r.dx *ℤ r'.dy -ℤ r.dy *ℤ r'.dx ≡ pos 0 → vertex_value r r'.start ≡ pos 0 → IsScaled r r' (dot r r) (dot r r')
scaled r r' c s = record {
  value = λ v.
      let x = v.x -ℤ r'.start.x in
      let y = v.y -ℤ r'.start.y in
      let t = cross_times r.dx r.dy r'.dx r'.dy x y in
      let z = ap (λ (n : ℤ). (r.dx *ℤ x +ℤ r.dy *ℤ y) *ℤ n) c ∙ zero_product (r.dx *ℤ x +ℤ r.dy *ℤ y) in
      let f : r.dy *ℤ x -ℤ r.dx *ℤ y ≡ vertex_value r v = let g = value_from r r'.start v in omega (arith, linear) in
      let h = ap (λ (n : ℤ). dot r r' *ℤ n) f in
      omega (arith, linear);
  dot = λ s.
      let t = dot_times r.dx r.dy r'.dx r'.dy s.dx s.dy in
      let z = ap (λ (n : ℤ). (r.dx *ℤ s.dy -ℤ r.dy *ℤ s.dx) *ℤ n) c ∙ zero_product (r.dx *ℤ s.dy -ℤ r.dy *ℤ s.dx) in
      omega (arith, linear);
}

-- the ray of a line that lies on another ray
pub scaled_line : (r : Ray) (e : Edge) (f : Facing) → LiesOn r e → IsScaled r (ray e f) (dot r r) (dot r (ray e f))
scaled_line r e Along on = scaled r (ray e Along) (lies_crossed r e on Along) on.0
scaled_line r e Against on = scaled r (ray e Against) (lies_crossed r e on Against) on.1

scaled_between : (k m a b a' b' : ℤ) (t : Frac) → k *ℤ a' ≡ m *ℤ a → k *ℤ b' ≡ m *ℤ b → k *ℤ between a' b' t ≡ m *ℤ between a b t
scaled_between k m a b a' b' t e f =
    let g : k *ℤ between a' b' t ≡ (t.d -ℤ t.n) *ℤ (k *ℤ a') +ℤ t.n *ℤ (k *ℤ b') =
    by_ring (k ∷ a' ∷ b' ∷ t.n ∷ t.d ∷ []) _ _ (search quotes depth 30 fits 20000)
    (search quotes depth 30 fits 20000) tt in
    let h : m *ℤ between a b t ≡ (t.d -ℤ t.n) *ℤ (m *ℤ a) +ℤ t.n *ℤ (m *ℤ b) = by_ring (m ∷ a ∷ b ∷ t.n ∷ t.d ∷ []) _ _ (search quotes depth 30 fits 20000) (search quotes depth 30 fits 20000) tt in
    g ∙ ap (λ (x : ℤ). (t.d -ℤ t.n) *ℤ x +ℤ t.n *ℤ (k *ℤ b')) e ∙ ap (λ (x : ℤ). (t.d -ℤ t.n) *ℤ (m *ℤ a) +ℤ t.n *ℤ x) f ∙ sym h

-- ---- the crossing
-- both rays cross a line at one fraction, whatever its form
abbrev pub SameValue : Frac → Frac → Type 0
SameValue s t = s.n *ℤ t.d ≡ t.n *ℤ s.d

cross_same : (k m a b a' b' : ℤ) → pos 0 <ℤ k → k *ℤ a' ≡ m *ℤ a → k *ℤ b' ≡ m *ℤ b → a *ℤ b' ≡ a' *ℤ b
cross_same k m a b a' b' h e f =
    let x : k *ℤ (a *ℤ b') ≡ a *ℤ (k *ℤ b') = by_ring (k ∷ a ∷ b' ∷ []) _ _ (search quotes depth 20) (search quotes depth 20) tt in
    let y : k *ℤ (a' *ℤ b) ≡ b *ℤ (k *ℤ a') = by_ring (k ∷ a' ∷ b ∷ []) _ _ (search quotes depth 20) (search quotes depth 20) tt in
    let z : a *ℤ (m *ℤ b) ≡ b *ℤ (m *ℤ a) = by_ring (m ∷ a ∷ b ∷ []) _ _ (search quotes depth 20) (search quotes depth 20) tt in
    let ef = ap (λ (n : ℤ). a *ℤ n) f in
    let ee = ap (λ (n : ℤ). b *ℤ n) e in
    let p = factor_at_most k (a *ℤ b') (a' *ℤ b) h (omega (arith, linear)) in
    let q = factor_at_most k (a' *ℤ b) (a *ℤ b') h (omega (arith, linear)) in
    omega (arith, linear)

zeros_same : (a b a' b' : ℤ) → a *ℤ b' ≡ a' *ℤ b → SameValue (zero_between a b) (zero_between a' b')
zeros_same a b a' b' e = by_lt_z a b rises falls
  where
    rise_rise : neg_ℤ a *ℤ (b' -ℤ a') -ℤ neg_ℤ a' *ℤ (b -ℤ a) ≡ a' *ℤ b -ℤ a *ℤ b'
    rise_rise = by_ring (a ∷ b ∷ a' ∷ b' ∷ []) _ _ (search quotes depth 20) (search quotes depth 20) tt

    rise_fall : neg_ℤ a *ℤ (a' -ℤ b') -ℤ a' *ℤ (b -ℤ a) ≡ a *ℤ b' -ℤ a' *ℤ b
    rise_fall = by_ring (a ∷ b ∷ a' ∷ b' ∷ []) _ _ (search quotes depth 20) (search quotes depth 20) tt

    fall_rise : a *ℤ (b' -ℤ a') -ℤ neg_ℤ a' *ℤ (a -ℤ b) ≡ a *ℤ b' -ℤ a' *ℤ b
    fall_rise = by_ring (a ∷ b ∷ a' ∷ b' ∷ []) _ _ (search quotes depth 20) (search quotes depth 20) tt

    fall_fall : a *ℤ (a' -ℤ b') -ℤ a' *ℤ (a -ℤ b) ≡ a' *ℤ b -ℤ a *ℤ b'
    fall_fall = by_ring (a ∷ b ∷ a' ∷ b' ∷ []) _ _ (search quotes depth 20) (search quotes depth 20) tt

    both : (c c' : Frac) → zero_between a b ≡ c → zero_between a' b' ≡ c' → SameValue c c' → SameValue (zero_between a b) (zero_between a' b')
    both c c' f g s = subst (λ (x : Frac). SameValue x (zero_between a' b')) (sym f) (subst (SameValue c) (sym g) s)

    rises : a <ℤ b → SameValue (zero_between a b) (zero_between a' b')
    rises h =
        by_lt_z a' b'
        (λ k. both _ _ (zero_rising a b h) (zero_rising a' b' k) (let t = rise_rise in omega (arith, linear)))
        (λ k. both _ _ (zero_rising a b h) (zero_falling a' b' k) (let t = rise_fall in omega (arith, linear)))

    falls : b ≤ℤ a → SameValue (zero_between a b) (zero_between a' b')
    falls h =
        by_lt_z a' b'
        (λ k. both _ _ (zero_falling a b h) (zero_rising a' b' k) (let t = fall_rise in omega (arith, linear)))
        (λ k. both _ _ (zero_falling a b h) (zero_falling a' b' k) (let t = fall_fall in omega (arith, linear)))

-- rounding depends on a fraction's value alone
pub same_point : (e : Edge) (s t : Frac) → IsFraction s → IsFraction t → SameValue s t → point_at e s ≡ point_at e t
same_point e s t fs ft v =
    let a = steps_rise e s t fs.positive ft.positive fs.at_least_zero (omega (arith, linear)) in
    let b = steps_rise e t s ft.positive fs.positive ft.at_least_zero (omega (arith, linear)) in
    one_point e s t fs ft (omega arith)

-- a crossing is a fraction
across_fraction : (lines : List Edge) (h p : Piece) → MayDivide lines h p → place_of_piece lines h p ≡ Across → IsFraction (crossing (ray_of lines h) (edge_of lines p))
across_fraction lines h p may a =
    let r = ray_of lines h in
    let e = edge_of lines p in
    let u = value_by lines h p p.from in
    let w = value_by lines h p p.to in
    let z = dot r (ray_of lines p) in
    let m = subst (Means u w z) a (place_means u w z) in
    let small = crossing_small r e may.short may.line in
    let q = may.piece in
    let x = vertex_value r e.v1 in
    let y = vertex_value r e.v2 in
    ⊎_elim
    (λ d. crossing_in p.from (crossing r e) p.to q.from_in q.to_in (crossing_down x y p.from p.to q.from_in.positive q.to_in.positive q.rising d.0 d.1) small)
    (λ d. crossing_in p.from (crossing r e) p.to q.from_in q.to_in (crossing_up x y p.from p.to q.from_in.positive q.to_in.positive q.rising d.0 d.1) small) m

-- ---- what is kept
abbrev negated : Bool → Bool
negated true = false
negated false = true

kept_some : (b : Bool) (x : Piece) → is_some (if b then None else Some x) ≡ negated b
kept_some true x = refl
kept_some false x = refl

first_kept : (lines : List Edge) (p : Piece) (c d : Frac) → point_at (edge_of lines p) c ≡ point_at (edge_of lines p) d
    → is_some (kept lines (record p { to = c })) ≡ is_some (kept lines (record p { to = d }))
first_kept lines p c d e =
    kept_some (same_place (first_end lines p) (point_at (edge_of lines p) c)) (record p { to = c })
    ∙ ap (λ (v : Vertex). negated (same_place (first_end lines p) v)) e
    ∙ sym (kept_some (same_place (first_end lines p) (point_at (edge_of lines p) d)) (record p { to = d }))

last_kept : (lines : List Edge) (p : Piece) (c d : Frac) → point_at (edge_of lines p) c ≡ point_at (edge_of lines p) d
    → is_some (kept lines (record p { from = c })) ≡ is_some (kept lines (record p { from = d }))
last_kept lines p c d e =
    kept_some (same_place (point_at (edge_of lines p) c) (last_end lines p)) (record p { from = c })
    ∙ ap (λ (v : Vertex). negated (same_place v (last_end lines p))) e
    ∙ sym (kept_some (same_place (point_at (edge_of lines p) d) (last_end lines p)) (record p { from = d }))

-- two divisions keep the same sides of a piece
pub record KeepsSame (x y : Parts) : Type 0 where
  pub right : is_some x.right ≡ is_some y.right
  pub left : is_some x.left ≡ is_some y.left

-- or the one keeps on its right what the other keeps on its left
pub record KeepsTurned (x y : Parts) : Type 0 where
  pub right : is_some x.right ≡ is_some y.left
  pub left : is_some x.left ≡ is_some y.right

cut_same : (lines : List Edge) (p : Piece) (c d : Frac) (b : Bool) → point_at (edge_of lines p) c ≡ point_at (edge_of lines p) d → KeepsSame (cut_at lines p c b) (cut_at lines p d b)
cut_same lines p c d true e = record { right = first_kept lines p c d e; left = last_kept lines p c d e }
cut_same lines p c d false e = record { right = last_kept lines p c d e; left = first_kept lines p c d e }

cut_turned : (lines : List Edge) (p : Piece) (c d : Frac) (b : Bool) → point_at (edge_of lines p) c ≡ point_at (edge_of lines p) d → KeepsTurned (cut_at lines p c b) (cut_at lines p d (negated b))
cut_turned lines p c d true e = record { right = first_kept lines p c d e; left = last_kept lines p c d e }
cut_turned lines p c d false e = record { right = last_kept lines p c d e; left = first_kept lines p c d e }

is_above : (x : ℤ) → pos 0 <ℤ x → int_lt (pos 0) x ≡ true
is_above x h = grind (arith, ints)

not_at : (x : ℤ) → x ≤ℤ pos 0 → int_lt (pos 0) x ≡ false
not_at x h = grind (arith, ints)

-- ---- one piece by two partitions on one straight line
-- what is known of two pieces of a list of lines
pub record OnOneLine (lines : List Edge) (a b : Piece) : Type 0 where
  pub drawn : All IsEdge lines
  pub first : IsPiece lines a
  pub second : IsPiece lines b
  pub along : LiesAlong lines a b

module _ (lines : List Edge) (a b : Piece) (on : OnOneLine lines a b) where
  by_two : IsScaled (ray_of lines a) (ray_of lines b) (dot (ray_of lines a) (ray_of lines a)) (dot (ray_of lines a) (ray_of lines b))
  by_two = scaled_line (ray_of lines a) (edge_of lines b) b.side on.along

  may_first : (q : Piece) → IsPiece lines q → MayDivide lines a q
  may_first q h = may_divide lines on.drawn a q on.first h

  may_second : (q : Piece) → IsPiece lines q → MayDivide lines b q
  may_second q h = may_divide lines on.drawn b q on.second h

  long : pos 0 <ℤ dot (ray_of lines a) (ray_of lines a)
  long = (may_first a on.first).long

  -- the exact values at a fraction of a line
  values : (e : Edge) (t : Frac) → dot (ray_of lines a) (ray_of lines a) *ℤ exact_value (ray_of lines b) e t ≡ dot (ray_of lines a) (ray_of lines b) *ℤ exact_value (ray_of lines a) e t
  values e t = scaled_between _ _ (vertex_value (ray_of lines a) e.v1) (vertex_value (ray_of lines a) e.v2)
      (vertex_value (ray_of lines b) e.v1) (vertex_value (ray_of lines b) e.v2) t (by_two.value e.v1)
      (by_two.value e.v2)

  crossings : (e : Edge) → SameValue (crossing (ray_of lines a) e) (crossing (ray_of lines b) e)
  crossings e =
      zeros_same (vertex_value (ray_of lines a) e.v1) (vertex_value (ray_of lines a) e.v2) (vertex_value (ray_of lines b) e.v1) (vertex_value (ray_of lines b) e.v2)
      (cross_same (dot (ray_of lines a) (ray_of lines a)) (dot (ray_of lines a) (ray_of lines b)) _ _ _ _ long (by_two.value e.v1) (by_two.value e.v2))

  points : (q : Piece) → IsPiece lines q → place_of_piece lines a q ≡ Across → place_of_piece lines b q ≡ Across
      → point_at (edge_of lines q) (crossing (ray_of lines a) (edge_of lines q))
      ≡ point_at (edge_of lines q) (crossing (ray_of lines b) (edge_of lines q))
  points q h x y = same_point (edge_of lines q) _ _ (across_fraction lines a q (may_first q h) x) (across_fraction lines b q (may_second q h) y) (crossings (edge_of lines q))

  -- ---- in one direction
  module _ (with : RunsWith (ray_of lines a) (ray_of lines b)) where
    sign_at : (e : Edge) (t : Frac) → HasSign (exact_value (ray_of lines a) e t) (exact_value (ray_of lines b) e t)
    sign_at e t = has_sign _ _ _ _ long with (values e t)

    pub same_place_of : (q : Piece) → place_of_piece lines a q ≡ place_of_piece lines b q
    same_place_of q = same_place_by _ _ _ _ _ _ (sign_at (edge_of lines q) q.from) (sign_at (edge_of lines q) q.to) (has_sign _ _ _ _ long with (by_two.dot (ray_of lines q)))

    same_start : (x y : ℤ) → HasSign x y → int_lt (pos 0) x ≡ int_lt (pos 0) y
    same_start x y s =
        by_lt_z (pos 0) x (λ h. is_above x h ∙ sym (is_above y (s.above h)))
        (λ h. not_at x h ∙ sym (not_at y (by_lt_z x (pos 0) (λ k. let t = s.below k in omega (arith, linear))
        (λ k. let t = s.zero (omega (arith, linear)) in omega (arith, linear)))))

    pub same_kept : (q : Piece) → IsPiece lines q → KeepsSame (parts_of lines a q) (parts_of lines b q)
    same_kept q h = by_place (place_of_piece lines a q) refl
      where
        moved : (place : Place) → place_of_piece lines a q ≡ place → KeepsSame (parts_by lines a q place) (parts_by lines b q place) → KeepsSame (parts_of lines a q) (parts_of lines b q)
        moved place e k =
            subst (λ (x : Place). KeepsSame (parts_by lines a q x) (parts_of lines b q)) (sym e)
            (subst (λ (x : Place). KeepsSame (parts_by lines a q place) (parts_by lines b q x))
            (sym e ∙ same_place_of q) k)

        by_place : (place : Place) → place_of_piece lines a q ≡ place → KeepsSame (parts_of lines a q) (parts_of lines b q)
        by_place Right e = moved Right e (record { right = refl; left = refl })
        by_place Left e = moved Left e (record { right = refl; left = refl })
        by_place Across e =
            let s = same_start _ _ (sign_at (edge_of lines q) q.from) in
            moved Across e (subst (λ (x : Bool). KeepsSame (parts_by lines a q Across)
            (cut_at lines q (crossing (ray_of lines b) (edge_of lines q)) x)) s
            (cut_same lines q _ _ (int_lt (pos 0) (value_by lines a q q.from))
            (points q h e (sym (same_place_of q) ∙ e))))

  -- ---- in opposite directions
  module _ (against : RunsAgainst (ray_of lines a) (ray_of lines b)) where
    other_at : (e : Edge) (t : Frac) → HasOther (exact_value (ray_of lines a) e t) (exact_value (ray_of lines b) e t)
    other_at e t = has_other _ _ _ _ long against (values e t)

    -- a piece with both values 0 lies along, and so runs with the ray or against it
    not_none : (q : Piece) → IsPiece lines q → value_by lines a q q.from ≡ pos 0 → value_by lines a q q.to ≡ pos 0 → dot (ray_of lines a) (ray_of lines q) ≡ pos 0 → ⊥
    not_none q h u w z =
        let e = edge_of lines q in
        dot_not_zero (ray_of lines a) e q.side long (may_first q h).line
        (zero_at_ends (vertex_value (ray_of lines a) e.v1)
        (vertex_value (ray_of lines a) e.v2) q.from q.to h.from_in.positive h.to_in.positive h.rising u w) z

    pub turned_place_of : (q : Piece) → IsPiece lines q → turned (place_of_piece lines a q) ≡ place_of_piece lines b q
    turned_place_of q h =
        turned_place_by _ _ _ _ _ _ (other_at (edge_of lines q) q.from) (other_at (edge_of lines q) q.to)
        (has_other _ _ _ _ long against (by_two.dot (ray_of lines q))) (not_none q h)

    turned_start : (x y : ℤ) → HasOther x y → (x ≡ pos 0 → ⊥) → negated (int_lt (pos 0) x) ≡ int_lt (pos 0) y
    turned_start x y s nz =
        by_lt_z (pos 0) x (λ h. ap negated (is_above x h) ∙ sym (not_at y (let t = s.above h in omega (arith, linear))))
        (λ h. ap negated (not_at x h) ∙ sym (is_above y
        (by_lt_z x (pos 0) s.below (λ k. absurd (nz (omega (arith, linear)))))))

    across_not_zero : (u w z : ℤ) → place_by u w z ≡ Across → u ≡ pos 0 → ⊥
    across_not_zero u w z e k =
        let m = subst (Means u w z) e (place_means u w z) in
        ⊎_elim (λ d. let x = d.0 in omega (arith, linear)) (λ d. let x = d.0 in omega (arith, linear)) m

    pub turned_kept : (q : Piece) → IsPiece lines q → KeepsTurned (parts_of lines a q) (parts_of lines b q)
    turned_kept q h = by_place (place_of_piece lines a q) refl
      where
        moved : (place : Place) → place_of_piece lines a q ≡ place → KeepsTurned (parts_by lines a q place) (parts_by lines b q (turned place)) → KeepsTurned (parts_of lines a q) (parts_of lines b q)
        moved place e k =
            subst (λ (x : Place). KeepsTurned (parts_by lines a q x) (parts_of lines b q)) (sym e)
            (subst (λ (x : Place). KeepsTurned (parts_by lines a q place) (parts_by lines b q x))
            (ap turned (sym e) ∙ turned_place_of q h) k)

        by_place : (place : Place) → place_of_piece lines a q ≡ place → KeepsTurned (parts_of lines a q) (parts_of lines b q)
        by_place Right e = moved Right e (record { right = refl; left = refl })
        by_place Left e = moved Left e (record { right = refl; left = refl })
        by_place Across e =
            let s = turned_start _ _ (other_at (edge_of lines q) q.from) (across_not_zero _ (value_by lines a q q.to) (dot (ray_of lines a) (ray_of lines q)) e) in
            moved Across e (subst (λ (x : Bool). KeepsTurned (parts_by lines a q Across)
            (cut_at lines q (crossing (ray_of lines b) (edge_of lines q)) x)) s
            (cut_turned lines q _ _ (int_lt (pos 0) (value_by lines a q q.from))
            (points q h e (sym (turned_place_of q h) ∙ ap turned e))))
