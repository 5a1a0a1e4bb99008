-- Where an edge crosses a line: how far that is along the edge, if it is a whole place.
use Rattle.std.proofs.Common.{◌≡◌, ◌<◌, ◌≤◌, ⊎_elim, add-zero, ◌/◌, ◌%◌, refl, sym, ap, ap₂, ◌∙◌, ℕ, zero, suc, ◌+◌, ◌*◌, [], ◌∷◌, true, ◌&&◌, ◌||◌, arith, to_z, of_z}
use Rattle.std.proofs.lemmas.Bool.Decides.{Decides-int_eq}
use Rattle.std.proofs.lemmas.Int.{clamps, ints, to_z-of_z}
use Rattle.std.proofs.lemmas.Nat.{div-mul-add, mod-mul-add}
use Rattle.std.specs.Int.{w16, w64}
use Rattle.std.specs.Int.RustNames.{FitsSigned}
use Rattle.std.specs.Ordering.{int_eq}
use Rattle.std.specs.Prelude.{ℤ, pos, negsuc, ◌+ℤ◌, ◌-ℤ◌, ◌*ℤ◌, ◌≤ℤ◌, neg_ℤ, nat_abs, int_lt}
use borrow.Author.Differences.{abs_is}
use Rattle.lump_records.proofs.Ring.{by_ring, quotes}
use Rattle.lump_records.specs.declared.records.Vertex.{Vertex}
use Rattle.map_plane.proofs.Tests.{and_both, lt_says, or_either, under_says}
use Rattle.map_plane.specs.Meeting.{boxes_meet, has_on_both_sides, is_on, is_under, side_value_at, spans_meet}
use Rattle.map_plane.specs.declared.places.PlacedLine.{PlacedLine}
use Rattle.map_areas.specs.Ways.{crosses_way}

abs_neg : (n : ℕ) → nat_abs (neg_ℤ (pos n)) ≡ n
abs_neg zero = refl
abs_neg (suc n) = refl

-- the size of a product
abs_product : (a b : ℤ) → nat_abs (a *ℤ b) ≡ nat_abs a * nat_abs b
abs_product (pos a) (pos b) = refl
abs_product (pos a) (negsuc b) = abs_neg (a * suc b)
abs_product (negsuc a) (pos b) = abs_neg (suc a * b)
abs_product (negsuc a) (negsuc b) = refl

-- how far two values are apart that lie on both sides of 0
abs_apart : (a b : ℤ) → ((int_lt a (pos 0) && int_lt (pos 0) b) || (int_lt (pos 0) a && int_lt b (pos 0))) ≡ true
    → nat_abs (a -ℤ b) ≡ nat_abs a + nat_abs b
abs_apart a b e =
    ⊎_elim
    (λ h. let one = and_both (int_lt a (pos 0)) (int_lt (pos 0) b) h in let p = lt_says a (pos 0) one.0 in let q = lt_says (pos 0) b one.1 in
    omega (arith, ints, abs_is (a -ℤ b), abs_is a, abs_is b))
    (λ h. let one = and_both (int_lt (pos 0) a) (int_lt b (pos 0)) h in let p = lt_says (pos 0) a one.0 in let q = lt_says b (pos 0) one.1 in
    omega (arith, ints, abs_is (a -ℤ b), abs_is a, abs_is b))
    (or_either (int_lt a (pos 0) && int_lt (pos 0) b) (int_lt (pos 0) a && int_lt b (pos 0)) e)

-- they are apart
pub some_apart : (a b : ℤ) → ((int_lt a (pos 0) && int_lt (pos 0) b) || (int_lt (pos 0) a && int_lt b (pos 0))) ≡ true
    → 0 < nat_abs a + nat_abs b
some_apart a b e =
    ⊎_elim
    (λ h. let one = and_both (int_lt a (pos 0)) (int_lt (pos 0) b) h in let p = lt_says a (pos 0) one.0 in omega (arith, ints, abs_is a))
    (λ h. let one = and_both (int_lt (pos 0) a) (int_lt b (pos 0)) h in let p = lt_says (pos 0) a one.0 in omega (arith, ints, abs_is a))
    (or_either (int_lt a (pos 0) && int_lt (pos 0) b) (int_lt (pos 0) a && int_lt b (pos 0)) e)

-- along x: how far the place is from the line's start, by the values of the other line at the start and at the end
along_x : (kdx kdy kx ky ax ay bx by px py : ℤ)
    → (px -ℤ ax) *ℤ ((kdy *ℤ (ax -ℤ kx) -ℤ kdx *ℤ (ay -ℤ ky)) -ℤ (kdy *ℤ (bx -ℤ kx) -ℤ kdx *ℤ (by -ℤ ky)))
    ≡ (bx -ℤ ax) *ℤ ((kdy *ℤ (ax -ℤ kx) -ℤ kdx *ℤ (ay -ℤ ky)) -ℤ (kdy *ℤ (px -ℤ kx) -ℤ kdx *ℤ (py -ℤ ky)))
    +ℤ kdx *ℤ ((by -ℤ ay) *ℤ (px -ℤ ax) -ℤ (bx -ℤ ax) *ℤ (py -ℤ ay))
along_x kdx kdy kx ky ax ay bx by px py = by_ring (kdx ∷ kdy ∷ kx ∷ ky ∷ ax ∷ ay ∷ bx ∷ by ∷ px ∷ py ∷ []) _ _
    (search quotes depth 30 fits 20000) (search quotes depth 30 fits 20000) tt

along_y : (kdx kdy kx ky ax ay bx by px py : ℤ)
    → (py -ℤ ay) *ℤ ((kdy *ℤ (ax -ℤ kx) -ℤ kdx *ℤ (ay -ℤ ky)) -ℤ (kdy *ℤ (bx -ℤ kx) -ℤ kdx *ℤ (by -ℤ ky)))
    ≡ (by -ℤ ay) *ℤ ((kdy *ℤ (ax -ℤ kx) -ℤ kdx *ℤ (ay -ℤ ky)) -ℤ (kdy *ℤ (px -ℤ kx) -ℤ kdx *ℤ (py -ℤ ky)))
    +ℤ kdy *ℤ ((by -ℤ ay) *ℤ (px -ℤ ax) -ℤ (bx -ℤ ax) *ℤ (py -ℤ ay))
along_y kdx kdy kx ky ax ay bx by px py = by_ring (kdx ∷ kdy ∷ kx ∷ ky ∷ ax ∷ ay ∷ bx ∷ by ∷ px ∷ py ∷ []) _ _
    (search quotes depth 30 fits 20000) (search quotes depth 30 fits 20000) tt

-- u of a - b is d of a where the place's own values are 0
without_zeros : (u d c a b p w : ℤ) → u *ℤ (a -ℤ b) ≡ d *ℤ (a -ℤ p) +ℤ c *ℤ w → p ≡ pos 0 → w ≡ pos 0 → u *ℤ (a -ℤ b) ≡ d *ℤ a
without_zeros u d c a b p w e zp zw = e ∙ ap (λ (x : ℤ). d *ℤ (a -ℤ x) +ℤ c *ℤ w) zp ∙ ap (λ (x : ℤ). d *ℤ (a -ℤ pos 0) +ℤ c *ℤ x) zw
    ∙ by_ring (d ∷ a ∷ c ∷ []) _ _ (search quotes depth 30 fits 20000) (search quotes depth 30 fits 20000) tt

-- the same in sizes, if a and b lie on both sides of 0
pub in_sizes : (u d a b : ℤ) → ((int_lt a (pos 0) && int_lt (pos 0) b) || (int_lt (pos 0) a && int_lt b (pos 0))) ≡ true
    → u *ℤ (a -ℤ b) ≡ d *ℤ a → nat_abs u * (nat_abs a + nat_abs b) ≡ nat_abs d * nat_abs a
in_sizes u d a b s e =
    ap (λ (x : ℕ). nat_abs u * x) (sym (abs_apart a b s)) ∙ sym (abs_product u (a -ℤ b)) ∙ ap nat_abs e ∙ abs_product d a

-- ---- Whole places

-- a place on a line is at its straight line
pub on_line : (l : PlacedLine) (p : Vertex) → is_on l p ≡ true → side_value_at l p ≡ pos 0
unfolding is_on
on_line l p h =
    let box = and_both (int_eq (side_value_at l p) (pos 0) && spans_meet l.from.x l.to.x p.x p.x) (spans_meet l.from.y l.to.y p.y p.y) h in
    let one = and_both (int_eq (side_value_at l p) (pos 0)) (spans_meet l.from.x l.to.x p.x p.x) box.0 in
    (Decides-int_eq (side_value_at l p) (pos 0)).0 one.0

-- a line that is crossed has the other's ends on both sides
crossed_sides : (l k : PlacedLine) → crosses_way l k ≡ true → has_on_both_sides k l ≡ true
crossed_sides l k c = (and_both (boxes_meet l k && has_on_both_sides l k) (has_on_both_sides k l) c).1

-- the whole by which the way is divided isn't 0
pub some_whole : (l k : PlacedLine) → crosses_way l k ≡ true → 0 < nat_abs (side_value_at k l.from) + nat_abs (side_value_at k l.to)
unfolding has_on_both_sides
some_whole l k c = some_apart (side_value_at k l.from) (side_value_at k l.to) (crossed_sides l k c)

-- nothing is left of a whole number of parts
pub no_rest : (n w : ℕ) → 0 < w → (n * w) % w ≡ 0
no_rest n w h = ap (λ x. x % w) (sym (add-zero (n * w))) ∙ mod-mul-add n w 0 h

-- and there are that many
pub so_many : (n w : ℕ) → 0 < w → n * w / w ≡ n
so_many n w h = ap (λ x. x / w) (sym (add-zero (n * w))) ∙ div-mul-add n w 0 h

-- so far along x is a whole place on both lines from the start of the one
pub whole_x : (l k : PlacedLine) (p : Vertex) → crosses_way l k ≡ true → is_on l p ≡ true → is_on k p ≡ true
    → nat_abs (p.x -ℤ l.from.x) * (nat_abs (side_value_at k l.from) + nat_abs (side_value_at k l.to))
    ≡ nat_abs (l.to.x -ℤ l.from.x) * nat_abs (side_value_at k l.from)
unfolding side_value_at has_on_both_sides
whole_x l k p c ol ok =
    in_sizes (p.x -ℤ l.from.x) (l.to.x -ℤ l.from.x) (side_value_at k l.from) (side_value_at k l.to) (crossed_sides l k c)
    (without_zeros (p.x -ℤ l.from.x) (l.to.x -ℤ l.from.x) (k.to.x -ℤ k.from.x) (side_value_at k l.from) (side_value_at k l.to) (side_value_at k p) (side_value_at l p)
    (along_x (k.to.x -ℤ k.from.x) (k.to.y -ℤ k.from.y) k.from.x k.from.y l.from.x l.from.y l.to.x l.to.y p.x p.y) (on_line k p ok) (on_line l p ol))

-- and so far along y
pub whole_y : (l k : PlacedLine) (p : Vertex) → crosses_way l k ≡ true → is_on l p ≡ true → is_on k p ≡ true
    → nat_abs (p.y -ℤ l.from.y) * (nat_abs (side_value_at k l.from) + nat_abs (side_value_at k l.to))
    ≡ nat_abs (l.to.y -ℤ l.from.y) * nat_abs (side_value_at k l.from)
unfolding side_value_at has_on_both_sides
whole_y l k p c ol ok =
    in_sizes (p.y -ℤ l.from.y) (l.to.y -ℤ l.from.y) (side_value_at k l.from) (side_value_at k l.to) (crossed_sides l k c)
    (without_zeros (p.y -ℤ l.from.y) (l.to.y -ℤ l.from.y) (k.to.y -ℤ k.from.y) (side_value_at k l.from) (side_value_at k l.to) (side_value_at k p) (side_value_at l p)
    (along_y (k.to.x -ℤ k.from.x) (k.to.y -ℤ k.from.y) k.from.x k.from.y l.from.x l.from.y l.to.x l.to.y p.x p.y) (on_line k p ok) (on_line l p ol))

-- a place on a line is in its span along x
pub on_x : (l : PlacedLine) (p : Vertex) → is_on l p ≡ true → spans_meet l.from.x l.to.x p.x p.x ≡ true
unfolding is_on
on_x l p h =
    let box = and_both (int_eq (side_value_at l p) (pos 0) && spans_meet l.from.x l.to.x p.x p.x)
    (spans_meet l.from.y l.to.y p.y p.y) h in
    (and_both (int_eq (side_value_at l p) (pos 0)) (spans_meet l.from.x l.to.x p.x p.x) box.0).1

-- and along y
pub on_y : (l : PlacedLine) (p : Vertex) → is_on l p ≡ true → spans_meet l.from.y l.to.y p.y p.y ≡ true
unfolding is_on
on_y l p h =
    (and_both (int_eq (side_value_at l p) (pos 0) && spans_meet l.from.x l.to.x p.x p.x)
    (spans_meet l.from.y l.to.y p.y p.y) h).1

-- ---- The way to a number of a span

-- the number is no further from the start than the end is
in_span : (a b p : ℤ) → spans_meet a b p p ≡ true → nat_abs (p -ℤ a) ≤ nat_abs (b -ℤ a)
unfolding spans_meet
in_span a b p h =
    let one = and_both (is_under a b p p) (is_under p p a b) h in
    let low = under_says a b p p one.0 in
    let high = under_says p p a b one.1 in
    omega (arith, ints, clamps, abs_is (p -ℤ a), abs_is (b -ℤ a))

-- it lies between the ends, upwards
in_rise : (a b p : ℤ) → a ≤ℤ b → spans_meet a b p p ≡ true → (a ≤ℤ p) × (p ≤ℤ b)
unfolding spans_meet
in_rise a b p up h =
    let one = and_both (is_under a b p p) (is_under p p a b) h in
    let low = under_says a b p p one.0 in
    let high = under_says p p a b one.1 in
    (omega (arith, ints, clamps), omega (arith, ints, clamps))

-- and downwards
in_fall : (a b p : ℤ) → b ≤ℤ a → spans_meet a b p p ≡ true → (b ≤ℤ p) × (p ≤ℤ a)
unfolding spans_meet
in_fall a b p down h =
    let one = and_both (is_under a b p p) (is_under p p a b) h in
    let low = under_says a b p p one.0 in
    let high = under_says p p a b one.1 in
    (omega (arith, ints, clamps), omega (arith, ints, clamps))

by_rise : (a p : ℤ) (n : ℕ) → a ≤ℤ p → n ≡ nat_abs (p -ℤ a) → a +ℤ pos n ≡ p
by_rise a p n up far = omega (arith, ints, abs_is (p -ℤ a))

by_fall : (a p : ℤ) (n : ℕ) → p ≤ℤ a → n ≡ nat_abs (p -ℤ a) → a -ℤ pos n ≡ p
by_fall a p n down far = omega (arith, ints, abs_is (p -ℤ a))

-- what lies between two numbers of 16 bits is one
fits_between : (a b p : ℤ) → FitsSigned w16 a → FitsSigned w16 b → a ≤ℤ p → p ≤ℤ b → FitsSigned w16 p
fits_between a b (pos p) fa fb low high = record { sfits = grind (arith, ints) }
fits_between a b (negsuc p) fa fb low high = record { sfits = grind (arith, ints) }

-- so nothing is lost of it
as_it_is : (a b p s : ℤ) → FitsSigned w16 a → FitsSigned w16 b → a ≤ℤ p → p ≤ℤ b → s ≡ p
    → to_z w16 (of_z w16 (to_z w64 (of_z w64 s))) ≡ p
as_it_is a b p s fa fb low high e =
    let f = fits_between a b p fa fb low high in
    let g : FitsSigned w64 p = record { sfits = omega (arith, ints, f) } in
    ap (λ (x : ℤ). to_z w16 (of_z w16 (to_z w64 (of_z w64 x)))) e
    ∙ ap (λ (x : ℤ). to_z w16 (of_z w16 x)) (to_z-of_z w64 p g) ∙ to_z-of_z w16 p f

-- nor of a number of 16 bits in 64
as_wide : (a f : ℤ) → FitsSigned w16 a → f ≡ to_z w16 (of_z w16 a) → to_z w64 (of_z w64 f) ≡ a
as_wide a f fits e =
    let g : FitsSigned w64 a = record { sfits = omega (arith, ints, fits) } in
    ap (λ (x : ℤ). to_z w64 (of_z w64 x)) (e ∙ to_z-of_z w16 a fits) ∙ to_z-of_z w64 a g

-- upwards the number is reached by adding how far it is from the start
pub so_far_up : (a b p f : ℤ) (n : ℕ) → FitsSigned w16 a → FitsSigned w16 b → a ≤ℤ b → spans_meet a b p p ≡ true
    → f ≡ to_z w16 (of_z w16 a) → n ≤ 65535 → n ≡ nat_abs (p -ℤ a)
    → to_z w16 (of_z w16 (to_z w64 (of_z w64 (to_z w64 (of_z w64 f) +ℤ to_z w64 n)))) ≡ p
so_far_up a b p f n fa fb up h e small far =
    let same : to_z w64 n ≡ pos n = omega (arith, ints) in
    let within = in_rise a b p up h in
    as_it_is a b p _ fa fb within.0 within.1
    (ap₂ (λ (x y : ℤ). x +ℤ y) (as_wide a f fa e) same ∙ by_rise a p n within.0 far)

-- and downwards by taking that away
pub so_far_down : (a b p f : ℤ) (n : ℕ) → FitsSigned w16 a → FitsSigned w16 b → b ≤ℤ a → spans_meet a b p p ≡ true
    → f ≡ to_z w16 (of_z w16 a) → n ≤ 65535 → n ≡ nat_abs (p -ℤ a)
    → to_z w16 (of_z w16 (to_z w64 (of_z w64 (to_z w64 (of_z w64 f) -ℤ to_z w64 n)))) ≡ p
so_far_down a b p f n fa fb down h e small far =
    let same : to_z w64 n ≡ pos n = omega (arith, ints) in
    let within = in_fall a b p down h in
    as_it_is b a p _ fb fa within.0 within.1
    (ap₂ (λ (x y : ℤ). x -ℤ y) (as_wide a f fa e) same ∙ by_fall a p n within.1 far)

-- the part v of w of the span is as far as the number lies, if that is what the part of its length is
pub as_far : (a b p : ℤ) (s v w r : ℕ) → FitsSigned w16 a → FitsSigned w16 b
    → s ≡ nat_abs (to_z w16 (of_z w16 b) -ℤ to_z w16 (of_z w16 a)) → spans_meet a b p p ≡ true
    → nat_abs (p -ℤ a) * w ≡ nat_abs (b -ℤ a) * v → ((n : ℕ) → n ≤ s → n * w ≡ s * v → r ≡ n)
    → r ≡ nat_abs (p -ℤ a)
as_far a b p s v w r fa fb is h e exact =
    let far = in_span a b p h in
    let length : s ≡ nat_abs (b -ℤ a) =
    is ∙ ap₂ (λ (x y : ℤ). nat_abs (x -ℤ y)) (to_z-of_z w16 b fb) (to_z-of_z w16 a fa) in
    exact (nat_abs (p -ℤ a)) (omega (arith, far, length)) (e ∙ ap (λ (x : ℕ). x * v) (sym length))

-- the number so far along is the answer, if it is for the ends as they are read
pub reached : (a b p : ℤ) (v w : ℕ) (r : ℤ) → FitsSigned w16 a → FitsSigned w16 b → FitsSigned w16 r
    → spans_meet a b p p ≡ true → nat_abs (p -ℤ a) * w ≡ nat_abs (b -ℤ a) * v
    → ((q : ℤ) → spans_meet (to_z w16 (of_z w16 a)) (to_z w16 (of_z w16 b)) q q ≡ true
    → nat_abs (q -ℤ to_z w16 (of_z w16 a)) * w ≡ nat_abs (to_z w16 (of_z w16 b) -ℤ to_z w16 (of_z w16 a)) * v → r ≡ q)
    → to_z w16 (of_z w16 r) ≡ p
reached a b p v w r fa fb fr h e exact =
    let s = to_z-of_z w16 a fa in
    let t = to_z-of_z w16 b fb in
    to_z-of_z w16 r fr ∙ exact p (ap₂ (λ (x y : ℤ). spans_meet x y p p) s t ∙ h)
    (ap (λ (x : ℤ). nat_abs (p -ℤ x) * w) s ∙ e ∙ sym (ap₂ (λ (x y : ℤ). nat_abs (y -ℤ x) * v) s t))
