-- Side values by the rays of lines, in 32 bits.
use Rattle.std.proofs.Common.{◌≡◌, refl, sym, ◌∙◌, ap, subst, ◌≤◌, Bool, true, false, ◌&&◌, arith, [], ◌∷◌}
use Rattle.std.proofs.lemmas.Int.{ints, to_z-of_z}
use Rattle.std.specs.Prelude.{ℤ, pos, neg_ℤ, ◌+ℤ◌, ◌-ℤ◌, ◌*ℤ◌, ◌≤ℤ◌, ◌<ℤ◌, int_lt, unsigned_abs, FitsSigned}
use Rattle.std.specs.Int.{w16, w32}
use mir.Val.{to_z, of_z}
use Rattle.lump_records.specs.declared.records.Vertex.{Vertex}
use Rattle.lump_records.specs.declared.plane.Ray.{Ray}
use Rattle.lump_records.proofs.Ring.{by_ring, quotes}
use Rattle.lump_records.proofs.Signs.{linear}
use Rattle.lump_records.proofs.Wide.{IsWithin, product_within}
use Rattle.tree_pieces.specs.Local.{IsLineRay}
use Rattle.tree_pieces.specs.Plane.{vertex_value, blur}
use Rattle.tree_pieces.specs.Boxes.{ray_offset}
use Rattle.tree_pieces.proofs.Bounds.{ray_dx, ray_dy}
use Rattle.tree_choice.specs.declared.margins.Normal.{Normal}
use Rattle.tree_choice.specs.Sights.{AreMargins, IsNormal}

-- a number that stays as it is
pub back : (z : ℤ) → IsWithin (pos 2147483647) z → to_z w32 (of_z w32 z) ≡ z
back z h = let l = h.low in let k = h.high in let f : FitsSigned w32 z = omega (arith, ints) in to_z-of_z w32 z f

from_16 : (z : ℤ) → FitsSigned w16 z → to_z w32 (of_z w32 (to_z w16 (of_z w16 z))) ≡ z
from_16 z f =
    let g : FitsSigned w32 z = omega (arith, ints) in
    ap (λ (x : ℤ). to_z w32 (of_z w32 x)) (to_z-of_z w16 z f) ∙ to_z-of_z w32 z g

-- a product
pub short_times : (k z : ℤ) → FitsSigned w16 k → FitsSigned w16 z → IsWithin (pos 32767) k
    → IsWithin (pos 1073709056) (to_z w32 (of_z w32 (to_z w32 (of_z w32 (to_z w16 (of_z w16 k))) *ℤ to_z w32 (of_z w32 (to_z w16 (of_z w16 z))))))
short_times k z f g h =
    let w : IsWithin (pos 1073709056) (k *ℤ z) = product_within k z (pos 32767) (pos 32768) (omega (arith, ints)) (omega (arith, ints)) h (record { low = omega (arith, ints); high = omega (arith, ints) }) in
    let l = w.low in
    let m = w.high in
    rw (from_16 k f, from_16 z g, back (k *ℤ z) (record { low = omega (arith, ints); high = omega (arith, ints) })) w

pub short_is : (z : ℤ) → FitsSigned w16 z → IsWithin (pos 32767) z → IsWithin (pos 32767) (to_z w16 (of_z w16 z))
short_is z f h = rw (to_z-of_z w16 z f) h

-- a number of 32 bits that 16 hold
pub record IsThrough (z : ℤ) : Type 0 where
  pub is : to_z w16 (of_z w16 (to_z w32 (of_z w32 z))) ≡ z
  pub fits : FitsSigned w16 (to_z w32 (of_z w32 z))

pub through_16 : (z : ℤ) → IsWithin (pos 32767) z → IsThrough z
through_16 z h =
    let l = h.low in
    let k = h.high in
    let f : FitsSigned w32 z = omega (arith, ints) in
    let g : FitsSigned w16 z = omega (arith, ints) in
    let e = to_z-of_z w32 z f in
    record { is = ap (λ (x : ℤ). to_z w16 (of_z w16 x)) e ∙ to_z-of_z w16 z g; fits = rw e g }

-- a sum of two products
pub record Sum (a b : ℤ) : Type 0 where
  pub is : to_z w32 (of_z w32 (to_z w32 (of_z w32 a) +ℤ to_z w32 (of_z w32 b))) ≡ a +ℤ b
  pub fits : FitsSigned w32 (to_z w32 (of_z w32 a) +ℤ to_z w32 (of_z w32 b))
  pub within : IsWithin (pos 2147418112) (a +ℤ b)

pub sum : (a b : ℤ) → IsWithin (pos 1073709056) a → IsWithin (pos 1073709056) b → Sum a b
sum a b p q =
    let al = p.low in
    let ah = p.high in
    let bl = q.low in
    let bh = q.high in
    let fa : FitsSigned w32 a = omega (arith, ints) in
    let fb : FitsSigned w32 b = omega (arith, ints) in
    let w : IsWithin (pos 2147418112) (a +ℤ b) = record { low = omega (arith, linear); high = omega (arith, linear) } in
    let wl = w.low in
    let wh = w.high in
    let fab : FitsSigned w32 (a +ℤ b) = omega (arith, ints) in
    record { is = rw (to_z-of_z w32 a fa, to_z-of_z w32 b fb) (to_z-of_z w32 (a +ℤ b) fab); fits = rw (to_z-of_z w32 a fa, to_z-of_z w32 b fb) fab; within = w }

-- the numbers of a vector at right angles to the ray of a line
pub normal_x : (r : Ray) (n : Normal) → IsLineRay r → IsNormal r n → IsWithin (pos 32767) n.x
normal_x r n line k = subst (IsWithin (pos 32767)) (sym k.x) (ray_dy r line)

pub normal_y : (r : Ray) (n : Normal) → IsLineRay r → IsNormal r n → IsWithin (pos 32767) n.y
normal_y r n line k = subst (IsWithin (pos 32767)) (sym k.y) (negated r.dx (ray_dx r line))
  where
    negated : (z : ℤ) → IsWithin (pos 32767) z → IsWithin (pos 32767) (neg_ℤ z)
    negated z w = let l = w.low in let h = w.high in record { low = omega (arith, linear); high = omega (arith, linear) }

pub by_normal : (r : Ray) (n : Normal) (x y : ℤ) → IsNormal r n → n.x *ℤ x +ℤ n.y *ℤ y ≡ r.dy *ℤ x -ℤ r.dx *ℤ y
by_normal r n x y k =
    ap (λ (u : ℤ). u *ℤ x +ℤ n.y *ℤ y) k.x ∙ ap (λ (u : ℤ). r.dy *ℤ x +ℤ u *ℤ y) k.y
    ∙ by_ring (r.dx ∷ r.dy ∷ x ∷ y ∷ []) _ _ (search quotes depth 20) (search quotes depth 20) tt

-- half of two short numbers
pub abs_short : (z : ℤ) → IsWithin (pos 32767) z → unsigned_abs z ≤ 32767
abs_short z h = let l = h.low in let k = h.high in omega (arith, ints)

-- what is beyond a value by half of the blur
far_above : (b o h : ℤ) → b ≤ℤ (pos 2 *ℤ h +ℤ pos 1) → b ≤ℤ (pos 2 *ℤ (o +ℤ h -ℤ o) +ℤ pos 1)
far_above b o h k = let e : o +ℤ h -ℤ o ≡ h = by_ring (o ∷ h ∷ []) _ _ (search quotes depth 20) (search quotes depth 20) tt in rw e k

far_below : (b o h : ℤ) → b ≤ℤ (pos 2 *ℤ h +ℤ pos 1) → b ≤ℤ (pos 2 *ℤ (o -ℤ (o -ℤ h)) +ℤ pos 1)
far_below b o h k = let e : o -ℤ (o -ℤ h) ≡ h = by_ring (o ∷ h ∷ []) _ _ (search quotes depth 20) (search quotes depth 20) tt in rw e k

in_order : (o h : ℤ) → pos 0 ≤ℤ h → (o -ℤ h) ≤ℤ (o +ℤ h)
in_order o h k = omega (arith, linear)

add_within : (o h : ℤ) → IsWithin (pos 2147418112) o → pos 0 ≤ℤ h → h ≤ℤ pos 32767 → IsWithin (pos 2147483647) (o +ℤ h)
add_within o h w l k = let a = w.low in let b = w.high in record { low = omega (arith, linear); high = omega (arith, linear) }

sub_within : (o h : ℤ) → IsWithin (pos 2147418112) o → pos 0 ≤ℤ h → h ≤ℤ pos 32767 → IsWithin (pos 2147483647) (o -ℤ h)
sub_within o h w l k = let a = w.low in let b = w.high in record { low = omega (arith, linear); high = omega (arith, linear) }

-- such a value and half of a blur, as numbers of 32 bits
pub record AreBack (o h : ℤ) : Type 0 where
  pub value : to_z w32 (of_z w32 o) ≡ o
  pub half : to_z w32 (of_z w32 h) ≡ h

are_back : (o h : ℤ) → IsWithin (pos 2147418112) o → pos 0 ≤ℤ h → h ≤ℤ pos 32767 → AreBack o h
are_back o h w l k =
    let a = w.low in
    let b = w.high in
    record {
      value = back o (record { low = omega (arith, ints); high = omega (arith, ints) });
      half = back h (record { low = omega (arith, ints); high = omega (arith, ints) });
    }

pub add_fits : (o h : ℤ) → IsWithin (pos 2147418112) o → pos 0 ≤ℤ h → h ≤ℤ pos 32767
    → FitsSigned w32 (to_z w32 (of_z w32 o) +ℤ to_z w32 (of_z w32 h))
add_fits o h w l k =
    let e = are_back o h w l k in
    let s = add_within o h w l k in
    let a = s.low in
    let b = s.high in
    let f : FitsSigned w32 (o +ℤ h) = omega (arith, ints) in
    rw (e.value, e.half) f

pub sub_fits : (o h : ℤ) → IsWithin (pos 2147418112) o → pos 0 ≤ℤ h → h ≤ℤ pos 32767
    → FitsSigned w32 (to_z w32 (of_z w32 o) -ℤ to_z w32 (of_z w32 h))
sub_fits o h w l k =
    let e = are_back o h w l k in
    let s = sub_within o h w l k in
    let a = s.low in
    let b = s.high in
    let f : FitsSigned w32 (o -ℤ h) = omega (arith, ints) in
    rw (e.value, e.half) f

pub are_margins : (r : Ray) (n : Normal) (o h : ℤ) → IsLineRay r → IsNormal r n → o ≡ ray_offset r → IsWithin (pos 2147418112) o
    → pos (blur r) ≤ℤ (pos 2 *ℤ h +ℤ pos 1) → pos 0 ≤ℤ h → h ≤ℤ pos 32767
    → AreMargins (record { ray = r; normal = n; above = to_z w32 (of_z w32 (to_z w32 (of_z w32 o) +ℤ to_z w32 (of_z w32 h))); below = to_z w32 (of_z w32 (to_z w32 (of_z w32 o) -ℤ to_z w32 (of_z w32 h))) })
are_margins r n o h line normal e w enough l k =
    let a = w.low in
    let b = w.high in
    let fo : IsWithin (pos 2147483647) o = record { low = omega (arith, ints); high = omega (arith, ints) } in
    let fh : IsWithin (pos 2147483647) h = record { low = omega (arith, ints); high = omega (arith, ints) } in
    let bo = back o fo in
    let bh = back h fh in
    let up : to_z w32 (of_z w32 (to_z w32 (of_z w32 o) +ℤ to_z w32 (of_z w32 h))) ≡ ray_offset r +ℤ h =
    rw (bo, bh) (back (o +ℤ h) (add_within o h w l k)) ∙ ap (λ (x : ℤ). x +ℤ h) e in
    let down : to_z w32 (of_z w32 (to_z w32 (of_z w32 o) -ℤ to_z w32 (of_z w32 h))) ≡ ray_offset r -ℤ h =
    rw (bo, bh) (back (o -ℤ h) (sub_within o h w l k)) ∙ ap (λ (x : ℤ). x -ℤ h) e in
    record {
      line = line;
      normal = normal;
      right = rw up (far_above (pos (blur r)) (ray_offset r) h enough);
      left = rw down (far_below (pos (blur r)) (ray_offset r) h enough);
      order = rw (up, down) (in_order (ray_offset r) h l);
    }

-- a value from which the origin's is taken off
pub offset_off : (r : Ray) (v : Vertex) → r.dy *ℤ v.x -ℤ r.dx *ℤ v.y -ℤ ray_offset r ≡ vertex_value r v
offset_off r v = by_ring (r.dx ∷ r.dy ∷ r.start.x ∷ r.start.y ∷ v.x ∷ v.y ∷ []) _ _ (search quotes depth 30 fits 20000) (search quotes depth 30 fits 20000) tt

-- ---- the sides of a place
less : (a b : ℤ) → int_lt a b ≡ true → a <ℤ b
less a b e = grind (arith, ints)

shifted : (a v o : ℤ) → a <ℤ v → (a -ℤ o) <ℤ (v -ℤ o)
shifted a v o h = omega (arith, linear)

twice : (b y x : ℤ) → y <ℤ x → b ≤ℤ (pos 2 *ℤ y +ℤ pos 1) → b <ℤ (pos 2 *ℤ x)
twice b y x h k = omega (arith, ints)

twice_left : (b y z x : ℤ) → z ≡ neg_ℤ y → x <ℤ y → b ≤ℤ (pos 2 *ℤ z +ℤ pos 1) → (pos 2 *ℤ x) <ℤ neg_ℤ b
twice_left b y z x e h k = let m = rw e at k in omega (arith, ints)

right_by : (b a v o x : ℤ) → a <ℤ v → b ≤ℤ (pos 2 *ℤ (a -ℤ o) +ℤ pos 1) → v -ℤ o ≡ x → b <ℤ (pos 2 *ℤ x)
right_by b a v o x h k e = let l : (a -ℤ o) <ℤ x = subst (λ (y : ℤ). (a -ℤ o) <ℤ y) e (shifted a v o h) in twice b (a -ℤ o) x l k

left_by : (b a v o x : ℤ) → v <ℤ a → b ≤ℤ (pos 2 *ℤ (o -ℤ a) +ℤ pos 1) → v -ℤ o ≡ x → (pos 2 *ℤ x) <ℤ neg_ℤ b
left_by b a v o x h k e = let l : x <ℤ (a -ℤ o) = subst (λ (y : ℤ). y <ℤ (a -ℤ o)) e (shifted v a o h) in twice_left b (a -ℤ o) (o -ℤ a) x (by_ring (a ∷ o ∷ []) _ _ (search quotes depth 20) (search quotes depth 20) tt) l k

module _ (r : Ray) (place : Vertex) (v : ℤ) (fv : FitsSigned w32 v) (is : v ≡ r.dy *ℤ place.x -ℤ r.dx *ℤ place.y) where
  value_is : v -ℤ ray_offset r ≡ vertex_value r place
  value_is = ap (λ (x : ℤ). x -ℤ ray_offset r) is ∙ offset_off r place

  pub well_right : (a : ℤ) → FitsSigned w32 a → pos (blur r) ≤ℤ (pos 2 *ℤ (a -ℤ ray_offset r) +ℤ pos 1)
      → int_lt (to_z w32 (of_z w32 a)) (to_z w32 (of_z w32 v)) ≡ true → pos (blur r) <ℤ (pos 2 *ℤ vertex_value r place)
  well_right a fa h t =
      let u = rw (to_z-of_z w32 a fa, to_z-of_z w32 v fv) at t in
      right_by (pos (blur r)) a v (ray_offset r) (vertex_value r place) (less a v u) h value_is

  pub well_left : (a : ℤ) → FitsSigned w32 a → pos (blur r) ≤ℤ (pos 2 *ℤ (ray_offset r -ℤ a) +ℤ pos 1)
      → int_lt (to_z w32 (of_z w32 v)) (to_z w32 (of_z w32 a)) ≡ true → (pos 2 *ℤ vertex_value r place) <ℤ neg_ℤ (pos (blur r))
  well_left a fa h t =
      let u = rw (to_z-of_z w32 a fa, to_z-of_z w32 v fv) at t in
      left_by (pos (blur r)) a v (ray_offset r) (vertex_value r place) (less v a u) h value_is

not_both : (a b v : ℤ) → b ≤ℤ a → (int_lt a v && int_lt v b) ≡ false
not_both a b v h = by_tests (int_lt a v) (int_lt v b) refl refl
  where
    by_tests : (p q : Bool) → int_lt a v ≡ p → int_lt v b ≡ q → (p && q) ≡ false
    by_tests true true e f = let x = less a v e in let y = less v b f in absurd (omega (arith, linear))
    by_tests true false e f = refl
    by_tests false q e f = refl

pub one_side : (a b v : ℤ) → FitsSigned w32 a → FitsSigned w32 b → FitsSigned w32 v → b ≤ℤ a
    → (int_lt (to_z w32 (of_z w32 a)) (to_z w32 (of_z w32 v)) && int_lt (to_z w32 (of_z w32 v)) (to_z w32 (of_z w32 b))) ≡ false
one_side a b v fa fb fv h = rw (to_z-of_z w32 a fa, to_z-of_z w32 b fb, to_z-of_z w32 v fv) (not_both a b v h)
