-- Products and sums that fit 64 or 128 bits, and what is left of a number that went to bits and came back.
use Rattle.std.proofs.Common.{◌≡◌, sym, ap, ◌∙◌, subst, ◌-◌, ◌^◌, ◌<◌, [], ◌∷◌, arith}
use Rattle.std.proofs.lemmas.Int.{ints, to_z-of_z}
use Rattle.std.specs.Prelude.{ℕ, ◌+◌, ℤ, pos, ◌+ℤ◌, ◌-ℤ◌, ◌*ℤ◌, neg_ℤ, ◌≤ℤ◌, FitsSigned, unsigned_abs}
use mir.Syntax.{Width, w16, w32, w64, w128}
use mir.Val.{to_z, of_z}
use Rattle.tree_pieces.specs.declared.frac.Frac.{Frac}
use Rattle.std.specs.Int.{int_shr}
use Rattle.tree_pieces.specs.Angle.{IsIn62Bits}
use Rattle.tree_pieces.proofs.Shifts.{nearly_small}
use Rattle.tree_pieces.specs.Fractions.{IsFraction}
use Rattle.lump_records.proofs.Wide.{IsWithin, product_within}
use Rattle.lump_records.proofs.Ring.{by_ring, quotes}
use Rattle.lump_records.proofs.Signs.{linear}

-- ---- the numbers of a fraction
pub n_within : (t : Frac) → IsFraction t → IsWithin (pos 1073676289) t.n
n_within t f =
    let z = f.at_least_zero in
    let o = f.at_most_one in
    let s = f.small in
    record { low = omega (arith, linear); high = omega (arith, linear) }

pub d_within : (t : Frac) → IsFraction t → IsWithin (pos 1073676289) t.d
d_within t f = let p = f.positive in record { low = omega (arith, linear); high = f.small }

-- they go from 32 bits to 64
pub lengthened : (z : ℤ) → IsWithin (pos 1073676289) z → to_z w64 (of_z w64 (to_z w32 (of_z w32 z))) ≡ z
lengthened z h =
    let l = h.low in
    let k = h.high in
    let f : FitsSigned w32 z = omega (arith, ints) in
    let g : FitsSigned w64 z = omega (arith, ints) in
    ap (λ (x : ℤ). to_z w64 (of_z w64 x)) (to_z-of_z w32 z f) ∙ to_z-of_z w64 z g

pub in_half_word : (z : ℤ) → IsWithin (pos 1073676289) z → IsWithin (pos 2147483648) (to_z w64 (of_z w64 (to_z w32 (of_z w32 z))))
in_half_word z h =
    let l = h.low in
    let k = h.high in
    let w : IsWithin (pos 2147483648) z = record { low = omega (arith, linear); high = omega (arith, linear) } in
    subst (IsWithin (pos 2147483648)) (sym (lengthened z h)) w

-- n/d of a way between two coordinates, times d
share_within : (t : Frac) (way : ℤ) → IsFraction t → IsWithin (pos 65535) way → IsWithin (pos 70363375599615) (t.n *ℤ way)
share_within t way f w = product_within t.n way (pos 1073676289) (pos 65535) (omega (arith, ints)) (omega (arith, ints)) (n_within t f) w

-- what rounding a part of a way over d holds in 64 bits
pub record IsHeld (part d : ℤ) : Type 0 where
  pub part_fits : FitsSigned w64 (pos 2 *ℤ to_z w64 (of_z w64 part))
  pub sum_fits : FitsSigned w64 (to_z w64 (of_z w64 (pos 2 *ℤ to_z w64 (of_z w64 part))) +ℤ to_z w64 (of_z w64 (to_z w32 (of_z w32 d))))
  pub sum_is : to_z w64 (of_z w64 (to_z w64 (of_z w64 (pos 2 *ℤ to_z w64 (of_z w64 part))) +ℤ to_z w64 (of_z w64 (to_z w32 (of_z w32 d))))) ≡ pos 2 *ℤ part +ℤ d
  pub d_fits : FitsSigned w64 (pos 2 *ℤ to_z w64 (of_z w64 (to_z w32 (of_z w32 d))))
  pub d_is : to_z w64 (of_z w64 (pos 2 *ℤ to_z w64 (of_z w64 (to_z w32 (of_z w32 d))))) ≡ pos 2 *ℤ d
  pub not_zero : 0 < of_z w64 (pos 2 *ℤ d)
  pub not_minus_one : of_z w64 (pos 2 *ℤ d) ≡ 2 ^ 64 - 1 → ⊥

held_by : (part d : ℤ) → IsWithin (pos 70363375599615) part → pos 1 ≤ℤ d → IsWithin (pos 1073676289) d → IsHeld part d
held_by part d w p h =
    let pl = w.low in
    let ph = w.high in
    let dh = h.high in
    let f : FitsSigned w64 part = omega (arith, ints) in
    let ff : FitsSigned w64 (pos 2 *ℤ part) = omega (arith, ints) in
    let gg : FitsSigned w64 (pos 2 *ℤ d) = omega (arith, ints) in
    let s : FitsSigned w64 (pos 2 *ℤ part +ℤ d) = omega (arith, ints) in
    let e = to_z-of_z w64 part f in
    let ee = to_z-of_z w64 (pos 2 *ℤ part) ff in
    let n = lengthened d h in
    record {
      part_fits = rw e ff;
      sum_fits = rw (e, ee, n) s;
      sum_is = rw (e, ee, n) (to_z-of_z w64 (pos 2 *ℤ part +ℤ d) s);
      d_fits = rw n gg;
      d_is = rw n (to_z-of_z w64 (pos 2 *ℤ d) gg);
      not_zero = omega (arith, ints);
      not_minus_one = λ q. omega (arith, ints);
    }

pub held : (t : Frac) (way part : ℤ) → IsFraction t → IsWithin (pos 65535) way → part ≡ t.n *ℤ way → IsHeld part t.d
held t way part f w e = held_by part t.d (subst (IsWithin (pos 70363375599615)) (sym e) (share_within t way f w)) f.positive (d_within t f)

pub twice_product : (n way : ℤ) → pos 2 *ℤ (n *ℤ way) ≡ pos 2 *ℤ n *ℤ way
twice_product n way = by_ring (n ∷ way ∷ []) _ _ (search quotes depth 20) (search quotes depth 20) tt

-- ---- sums and products
-- a sum of numbers that went to bits and came back
pub back_add : (w : Width) (a b : ℤ) → FitsSigned w a → FitsSigned w b → FitsSigned w (a +ℤ b) → to_z w (of_z w (to_z w (of_z w a) +ℤ to_z w (of_z w b))) ≡ a +ℤ b
back_add w a b fa fb f = ap (λ (x : ℤ). to_z w (of_z w (x +ℤ to_z w (of_z w b)))) (to_z-of_z w a fa) ∙ ap (λ (x : ℤ). to_z w (of_z w (a +ℤ x))) (to_z-of_z w b fb) ∙ to_z-of_z w (a +ℤ b) f

-- at most the greatest length of a line in size
abbrev pub IsShort : ℤ → Type 0
IsShort z = IsWithin (pos 32767) z

-- products of short numbers
pub short_product : (a b : ℤ) → IsShort a → IsShort b → IsWithin (pos 1073676289) (a *ℤ b)
short_product a b h k = product_within a b (pos 32767) (pos 32767) (omega (arith, ints)) (omega (arith, ints)) h k

-- at most 2^124 in size, as products of small numbers are
abbrev pub IsLong : ℤ → Type 0
IsLong z = IsWithin (pos (2 ^ 124)) z

long_product : (a b : ℤ) → IsIn62Bits a → IsIn62Bits b → IsLong (a *ℤ b)
long_product a b h k = product_within a b (pos (2 ^ 62)) (pos (2 ^ 62)) (omega (arith, ints)) (omega (arith, ints)) (within a h) (within b k)
  where
    within : (z : ℤ) → IsIn62Bits z → IsWithin (pos (2 ^ 62)) z
    within z s = let l = s.0 in let u = s.1 in record { low = omega (arith, linear); high = omega (arith, linear) }

fits_long : (z : ℤ) → IsLong z → FitsSigned w128 z
fits_long z h = let l = h.low in let k = h.high in omega (arith, ints)

-- a small number of 64 bits in 128
widened : (z : ℤ) → IsIn62Bits z → to_z w128 (of_z w128 (to_z w64 (of_z w64 z))) ≡ z
widened z h =
    let l = h.0 in
    let k = h.1 in
    let f : FitsSigned w64 z = omega (arith, ints) in
    let g : FitsSigned w128 z = omega (arith, ints) in
    ap (λ (x : ℤ). to_z w128 (of_z w128 x)) (to_z-of_z w64 z f) ∙ to_z-of_z w128 z g

-- a product of small numbers in 128 bits
pub record IsLongProduct (a b : ℤ) : Type 0 where
  pub is : to_z w128 (of_z w128 (to_z w128 (of_z w128 (to_z w64 (of_z w64 a))) *ℤ to_z w128 (of_z w128 (to_z w64 (of_z w64 b))))) ≡ a *ℤ b
  pub fits : FitsSigned w128 (to_z w128 (of_z w128 (to_z w64 (of_z w64 a))) *ℤ to_z w128 (of_z w128 (to_z w64 (of_z w64 b))))
  pub within : IsLong (a *ℤ b)

pub multiplied : (a b : ℤ) → IsIn62Bits a → IsIn62Bits b → IsLongProduct a b
multiplied a b h k =
    let w = long_product a b h k in
    let e = widened a h in
    let i = widened b k in
    let p = fits_long (a *ℤ b) w in
    record { is = rw (e, i) (to_z-of_z w128 (a *ℤ b) p); fits = rw (e, i) p; within = w }

-- a small number went to bits and came back
pub small_back : (z : ℤ) → IsIn62Bits z → to_z w64 (of_z w64 z) ≡ z
small_back z h = let l = h.0 in let k = h.1 in let f : FitsSigned w64 z = omega (arith, ints) in to_z-of_z w64 z f

-- a difference of long numbers, and twice one
pub record IsWide (code z : ℤ) : Type 0 where
  pub is : to_z w128 (of_z w128 code) ≡ z
  pub fits : FitsSigned w128 code
  pub low : neg_ℤ (pos (2 ^ 125)) ≤ℤ to_z w128 (of_z w128 code)
  pub high : to_z w128 (of_z w128 code) ≤ℤ pos (2 ^ 125)

wide : (z : ℤ) → IsWithin (pos (2 ^ 125)) z → IsWide z z
wide z h =
    let l = h.low in
    let k = h.high in
    let f : FitsSigned w128 z = omega (arith, ints) in
    let e = to_z-of_z w128 z f in
    record { is = e; fits = f; low = rw e l; high = rw e k }

pub long_difference : (p q : ℤ) → IsLong p → IsLong q → IsWide (to_z w128 (of_z w128 p) -ℤ to_z w128 (of_z w128 q)) (p -ℤ q)
long_difference p q h k =
    let pl = h.low in
    let ph = h.high in
    let ql = k.low in
    let qh = k.high in
    rw (to_z-of_z w128 p (fits_long p h), to_z-of_z w128 q (fits_long q k)) (wide (p -ℤ q) (record { low = omega (arith, linear); high = omega (arith, linear) }))

pub long_doubled : (p : ℤ) → IsLong p → IsWide (pos 2 *ℤ to_z w128 (of_z w128 p)) (pos 2 *ℤ p)
long_doubled p h =
    let l = h.low in
    let k = h.high in
    rw (to_z-of_z w128 p (fits_long p h)) (wide (pos 2 *ℤ p) (record { low = omega (arith, ints); high = omega (arith, ints) }))

-- the difference of two coordinates that went to 32 bits
pub step_is : (a b d : ℤ) → FitsSigned w16 a → FitsSigned w16 b → d ≡ to_z w32 (of_z w32 (to_z w16 (of_z w16 b))) -ℤ to_z w32 (of_z w32 (to_z w16 (of_z w16 a))) → d ≡ b -ℤ a
step_is a b d f g e =
    let f32 : FitsSigned w32 a = omega (arith, ints) in
    let g32 : FitsSigned w32 b = omega (arith, ints) in
    rw (to_z-of_z w16 a f, to_z-of_z w16 b g, to_z-of_z w32 a f32, to_z-of_z w32 b g32) at e

-- a number shifted right until 63 bits hold it
pub record IsShifted (z : ℤ) (k : ℕ) : Type 0 where
  pub fits : FitsSigned w64 (to_z w128 (of_z w128 (int_shr (to_z w128 (of_z w128 z)) k)))
  pub is : to_z w64 (of_z w64 (to_z w128 (of_z w128 (int_shr (to_z w128 (of_z w128 z)) k)))) ≡ int_shr z k

pub shifted_back : (z : ℤ) (k : ℕ) → FitsSigned w128 z → unsigned_abs z < 2 ^ (62 + k) → IsShifted z k
shifted_back z k f h =
    let s = nearly_small z k h in
    let l = s.low in
    let u = s.high in
    let g : FitsSigned w64 (int_shr z k) = omega (arith, ints) in
    let g128 : FitsSigned w128 (int_shr z k) = omega (arith, ints) in
    let e = to_z-of_z w128 z f in
    let i = to_z-of_z w128 (int_shr z k) g128 in
    record { fits = rw (e, i) g; is = rw (e, i) (to_z-of_z w64 (int_shr z k) g) }
