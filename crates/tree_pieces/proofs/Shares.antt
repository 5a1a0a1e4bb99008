-- Side values, shares of them, and their sums in 64 bits.
use Rattle.std.proofs.Common.{◌≡◌, sym, ap, ◌∙◌, subst, arith}
use Rattle.std.proofs.lemmas.Int.{ints, to_z-of_z}
use Rattle.std.specs.Prelude.{ℤ, pos, neg_ℤ, ◌+ℤ◌, ◌-ℤ◌, ◌*ℤ◌, ◌≤ℤ◌, FitsSigned}
use mir.Syntax.{w32, w64}
use mir.Val.{to_z, of_z}
use Rattle.lump_records.proofs.Signs.{linear}
use Rattle.lump_records.proofs.Wide.{IsWithin, product_within}
use Rattle.tree_pieces.specs.declared.frac.Frac.{Frac}
use Rattle.tree_pieces.specs.Fractions.{IsFraction}
use Rattle.tree_pieces.specs.Local.{IsShare, IsSideValue}
use Rattle.tree_pieces.proofs.Bounds.{scaled_within}
use Rattle.tree_pieces.proofs.Wide.{n_within, d_within, lengthened, back_add}

-- ---- numbers that went to bits and came back
pub side_back : (z : ℤ) → IsSideValue z → to_z w64 (of_z w64 z) ≡ z
side_back z h = let l = h.low in let k = h.high in let f : FitsSigned w64 z = omega (arith, ints) in to_z-of_z w64 z f

pub side_value_back : (z : ℤ) → neg_ℤ (pos 2147483648) ≤ℤ z → z ≤ℤ pos 2147483648 → IsSideValue (to_z w64 (of_z w64 z))
side_value_back z l h = let s : IsSideValue z = record { low = l; high = h } in subst IsSideValue (sym (side_back z s)) s

pub short_back : (z : ℤ) → IsWithin (pos 32767) z → to_z w32 (of_z w32 z) ≡ z
short_back z h = let l = h.low in let k = h.high in let f : FitsSigned w32 z = omega (arith, ints) in to_z-of_z w32 z f

pub widened_back : (z : ℤ) → FitsSigned w32 z → to_z w64 (of_z w64 (to_z w32 (of_z w32 z))) ≡ z
widened_back z f = let g : FitsSigned w64 z = omega (arith, ints) in ap (λ (x : ℤ). to_z w64 (of_z w64 x)) (to_z-of_z w32 z f) ∙ to_z-of_z w64 z g

-- the product of two numbers of 32 bits
fits_product : (z : ℤ) → IsWithin (pos 4611686018427387904) z → FitsSigned w64 z
fits_product z h = let l = h.low in let k = h.high in omega (arith, ints)

pub product_fits : (a b : ℤ) → FitsSigned w32 a → FitsSigned w32 b → FitsSigned w64 (a *ℤ b)
product_fits a b f g =
    fits_product (a *ℤ b) (product_within a b (pos 2147483648) (pos 2147483648) (omega (arith, ints)) (omega (arith, ints)) (within a f) (within b g))
  where
    within : (z : ℤ) → FitsSigned w32 z → IsWithin (pos 2147483648) z
    within z f = record { low = omega (arith, ints); high = omega (arith, ints) }

-- ---- the shares of a fraction
pub n_share : (t : Frac) → IsFraction t → IsShare (to_z w64 (of_z w64 (to_z w32 (of_z w32 t.n))))
n_share t f =
    let w = n_within t f in
    let s : IsShare t.n = record { low = f.at_least_zero; high = w.high } in
    subst IsShare (sym (lengthened t.n w)) s

-- what is left to the denominator
pub record HasRest (t : Frac) : Type 0 where
  pub fits : FitsSigned w64 (to_z w64 (of_z w64 (to_z w32 (of_z w32 t.d))) -ℤ to_z w64 (of_z w64 (to_z w32 (of_z w32 t.n))))
  pub is : to_z w64 (of_z w64 (to_z w64 (of_z w64 (to_z w32 (of_z w32 t.d))) -ℤ to_z w64 (of_z w64 (to_z w32 (of_z w32 t.n))))) ≡ t.d -ℤ t.n
  pub share : IsShare (to_z w64 (of_z w64 (to_z w64 (of_z w64 (to_z w32 (of_z w32 t.d))) -ℤ to_z w64 (of_z w64 (to_z w32 (of_z w32 t.n))))))

pub rest_of : (t : Frac) → IsFraction t → HasRest t
rest_of t f =
    let z = f.at_least_zero in
    let o = f.at_most_one in
    let k = f.small in
    let s : IsShare (t.d -ℤ t.n) = record { low = omega (arith, linear); high = omega (arith, linear) } in
    let g : FitsSigned w64 (t.d -ℤ t.n) = let l = s.low in let h = s.high in omega (arith, ints) in
    let e = lengthened t.d (d_within t f) in
    let i = lengthened t.n (n_within t f) in
    let b = to_z-of_z w64 (t.d -ℤ t.n) g in
    record { fits = rw (e, i) g; is = rw (e, i) b; share = rw (e, i, b) s }

-- ---- a share of a side value
pub record IsScaled (a b : ℤ) : Type 0 where
  pub is : to_z w64 (of_z w64 (to_z w64 (of_z w64 a) *ℤ to_z w64 (of_z w64 b))) ≡ a *ℤ b
  pub fits : FitsSigned w64 (to_z w64 (of_z w64 a) *ℤ to_z w64 (of_z w64 b))
  pub within : IsWithin (pos 2305702273872822272) (a *ℤ b)

fits_scaled : (z : ℤ) → IsWithin (pos 2305702273872822272) z → FitsSigned w64 z
fits_scaled z h = let l = h.low in let k = h.high in omega (arith, ints)

pub scaled_by : (a b : ℤ) → FitsSigned w64 a → FitsSigned w64 b → IsShare a → IsSideValue b → IsScaled a b
scaled_by a b f g h k =
    let w = scaled_within a b h.low h.high k.low k.high in
    let e = to_z-of_z w64 a f in
    let i = to_z-of_z w64 b g in
    let p = fits_scaled (a *ℤ b) w in
    record { is = rw (e, i) (to_z-of_z w64 (a *ℤ b) p); fits = rw (e, i) p; within = w }

-- a sum of two of them
pub record IsSum (a b : ℤ) : Type 0 where
  pub is : to_z w64 (of_z w64 (to_z w64 (of_z w64 a) +ℤ to_z w64 (of_z w64 b))) ≡ a +ℤ b
  pub fits : FitsSigned w64 (to_z w64 (of_z w64 a) +ℤ to_z w64 (of_z w64 b))

pub sum_by : (a b : ℤ) → IsWithin (pos 2305702273872822272) a → IsWithin (pos 2305702273872822272) b → IsSum a b
sum_by a b h k =
    let al = h.low in
    let ah = h.high in
    let bl = k.low in
    let bh = k.high in
    let f = fits_scaled a h in
    let g = fits_scaled b k in
    let s : FitsSigned w64 (a +ℤ b) = omega (arith, ints) in
    record { is = back_add w64 a b f g s; fits = rw (to_z-of_z w64 a f, to_z-of_z w64 b g) s }

pub within_more : (z : ℤ) → IsWithin (pos 1073676289) z → IsWithin (pos 2305702273872822272) z
within_more z h = let l = h.low in let k = h.high in record { low = omega (arith, linear); high = omega (arith, linear) }
