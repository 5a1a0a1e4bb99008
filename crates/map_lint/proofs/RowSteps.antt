-- Sums of 16-bit numbers, as 32-bit code computes them.
use Rattle.std.proofs.Common.{◌≡◌, ℤ, ◌+ℤ◌, ◌-ℤ◌, arith, of_z, to_z}
use Rattle.std.specs.Prelude.{FitsSigned}
use Rattle.std.specs.Int.{w16, w32}
use Rattle.std.proofs.lemmas.Int.{ints, to_z-of_z}

wider : (a : ℤ) → FitsSigned w16 a → FitsSigned w32 a
wider a f = omega (arith, ints, f)

-- a difference
less_kept : (a b : ℤ) → FitsSigned w16 a → FitsSigned w16 b → to_z w32 (of_z w32 (to_z w32 (of_z w32 a) -ℤ to_z w32 (of_z w32 b))) ≡ a -ℤ b
less_kept a b f g = rw (to_z-of_z w32 a (wider a f), to_z-of_z w32 b (wider b g)) (to_z-of_z w32 (a -ℤ b) (omega (arith, ints, f, g)))

-- a sum with a difference
sum_of : (a b c : ℤ) → FitsSigned w16 a → FitsSigned w16 b → FitsSigned w16 c
    → to_z w32 (of_z w32 (to_z w32 (of_z w32 a) +ℤ to_z w32 (of_z w32 (to_z w32 (of_z w32 b) -ℤ to_z w32 (of_z w32 c))))) ≡ a +ℤ (b -ℤ c)
sum_of a b c f g h = rw (less_kept b c g h, to_z-of_z w32 a (wider a f)) (to_z-of_z w32 (a +ℤ (b -ℤ c)) (omega (arith, ints, f, g, h)))

pub sum_kept : (x y z a b c : ℤ) → x ≡ a → y ≡ b → z ≡ c → FitsSigned w16 a → FitsSigned w16 b → FitsSigned w16 c
    → to_z w32 (of_z w32 (to_z w32 (of_z w32 x) +ℤ to_z w32 (of_z w32 (to_z w32 (of_z w32 y) -ℤ to_z w32 (of_z w32 z))))) ≡ a +ℤ (b -ℤ c)
sum_kept x y z a b c p q r f g h = rw (p, q, r) (sum_of a b c f g h)

module _ (b c d : ℤ) (g : FitsSigned w16 b) (h : FitsSigned w16 c) (k : FitsSigned w16 d) where
  -- a difference less a difference fits, and is kept
  fits_less : FitsSigned w32 (to_z w32 (of_z w32 b) -ℤ to_z w32 (of_z w32 (to_z w32 (of_z w32 c) -ℤ to_z w32 (of_z w32 d))))
  fits_less = rw (less_kept c d h k, to_z-of_z w32 b (wider b g)) (omega (arith, ints, g, h, k))

  twice_kept : to_z w32 (of_z w32 (to_z w32 (of_z w32 b) -ℤ to_z w32 (of_z w32 (to_z w32 (of_z w32 c) -ℤ to_z w32 (of_z w32 d))))) ≡ b -ℤ (c -ℤ d)
  twice_kept = rw (less_kept c d h k, to_z-of_z w32 b (wider b g)) (to_z-of_z w32 (b -ℤ (c -ℤ d)) (omega (arith, ints, g, h, k)))

  module _ (a : ℤ) (f : FitsSigned w16 a) where
    -- so does the sum with it
    fits_sum : FitsSigned w32 (to_z w32 (of_z w32 a) +ℤ to_z w32 (of_z w32 (to_z w32 (of_z w32 b) -ℤ to_z w32 (of_z w32 (to_z w32 (of_z w32 c) -ℤ to_z w32 (of_z w32 d))))))
    fits_sum = rw (twice_kept, to_z-of_z w32 a (wider a f)) (omega (arith, ints, f, g, h, k))

    kept_sum : to_z w32 (of_z w32 (to_z w32 (of_z w32 a) +ℤ to_z w32 (of_z w32 (to_z w32 (of_z w32 b) -ℤ to_z w32 (of_z w32 (to_z w32 (of_z w32 c) -ℤ to_z w32 (of_z w32 d))))))) ≡ a +ℤ (b -ℤ (c -ℤ d))
    kept_sum = rw (twice_kept, to_z-of_z w32 a (wider a f)) (to_z-of_z w32 (a +ℤ (b -ℤ (c -ℤ d))) (omega (arith, ints, f, g, h, k)))

module _ (y z v b c d : ℤ) (q : y ≡ b) (r : z ≡ c) (s : v ≡ d) (g : FitsSigned w16 b) (h : FitsSigned w16 c) (k : FitsSigned w16 d) where
  pub less_fits : FitsSigned w32 (to_z w32 (of_z w32 y) -ℤ to_z w32 (of_z w32 (to_z w32 (of_z w32 z) -ℤ to_z w32 (of_z w32 v))))
  less_fits = rw (q, r, s) (fits_less b c d g h k)

  module _ (x a : ℤ) (p : x ≡ a) (f : FitsSigned w16 a) where
    pub sum_fits : FitsSigned w32 (to_z w32 (of_z w32 x) +ℤ to_z w32 (of_z w32 (to_z w32 (of_z w32 y) -ℤ to_z w32 (of_z w32 (to_z w32 (of_z w32 z) -ℤ to_z w32 (of_z w32 v))))))
    sum_fits = rw (p, q, r, s) (fits_sum b c d g h k a f)

    pub all_kept : to_z w32 (of_z w32 (to_z w32 (of_z w32 x) +ℤ to_z w32 (of_z w32 (to_z w32 (of_z w32 y) -ℤ to_z w32 (of_z w32 (to_z w32 (of_z w32 z) -ℤ to_z w32 (of_z w32 v))))))) ≡ a +ℤ (b -ℤ (c -ℤ d))
    all_kept = rw (p, q, r, s) (kept_sum b c d g h k a f)
