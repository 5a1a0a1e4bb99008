-- The size of a product, and signed numbers that were passed to a callee.
use Rattle.std.proofs.Common.{◌≡◌, ◌∙◌, ap, arith, [], ◌∷◌}
use Rattle.std.proofs.lemmas.Int.{ints, to_z-of_z}
use Rattle.std.specs.Prelude.{ℤ, pos, ◌+ℤ◌, ◌-ℤ◌, ◌*ℤ◌, neg_ℤ, ◌≤ℤ◌, FitsSigned}
use mir.Syntax.{Width}
use mir.Val.{to_z, of_z}
use Rattle.lump_records.proofs.Ring.{by_ring, quotes}
use Rattle.lump_records.proofs.Signs.{linear, product_not_negative}

-- from -m to m
pub record IsWithin (m z : ℤ) : Type 0 where
  pub low : neg_ℤ m ≤ℤ z
  pub high : z ≤ℤ m

-- the product of a number from -m to m and one from -n to n is from -mn to mn
pub product_within : (a b m n : ℤ) → pos 0 ≤ℤ m → pos 0 ≤ℤ n → IsWithin m a → IsWithin n b → IsWithin (m *ℤ n) (a *ℤ b)
product_within a b m n hm hn ha hb =
    let al = ha.low in
    let ah = ha.high in
    let bl = hb.low in
    let bh = hb.high in
    let p = product_not_negative (m -ℤ a) (n +ℤ b) (omega (arith, linear)) (omega (arith, linear)) in
    let q = product_not_negative (m +ℤ a) (n -ℤ b) (omega (arith, linear)) (omega (arith, linear)) in
    let r = product_not_negative (m -ℤ a) (n -ℤ b) (omega (arith, linear)) (omega (arith, linear)) in
    let s = product_not_negative (m +ℤ a) (n +ℤ b) (omega (arith, linear)) (omega (arith, linear)) in
    let above : (m -ℤ a) *ℤ (n +ℤ b) +ℤ (m +ℤ a) *ℤ (n -ℤ b) ≡ pos 2 *ℤ (m *ℤ n -ℤ a *ℤ b) =
    by_ring (a ∷ b ∷ m ∷ n ∷ []) _ _ (search quotes depth 30 fits 20000) (search quotes depth 30 fits 20000) tt in
    let below : (m -ℤ a) *ℤ (n -ℤ b) +ℤ (m +ℤ a) *ℤ (n +ℤ b) ≡ pos 2 *ℤ (m *ℤ n +ℤ a *ℤ b) =
    by_ring (a ∷ b ∷ m ∷ n ∷ []) _ _ (search quotes depth 30 fits 20000) (search quotes depth 30 fits 20000) tt in
    record { low = omega (arith, ints); high = omega (arith, ints) }

-- a difference that was converted to bits and back
pub back_sub : (w : Width) (a b : ℤ) → FitsSigned w a → FitsSigned w b → FitsSigned w (a -ℤ b) → to_z w (of_z w (to_z w (of_z w a) -ℤ to_z w (of_z w b))) ≡ a -ℤ b
back_sub w a b fa fb f =
    ap (λ (x : ℤ). to_z w (of_z w (x -ℤ to_z w (of_z w b)))) (to_z-of_z w a fa)
    ∙ ap (λ (x : ℤ). to_z w (of_z w (a -ℤ x))) (to_z-of_z w b fb) ∙ to_z-of_z w (a -ℤ b) f
