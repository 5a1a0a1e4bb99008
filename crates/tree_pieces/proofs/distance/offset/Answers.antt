use Rattle.std.proofs.Common.{rules, arith, sym, ◌∙◌, ap, ◌≡◌, ℕ, ◌+◌, ◌*◌, ◌<◌, ◌≤◌}
use Rattle.std.proofs.lemmas.Int.{ints, to_z-of_z}
use Rattle.std.proofs.lemmas.Nat.{mul-lt}
use Rattle.std.specs.Prelude.{ℤ, ◌-ℤ◌, unsigned_abs, FitsSigned}
use Rattle.std.specs.Int.{w16}
use mir.Val.{to_z, of_z}
use Rattle.lump_records.specs.declared.records.Vertex.{Vertex}
use Rattle.tree_pieces.specs.Offset.{IsOffset}
use Rattle.tree_pieces.proofs.distance.offset.Goals as goal

-- a square lies below the next one
below_next : (n : ℕ) → n * n < (n + 1) * (n + 1)
below_next n = mul-lt n n (n + 1) (n + 1) (omega arith) (omega arith)

-- the root of a sum of two squares of which one is 0
root : (p q n : ℕ) → p ≡ 0 → q ≡ n → (n * n ≤ p * p + q * q) × (p * p + q * q < (n + 1) * (n + 1))
root p q n e f = let b = below_next n in rw (e, f) (omega arith, omega arith)

other_root : (p q n : ℕ) → p ≡ 0 → q ≡ n → (n * n ≤ q * q + p * p) × (q * q + p * p < (n + 1) * (n + 1))
other_root p q n e f = let b = below_next n in rw (e, f) (omega arith, omega arith)

same_gap : (a b : ℤ) → a ≡ b → unsigned_abs (b -ℤ a) ≡ 0
same_gap a b e = omega (arith, ints)

turned_gap : (a b : ℤ) → unsigned_abs (b -ℤ a) ≡ unsigned_abs (a -ℤ b)
turned_gap a b = omega (arith, ints)

-- the offset along an axis
upright : (u v : Vertex) (n : ℕ) → u.x ≡ v.x → n ≡ unsigned_abs (u.y -ℤ v.y) → IsOffset u v n
upright u v n e f =
    let t = turned_gap u.y v.y in
    let r = root (unsigned_abs (v.x -ℤ u.x)) (unsigned_abs (v.y -ℤ u.y)) n (same_gap u.x v.x e) (omega arith) in
    record { at_least = r.0; below = r.1 }

level : (u v : Vertex) (n : ℕ) → u.y ≡ v.y → n ≡ unsigned_abs (u.x -ℤ v.x) → IsOffset u v n
level u v n e f =
    let t = turned_gap u.x v.x in
    let r = other_root (unsigned_abs (v.y -ℤ u.y)) (unsigned_abs (v.x -ℤ u.x)) n (same_gap u.y v.y e) (omega arith) in
    record { at_least = r.0; below = r.1 }

pub overflow_cast-squared : goal.overflow_cast-squared
overflow_cast-squared c =
    let e = c.squared_distance-squared.ensures.value in
    let h = c.requires in
    omega arith

same_16 : (a b : ℤ) → FitsSigned w16 a → FitsSigned w16 b → of_z w16 a ≡ of_z w16 b → a ≡ b
same_16 a b f g e = sym (to_z-of_z w16 a f) ∙ ap (to_z w16) e ∙ to_z-of_z w16 b g

pub returns-then-from-to : goal.returns-then-from-to
returns-then-from-to c =
    let u = c.args.from in
    let v = c.args.to in
    let fx : FitsSigned w16 u.x = search rules in
    let gx : FitsSigned w16 v.x = search rules in
    let fy : FitsSigned w16 u.y = search rules in
    let gy : FitsSigned w16 v.y = search rules in
    let n = simp (to_z-of_z w16 u.y fy, to_z-of_z w16 v.y gy) at c.abs_diff.ensures in
    upright u v c.abs_diff.result (same_16 u.x v.x fx gx c.if-from-to.true) n

pub returns-then-from-to-2 : goal.returns-then-from-to-2
returns-then-from-to-2 c =
    let u = c.args.from in
    let v = c.args.to in
    let fx : FitsSigned w16 u.x = search rules in
    let gx : FitsSigned w16 v.x = search rules in
    let fy : FitsSigned w16 u.y = search rules in
    let gy : FitsSigned w16 v.y = search rules in
    let n = simp (to_z-of_z w16 u.x fx, to_z-of_z w16 v.x gx) at c.abs_diff-then-from-to-2.ensures in
    level u v c.abs_diff-then-from-to-2.result (same_16 u.y v.y fy gy c.if-from-to-2.true) n

pub returns : goal.returns
returns c =
    let a = rw c.squared_distance-squared.ensures.value at c.isqrt.ensures.square_le in
    let b = rw c.squared_distance-squared.ensures.value at c.isqrt.ensures.next_square_gt in
    record { at_least = a; below = b }
