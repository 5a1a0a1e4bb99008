use Rattle.std.proofs.Common.{◌≡◌, sym, ap, ◌∙◌, subst, true, false, arith}
use Rattle.std.proofs.lemmas.Int.{ints, to_z-of_z}
use Rattle.std.specs.Prelude.{ℤ, pos, neg_ℤ, ◌-ℤ◌, ◌<ℤ◌, ◌≤ℤ◌, int_lt, FitsSigned}
use Rattle.std.specs.Int.{w32, w64}
use mir.Val.{to_z, of_z}
use Rattle.lump_records.proofs.Signs.{linear}
use Rattle.lump_records.proofs.Wide.{IsWithin}
use Rattle.tree_pieces.specs.Fractions.{fraction, zero_between, IsFraction}
use Rattle.tree_pieces.specs.Local.{IsSideValue}
use Rattle.tree_pieces.proofs.Crossing.{zero_rising, zero_falling}
use Rattle.tree_pieces.proofs.Shares.{side_back}
use Rattle.tree_pieces.proofs.Wide.{n_within, d_within}
use Rattle.tree_pieces.proofs.values.zero_of.Goals as goal

-- a number of a fraction in 64 bits, and then in 32
record IsBack (z : ℤ) : Type 0 where
  is : to_z w32 (of_z w32 (to_z w64 (of_z w64 z))) ≡ z
  fits : FitsSigned w32 (to_z w64 (of_z w64 z))

back : (z : ℤ) → IsWithin (pos 1073676289) z → IsBack z
back z h =
    let l = h.low in
    let k = h.high in
    let f : FitsSigned w64 z = omega (arith, ints) in
    let g : FitsSigned w32 z = omega (arith, ints) in
    let e = to_z-of_z w64 z f in
    record { is = ap (λ (x : ℤ). to_z w32 (of_z w32 x)) e ∙ to_z-of_z w32 z g; fits = subst (FitsSigned w32) (sym e) g }

from_nothing : (a : ℤ) → pos 0 -ℤ a ≡ neg_ℤ a
from_nothing a = omega (arith, linear)

below : (a b : ℤ) → int_lt a b ≡ true → a <ℤ b
below a b e = grind (arith, ints)

not_below : (a b : ℤ) → int_lt a b ≡ false → b ≤ℤ a
not_below a b e = grind (arith, ints)

-- the test of the code is that of the numbers
tested : (a b : ℤ) → IsSideValue a → IsSideValue b → int_lt (to_z w64 (of_z w64 a)) (to_z w64 (of_z w64 b)) ≡ int_lt a b
tested a b h k = ap (λ (x : ℤ). int_lt x (to_z w64 (of_z w64 b))) (side_back a h) ∙ ap (int_lt a) (side_back b k)

-- a value below 0 with its sign turned, as the code takes it
record IsTurned (a b : ℤ) : Type 0 where
  n : IsBack (pos 0 -ℤ a)
  d : IsBack (b -ℤ a)

turned : (a b : ℤ) → a <ℤ b → IsFraction (zero_between a b) → IsTurned a b
turned a b t f =
    let g = subst IsFraction (zero_rising a b t) f in
    record {
      n = back (pos 0 -ℤ a) (subst (IsWithin (pos 1073676289)) (sym (from_nothing a)) (n_within _ g));
      d = back (b -ℤ a) (d_within _ g);
    }

record IsStraight (a b : ℤ) : Type 0 where
  n : IsBack a
  d : IsBack (a -ℤ b)

straight : (a b : ℤ) → b ≤ℤ a → IsFraction (zero_between a b) → IsStraight a b
straight a b t f =
    let g = subst IsFraction (zero_falling a b t) f in
    record { n = back a (n_within _ g); d = back (a -ℤ b) (d_within _ g) }

pub returns-then-first-last : goal.returns-then-first-last
returns-then-first-last c =
    let a = c.args.first in
    let b = c.args.last in
    let h = c.requires.first in
    let k = c.requires.last in
    let t = below a b (sym (tested a b h k) ∙ c.if-first-last.true) in
    let w = turned a b t c.requires.fraction in
    let n = ap (λ (x : ℤ). to_z w32 (of_z w32 (to_z w64 (of_z w64 (pos 0 -ℤ x))))) (side_back a h) ∙ w.n.is ∙ from_nothing a in
    let d = ap (λ (x : ℤ). to_z w32 (of_z w32 (to_z w64 (of_z w64 (x -ℤ to_z w64 (of_z w64 a)))))) (side_back b k)
    ∙ ap (λ (x : ℤ). to_z w32 (of_z w32 (to_z w64 (of_z w64 (b -ℤ x))))) (side_back a h)
    ∙ w.d.is in
    ap (λ (x : ℤ). fraction x (to_z w32 (of_z w32 (to_z w64 (of_z w64 (to_z w64 (of_z w64 b) -ℤ to_z w64 (of_z w64 a))))))) n ∙ ap (fraction (neg_ℤ a)) d ∙ sym (zero_rising a b t)

pub returns-else-first-last : goal.returns-else-first-last
returns-else-first-last c =
    let a = c.args.first in
    let b = c.args.last in
    let h = c.requires.first in
    let k = c.requires.last in
    let t = not_below a b (sym (tested a b h k) ∙ c.if-first-last.false) in
    let w = straight a b t c.requires.fraction in
    let n = w.n.is in
    let d = ap (λ (x : ℤ). to_z w32 (of_z w32 (to_z w64 (of_z w64 (x -ℤ to_z w64 (of_z w64 b)))))) (side_back a h)
    ∙ ap (λ (x : ℤ). to_z w32 (of_z w32 (to_z w64 (of_z w64 (a -ℤ x))))) (side_back b k)
    ∙ w.d.is in
    ap (λ (x : ℤ). fraction x (to_z w32 (of_z w32 (to_z w64 (of_z w64 (to_z w64 (of_z w64 a) -ℤ to_z w64 (of_z w64 b))))))) n ∙ ap (fraction a) d ∙ sym (zero_falling a b t)
