-- Coordinates in 16 bits: the way between two, and the rounded one on it.
use Rattle.std.proofs.Common.{◌≡◌, ap, ◌∙◌, arith}
use Rattle.std.proofs.lemmas.Int.{ints, to_z-of_z}
use Rattle.std.specs.Prelude.{ℤ, pos, neg_ℤ, ◌+ℤ◌, ◌-ℤ◌, ◌≤ℤ◌, FitsSigned}
use mir.Syntax.{w16, w64}
use mir.Val.{to_z, of_z}
use Rattle.tree_pieces.specs.declared.frac.Frac.{Frac}
use Rattle.tree_pieces.specs.Fractions.{IsFraction, rounded}
use Rattle.tree_pieces.proofs.Rounding.{rounded_in}

-- the way from one coordinate to another
pub record IsWay (way : ℤ) : Type 0 where
  pub is : to_z w64 (of_z w64 way) ≡ way
  pub low : neg_ℤ (pos 65535) ≤ℤ to_z w64 (of_z w64 way)
  pub high : to_z w64 (of_z w64 way) ≤ℤ pos 65535

pub way_by : (from to way : ℤ) → FitsSigned w16 from → FitsSigned w16 to → way ≡ to -ℤ from → IsWay way
way_by from to way f g e =
    let low : neg_ℤ (pos 65535) ≤ℤ way = omega (arith, ints) in
    let high : way ≤ℤ pos 65535 = omega (arith, ints) in
    let w : FitsSigned w64 way = omega (arith, ints) in
    let b = to_z-of_z w64 way w in
    record { is = b; low = rw b low; high = rw b high }

-- so many steps from a coordinate
pub record IsPlaced (from steps place : ℤ) : Type 0 where
  pub from_fits : FitsSigned w64 (to_z w16 (of_z w16 from))
  pub sum_fits : FitsSigned w64 (to_z w64 (of_z w64 (to_z w16 (of_z w16 from))) +ℤ to_z w64 (of_z w64 steps))
  pub place_fits : FitsSigned w16 (to_z w64 (of_z w64 (to_z w64 (of_z w64 (to_z w16 (of_z w16 from))) +ℤ to_z w64 (of_z w64 steps))))
  pub is : to_z w16 (of_z w16 (to_z w64 (of_z w64 (to_z w64 (of_z w64 (to_z w16 (of_z w16 from))) +ℤ to_z w64 (of_z w64 steps))))) ≡ place

pub placed : (from steps place : ℤ) → FitsSigned w16 from → FitsSigned w16 place → from +ℤ steps ≡ place → IsPlaced from steps place
placed from steps place f g e =
    let f64 : FitsSigned w64 from = omega (arith, ints) in
    let s64 : FitsSigned w64 steps = omega (arith, ints) in
    let p64 : FitsSigned w64 place = omega (arith, ints) in
    let bf = to_z-of_z w16 from f in
    let bw = to_z-of_z w64 from f64 in
    let bs = to_z-of_z w64 steps s64 in
    let bp = to_z-of_z w64 place p64 in
    record {
      from_fits = rw bf f64;
      sum_fits = rw (bf, bw, bs, e) p64;
      place_fits = rw (bf, bw, bs, e, bp) g;
      is = rw (bf, bw, bs, e, bp) (to_z-of_z w16 place g);
    }

fits : (z : ℤ) → neg_ℤ (pos 32768) ≤ℤ z → z ≤ℤ pos 32767 → FitsSigned w16 z
fits z l h = omega (arith, ints)

low_of : (z : ℤ) → FitsSigned w16 z → neg_ℤ (pos 32768) ≤ℤ z
low_of z f = omega (arith, ints)

high_of : (z : ℤ) → FitsSigned w16 z → z ≤ℤ pos 32767
high_of z f = omega (arith, ints)

-- what is rounded between two coordinates is one
pub rounded_fits : (from to : ℤ) (t : Frac) → IsFraction t → FitsSigned w16 from → FitsSigned w16 to → FitsSigned w16 (rounded from to t)
rounded_fits from to t f p q =
    let r = rounded_in (neg_ℤ (pos 32768)) (pos 32767) from to t f.positive f.at_least_zero f.at_most_one (low_of from p) (low_of to q) (high_of from p) (high_of to q) in
    fits (rounded from to t) r.0 r.1

-- a coordinate that can be drawn went to bits and came back
pub drawn_back : (z : ℤ) → neg_ℤ (pos 16384) ≤ℤ z → z ≤ℤ pos 16383 → to_z w16 (of_z w16 z) ≡ z
drawn_back z l h = let f : FitsSigned w16 z = omega (arith, ints) in to_z-of_z w16 z f

-- a rounded coordinate that can be drawn
pub record IsDrawn (code z : ℤ) : Type 0 where
  pub is : to_z w16 (of_z w16 code) ≡ z
  pub low : neg_ℤ (pos 16384) ≤ℤ to_z w16 (of_z w16 code)
  pub high : to_z w16 (of_z w16 code) ≤ℤ pos 16383

pub drawn_by : (code from to : ℤ) (t : Frac) → IsFraction t → neg_ℤ (pos 16384) ≤ℤ from → from ≤ℤ pos 16383
    → neg_ℤ (pos 16384) ≤ℤ to → to ≤ℤ pos 16383 → code ≡ rounded (to_z w16 (of_z w16 from)) (to_z w16 (of_z w16 to)) t
    → IsDrawn code (rounded from to t)
drawn_by code from to t f fl fh tl th e =
    let r = rounded_in (neg_ℤ (pos 16384)) (pos 16383) from to t f.positive f.at_least_zero f.at_most_one fl tl fh th in
    let s = e ∙ ap (λ (x : ℤ). rounded x (to_z w16 (of_z w16 to)) t) (drawn_back from fl fh) ∙ ap (λ (x : ℤ). rounded from x t) (drawn_back to tl th) in
    let is = ap (λ (x : ℤ). to_z w16 (of_z w16 x)) s ∙ drawn_back (rounded from to t) r.0 r.1 in
    record { is = is; low = rw is r.0; high = rw is r.1 }
