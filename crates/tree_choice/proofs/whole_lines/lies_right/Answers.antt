use Rattle.std.proofs.Common.{◌≡◌, rules}
use Rattle.std.proofs.lemmas.Int.{to_z-of_z}
use Rattle.std.specs.Prelude.{◌+ℤ◌, pos, FitsSigned}
use Rattle.std.specs.Int.{w64}
use mir.Val.{to_z, of_z}
use Rattle.tree_pieces.specs.Plane.{dot, ray}
use Rattle.tree_choice.proofs.WholeLines.{narrow, sum_fits, place_right, place_left, above, not_above_0}
use Rattle.tree_choice.proofs.whole_lines.lies_right.Goals as goal
use Rattle.tree_choice.proofs.whole_lines.lies_right.Goals.{After-sign_of}

-- what is known of the sign
record Sign (c : After-sign_of) : Type 0 where
  fits : FitsSigned w64 c.sign_of.result
  zero : c.args.first +ℤ c.args.last ≡ pos 0 → c.sign_of.result ≡ dot c.args.along (ray c.args.edge c.args.side)
  other : (c.args.first +ℤ c.args.last ≡ pos 0 → ⊥) → c.sign_of.result ≡ c.args.first +ℤ c.args.last

sign : (c : After-sign_of) → Sign c
sign c =
    let a = c.args.first in
    let b = c.args.last in
    let n = narrow a c.requires.first in
    let m = narrow b c.requires.last in
    let s = sum_fits a b c.requires.first c.requires.last in
    let e : to_z w64 (of_z w64 (to_z w64 (of_z w64 a) +ℤ to_z w64 (of_z w64 b))) ≡ a +ℤ b = rw (to_z-of_z w64 a n.fits, to_z-of_z w64 b m.fits) (to_z-of_z w64 (a +ℤ b) s) in
    record {
      fits = search rules;
      zero = simp (e) at c.sign_of.ensures.zero;
      other = simp (e) at c.sign_of.ensures.other;
    }

pub overflow_add-sum : goal.overflow_add-sum
overflow_add-sum c =
    let a = c.args.first in
    let b = c.args.last in
    let n = narrow a c.requires.first in
    let m = narrow b c.requires.last in
    rw (to_z-of_z w64 a n.fits, to_z-of_z w64 b m.fits) (sum_fits a b c.requires.first c.requires.last)

pub returns-clause-right : goal.returns-clause-right
returns-clause-right c = λ h.
    let s = sign (goal.at.returns-clause-right c).After-sign_of in
    place_right c.args.first c.args.last (dot c.args.along (ray c.args.edge c.args.side)) c.sign_of.result c.requires.together s.zero s.other
    (above c.sign_of.result (rw (to_z-of_z w64 c.sign_of.result s.fits) at h))

pub returns-clause-left : goal.returns-clause-left
returns-clause-left c = λ h.
    let s = sign (goal.at.returns-clause-left c).After-sign_of in
    place_left c.args.first c.args.last (dot c.args.along (ray c.args.edge c.args.side)) c.sign_of.result c.requires.together s.zero s.other
    (not_above_0 c.sign_of.result (rw (to_z-of_z w64 c.sign_of.result s.fits) at h))
