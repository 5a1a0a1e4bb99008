use Rattle.std.specs.Prelude.{FitsSigned, pos, ◌*ℤ◌, int_lt}
use Rattle.std.specs.Int.{w64}
use Rattle.std.proofs.Common.{rules, refl, ◌≡◌, sym, ap, ◌∙◌, Bool, true, false, Option, Some, None}
use Rattle.std.proofs.lemmas.Int.{to_z-of_z}
use Rattle.tree_choice.proofs.WholeLines.{whole_right, whole_left}
use Rattle.tree_choice.proofs.whole_lines.side_of_line.Goals as goal

abbrev told : Option Bool → Bool
told None = false
told (Some b) = b

pub lies_right-right-requires-clause-together : goal.lies_right-right-requires-clause-together
lies_right-right-requires-clause-together c = sym c.are_apart.ensures ∙ c.if-are_apart.false

pub returns-then-are_apart-clause-apart : goal.returns-then-are_apart-clause-apart
returns-then-are_apart-clause-apart c = λ _.
    let a = c.value_at-first.result in
    let b = c.value_at-last.result in
    let fa : FitsSigned w64 a = search rules in
    let fb : FitsSigned w64 b = search rules in
    let e : int_lt (a *ℤ b) (pos 0) ≡ true = simp (to_z-of_z w64 a fa, to_z-of_z w64 b fb) at (sym c.are_apart.ensures ∙ c.if-are_apart.true) in
    rw (c.value_at-first.ensures.value, c.value_at-last.ensures.value) at e

pub returns-clause-right : goal.returns-clause-right
returns-clause-right c = λ h.
    let a = c.value_at-first.result in
    let b = c.value_at-last.result in
    let fa : FitsSigned w64 a = search rules in
    let fb : FitsSigned w64 b = search rules in
    let n = simp (to_z-of_z w64 a fa, to_z-of_z w64 b fb) at c.lies_right-right.ensures.right (ap told h) in
    whole_right c.args.along c.args.edge c.args.piece.now c.requires.fractions a b _ c.value_at-first.ensures.value c.value_at-last.ensures.value refl n

pub returns-clause-left : goal.returns-clause-left
returns-clause-left c = λ h.
    let a = c.value_at-first.result in
    let b = c.value_at-last.result in
    let fa : FitsSigned w64 a = search rules in
    let fb : FitsSigned w64 b = search rules in
    let n = simp (to_z-of_z w64 a fa, to_z-of_z w64 b fb) at c.lies_right-right.ensures.left (ap told h) in
    whole_left c.args.along c.args.edge c.args.piece.now c.requires.fractions a b _ c.value_at-first.ensures.value c.value_at-last.ensures.value refl n
