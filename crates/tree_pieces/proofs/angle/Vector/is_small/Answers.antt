use Rattle.std.proofs.Common.{sym, ◌∙◌, subst, rules}
use Rattle.std.proofs.lemmas.Bool.{false≢true}
use Rattle.std.proofs.lemmas.Int.{to_z-of_z}
use Rattle.std.specs.Prelude.{FitsSigned}
use Rattle.std.specs.Int.{w64}
use Rattle.tree_pieces.specs.Angle.{IsIn62Bits}
use Rattle.tree_pieces.proofs.angle.Vector.is_small.Goals as goal

pub returns-then-is_small : goal.returns-then-is_small
returns-then-is_small c =
    let fx : FitsSigned w64 c.args.self.x = search rules in
    let fy : FitsSigned w64 c.args.self.y = search rules in
    let x = to_z-of_z w64 c.args.self.x fx in
    let y = to_z-of_z w64 c.args.self.y fy in (
      λ t. (subst IsIn62Bits x (c.is_small.ensures.0 c.if-is_small.true), subst IsIn62Bits y (c.is_small-then-is_small.ensures.0 t)),
      λ s. c.is_small-then-is_small.ensures.1 (subst IsIn62Bits (sym y) s.1),
    )

pub returns-else-is_small : goal.returns-else-is_small
returns-else-is_small c =
    let fx : FitsSigned w64 c.args.self.x = search rules in
    let x = to_z-of_z w64 c.args.self.x fx in
    (λ t. absurd (false≢true (sym c.if-is_small.false ∙ t)), λ s. c.is_small.ensures.1 (subst IsIn62Bits (sym x) s.0))
