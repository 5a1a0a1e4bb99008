use Rattle.std.proofs.Common.{rules, ◌≡◌, ap, ◌∙◌}
use Rattle.std.proofs.lemmas.Int.{to_z-of_z}
use Rattle.std.specs.Prelude.{ℤ, pos, ◌*ℤ◌, int_lt, FitsSigned}
use Rattle.std.specs.Int.{w64}
use Rattle.tree_choice.proofs.WholeLines.{narrow}
use Rattle.tree_choice.proofs.whole_lines.are_apart.Goals as goal

pub product-requires-clause-a_low : goal.product-requires-clause-a_low
product-requires-clause-a_low c = let n = narrow c.args.first c.requires.first in rw (to_z-of_z w64 c.args.first n.fits) n.low

pub product-requires-clause-a_high : goal.product-requires-clause-a_high
product-requires-clause-a_high c = let n = narrow c.args.first c.requires.first in rw (to_z-of_z w64 c.args.first n.fits) n.high

pub returns : goal.returns
returns c =
    let a = c.args.first in
    let b = c.args.last in
    let n = narrow a c.requires.first in
    let m = narrow b c.requires.last in
    let f : FitsSigned w64 c.product.result = search rules in
    let e : c.product.result ≡ a *ℤ b = simp (to_z-of_z w64 a n.fits, to_z-of_z w64 b m.fits) at c.product.ensures in
    ap (λ (x : ℤ). int_lt x (pos 0)) (to_z-of_z w64 c.product.result f ∙ e)
