use Rattle.std.proofs.Common.{◌≡◌, ap, ◌∙◌}
use Rattle.std.proofs.lemmas.Int.{to_z-of_z}
use Rattle.std.specs.Prelude.{ℤ, ◌*ℤ◌}
use Rattle.std.specs.Int.{w64}
use mir.Val.{to_z, of_z}
use Rattle.tree_pieces.proofs.Shares.{widened_back, product_fits}
use Rattle.tree_pieces.proofs.values.times.Goals as goal

pub returns : goal.returns
returns c =
    let a = c.args.a in
    let b = c.args.b in
    let e : c.product.result ≡ a *ℤ b = simp (widened_back a c.ranges.a, widened_back b c.ranges.b) at c.product.ensures in
    ap (λ (z : ℤ). to_z w64 (of_z w64 z)) e ∙ to_z-of_z w64 (a *ℤ b) (product_fits a b c.ranges.a c.ranges.b)
