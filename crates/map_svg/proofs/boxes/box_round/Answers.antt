use Rattle.std.proofs.Common.{◌≡◌, ◌∙◌, rules}
use Rattle.std.proofs.lemmas.Int.{to_z-of_z}
use Rattle.std.specs.Prelude.{FitsSigned}
use Rattle.std.specs.Int.{w16, int_max, int_min}
use Rattle.map_svg.proofs.boxes.box_round.Goals as goal

pub returns : goal.returns
returns c =
    let f1 : FitsSigned w16 c.greater.result = search rules in
    let f2 : FitsSigned w16 c.lesser.result = search rules in
    let f3 : FitsSigned w16 c.lesser-2.result = search rules in
    let f4 : FitsSigned w16 c.greater-2.result = search rules in
    let e1 : c.greater.result ≡ int_max c.args.a.top c.args.b.top = search rules in
    let e2 : c.lesser.result ≡ int_min c.args.a.bottom c.args.b.bottom = search rules in
    let e3 : c.lesser-2.result ≡ int_min c.args.a.left c.args.b.left = search rules in
    let e4 : c.greater-2.result ≡ int_max c.args.a.right c.args.b.right = search rules in
    λ i. record {
      top = (to_z-of_z w16 c.greater.result f1 ∙ e1) i;
      bottom = (to_z-of_z w16 c.lesser.result f2 ∙ e2) i;
      left = (to_z-of_z w16 c.lesser-2.result f3 ∙ e3) i;
      right = (to_z-of_z w16 c.greater-2.result f4 ∙ e4) i;
    }
