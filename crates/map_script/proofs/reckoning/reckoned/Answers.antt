use Rattle.std.proofs.Common.{◌≡◌, ◌==◌, ◌∙◌, ap₂, false, w64, FitsSigned}
use Rattle.std.proofs.lemmas.Int.{to_z-of_z}
use borrow.Author.Tests.{ne_eqb}
use Rattle.map_script.specs.Reckoned.{quotient}
use Rattle.map_script.proofs.reckoning.reckoned.Goals as goal

pub returns-else-sign-eq42 : goal.returns-else-sign-eq42
returns-else-sign-eq42 c =
    let sign = c.args.sign in
    let no_sum : (sign == 43) ≡ false = ne_eqb sign 43 c.if-sign-eq43.false in
    let no_difference : (sign == 45) ≡ false = ne_eqb sign 45 c.if-sign-eq45.false in
    let no_product : (sign == 42) ≡ false = ne_eqb sign 42 c.if-sign-eq42.false in
    let fits_x : FitsSigned w64 c.args.x = c.ranges.x in
    let fits_y : FitsSigned w64 c.args.y = c.ranges.y in
    let is : c.quotient.result ≡ quotient c.args.x c.args.y =
    c.quotient.ensures ∙ ap₂ quotient (to_z-of_z w64 c.args.x fits_x) (to_z-of_z w64 c.args.y fits_y) in
    rw (no_sum, no_difference, no_product) is
