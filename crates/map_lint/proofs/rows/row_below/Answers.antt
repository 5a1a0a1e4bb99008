use Rattle.std.proofs.Common.{◌∙◌, rules}
use Rattle.std.specs.Prelude.{FitsSigned}
use Rattle.std.specs.Int.{w16}
use Rattle.std.proofs.lemmas.Int.{to_z-of_z}
use Rattle.map_lint.proofs.RowSteps.{sum_kept}
use Rattle.map_lint.proofs.rows.row_below.Goals as goal

pub returns : goal.returns
returns c =
    let f : FitsSigned w16 c.args.offset = search rules in
    let g : FitsSigned w16 c.args.top = search rules in
    let h : FitsSigned w16 c.args.bottom = search rules in
    sum_kept c.from.result c.from-2.result c.from-3.result c.args.offset c.args.top c.args.bottom (c.from.ensures ∙ to_z-of_z w16 c.args.offset f)
    (c.from-2.ensures ∙ to_z-of_z w16 c.args.top g) (c.from-3.ensures ∙ to_z-of_z w16 c.args.bottom h) f g h
