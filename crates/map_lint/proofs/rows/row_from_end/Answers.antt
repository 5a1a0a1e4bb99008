use Rattle.std.proofs.Common.{◌∙◌, rules}
use Rattle.std.specs.Prelude.{FitsSigned}
use Rattle.std.specs.Int.{w16}
use Rattle.std.proofs.lemmas.Int.{to_z-of_z}
use Rattle.map_lint.proofs.RowSteps.{all_kept, less_fits, sum_fits}
use Rattle.map_lint.proofs.rows.row_from_end.Goals as goal

pub overflow_sub-result-2 : goal.overflow_sub-result-2
overflow_sub-result-2 c =
    let g : FitsSigned w16 c.args.height = search rules in
    let h : FitsSigned w16 c.args.high = search rules in
    let k : FitsSigned w16 c.args.low = search rules in
    less_fits c.from-2.result c.from-3.result c.from-4.result c.args.height c.args.high c.args.low (c.from-2.ensures ∙ to_z-of_z w16 c.args.height g)
    (c.from-3.ensures ∙ to_z-of_z w16 c.args.high h) (c.from-4.ensures ∙ to_z-of_z w16 c.args.low k) g h k

pub overflow_add-result : goal.overflow_add-result
overflow_add-result c =
    let f : FitsSigned w16 c.args.offset = search rules in
    let g : FitsSigned w16 c.args.height = search rules in
    let h : FitsSigned w16 c.args.high = search rules in
    let k : FitsSigned w16 c.args.low = search rules in
    sum_fits c.from-2.result c.from-3.result c.from-4.result c.args.height c.args.high c.args.low (c.from-2.ensures ∙ to_z-of_z w16 c.args.height g)
    (c.from-3.ensures ∙ to_z-of_z w16 c.args.high h) (c.from-4.ensures ∙ to_z-of_z w16 c.args.low k) g h k
    c.from.result c.args.offset (c.from.ensures ∙ to_z-of_z w16 c.args.offset f) f

pub returns : goal.returns
returns c =
    let f : FitsSigned w16 c.args.offset = search rules in
    let g : FitsSigned w16 c.args.height = search rules in
    let h : FitsSigned w16 c.args.high = search rules in
    let k : FitsSigned w16 c.args.low = search rules in
    all_kept c.from-2.result c.from-3.result c.from-4.result c.args.height c.args.high c.args.low (c.from-2.ensures ∙ to_z-of_z w16 c.args.height g)
    (c.from-3.ensures ∙ to_z-of_z w16 c.args.high h) (c.from-4.ensures ∙ to_z-of_z w16 c.args.low k) g h k
    c.from.result c.args.offset (c.from.ensures ∙ to_z-of_z w16 c.args.offset f) f
