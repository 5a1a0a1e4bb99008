use Rattle.std.proofs.Common.{rules, ◌≡◌, ◌∷◌, ap, sym, ◌∙◌, to_z, of_z, subst, ℤ, FitsSigned}
use Rattle.std.specs.Prelude.{option_copied}
use Rattle.std.specs.Fmt.{signed_decimal}
use Rattle.std.specs.Int.{w16, w32}
use Rattle.lump_records.specs.Drawing.{IsBetween}
use Rattle.map_words.specs.Words.{parts_behind}
use Rattle.map_words.proofs.NumeralWords.{converted, fits-between}
use Rattle.map_words.proofs.numerals.number_before.Goals as goal

pub returns-clause-word : goal.returns-clause-word
returns-clause-word c =
    let n = c.in_ok-n.n in
    let within : IsBetween c.args.low c.args.high n = search rules in
    let short : FitsSigned w16 n = fits-between c.args.low c.args.high n c.ranges.low c.ranges.high within in
    let same : to_z w16 (of_z w16 (to_z w32 (of_z w32 n))) ≡ n = converted n short in
    c.in_ok-n.ensures.word ∙ ap (λ (z : ℤ). signed_decimal z ∷ parts_behind (option_copied c.in_ok-n.behind)) (sym same)

pub returns-clause-range : goal.returns-clause-range
returns-clause-range c =
    let n = c.in_ok-n.n in
    let within : IsBetween c.args.low c.args.high n = search rules in
    let short : FitsSigned w16 n = fits-between c.args.low c.args.high n c.ranges.low c.ranges.high within in
    subst (IsBetween c.args.low c.args.high) (sym (converted n short)) within
