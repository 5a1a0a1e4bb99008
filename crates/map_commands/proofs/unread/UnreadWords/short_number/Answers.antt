use Rattle.std.proofs.Common.{◌≡◌, ◌∷◌, ap, sym, ◌∙◌, to_z, of_z, refl, ℤ, FitsSigned, subst}
use Rattle.std.proofs.lemmas.Int.{to_z-of_z}
use Rattle.std.specs.Prelude.{option_copied}
use Rattle.std.specs.Fmt.{signed_decimal}
use Rattle.std.specs.Int.{w16}
use Rattle.lump_records.specs.Drawing.{IsBetween}
use Rattle.map_commands.specs.Places.{Number}
use Rattle.map_commands.specs.Views.{reading}
use Rattle.map_words.specs.Words.{parts_behind}
use Rattle.map_words.proofs.NumeralWords.{fits-between}
use Rattle.map_commands.proofs.Accepted.{number-ok}
use Rattle.map_commands.proofs.Readings.{reads-fit}
use Rattle.map_commands.proofs.unread.UnreadWords.short_number.Goals as goal

pub returns-clause-reads : goal.returns-clause-reads
returns-clause-reads c =
    let n = c.in_ok-n.n in
    let low = c.args.low in
    let high = c.args.high in
    let above = subst (λ (z : ℤ). IsBetween z (to_z w16 (of_z w16 high)) n) (to_z-of_z w16 low c.ranges.low) c.in_ok-n.ensures.range in
    let within : IsBetween low high n = subst (λ (z : ℤ). IsBetween low z n) (to_z-of_z w16 high c.ranges.high) above in
    let short : FitsSigned w16 n = fits-between low high n c.ranges.low c.ranges.high within in
    let same : to_z w16 (of_z w16 n) ≡ n = to_z-of_z w16 n short in
    let between : IsBetween low high (to_z w16 (of_z w16 n)) = subst (IsBetween low high) (sym same) within in
    let fits : FitsSigned w16 (to_z w16 (of_z w16 n)) = subst (FitsSigned w16) (sym same) short in
    let front = ap (λ r. parts_behind (option_copied r)) c.in_ok-self.was in
    let words : (reading c.args.self.now).words ≡ signed_decimal (to_z w16 (of_z w16 n)) ∷ parts_behind (option_copied c.in_ok-n.behind) =
    front ∙ c.in_ok-n.ensures.word ∙ ap (λ (z : ℤ). signed_decimal z ∷ parts_behind (option_copied c.in_ok-n.behind)) (sym same) in
    reads-fit (reading c.args.self.now) _ (Number low high) _ words refl (number-ok low high _ fits between).none
