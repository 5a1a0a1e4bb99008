use Rattle.std.proofs.Common.{◌≡◌, ◌∙◌, ◌&&◌, true, false, sym, ap, subst}
use Rattle.std.specs.Prelude.{IfNone, IfSome}
use Rattle.std.specs.List.{list_all}
use Rattle.lump_records.specs.Names.{is_digit}
use Rattle.map_words.specs.Words.{is_natural}
use Rattle.map_words.proofs.NumeralWords.{natural-front}
use Rattle.map_words.proofs.numerals.natural_in.Goals as goal

pub returns-then-not-has_natural_front-clause-none : goal.returns-then-not-has_natural_front-clause-none
returns-then-not-has_natural_front-clause-none c =
    let w = c.args.word.now in
    natural-front w ∙ ap (λ t. t && list_all is_digit w) (sym c.has_natural_front.ensures ∙ c.if-not-has_natural_front.true)

pub returns-clause-none : goal.returns-clause-none
returns-clause-none c =
    let w = c.args.word.now in
    let is : is_natural w ≡ list_all is_digit w =
    natural-front w ∙ ap (λ t. t && list_all is_digit w) (sym c.has_natural_front.ensures ∙ c.if-not-has_natural_front.false) in
    subst (λ t. IfNone c.digits_in.result (t ≡ false)) (sym is) c.digits_in.ensures.none

pub returns-clause-natural : goal.returns-clause-natural
returns-clause-natural c =
    let w = c.args.word.now in
    let is : is_natural w ≡ list_all is_digit w =
    natural-front w ∙ ap (λ t. t && list_all is_digit w) (sym c.has_natural_front.ensures ∙ c.if-not-has_natural_front.false) in
    subst (λ t. IfSome c.digits_in.result (λ _. t ≡ true)) (sym is) c.digits_in.ensures.digits
