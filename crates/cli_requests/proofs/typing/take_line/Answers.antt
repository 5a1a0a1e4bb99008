use Rattle.std.proofs.Common.{◌≡◌, ◌∙◌, ap, sym, refl, true, false}
use Rattle.std.proofs.lemmas.Bool.{true≢false}
use Rattle.cli_requests.specs.Typing.{asks_help}
use Rattle.cli_requests.proofs.TypedLines.{help-front}
use Rattle.cli_requests.proofs.typing.take_line.Goals as goal

pub returns-then-asks_help : goal.returns-then-asks_help
returns-then-asks_help g c = λ whole is.
    let asks : asks_help whole ≡ true = sym (help-front whole) ∙ ap asks_help (sym is) ∙ sym c.asks_help.ensures ∙ c.if-asks_help.true in
    let told = c.give_help.ensures in
    (told.0, (λ _. refl, λ no. absurd (true≢false (sym asks ∙ no))), told.1)

pub returns : goal.returns
returns g c = λ whole is.
    let asks : asks_help whole ≡ false = sym (help-front whole) ∙ ap asks_help (sym is) ∙ sym c.asks_help.ensures ∙ c.if-asks_help.false in
    let told = c.answer_line.ensures whole is in
    (told.0, (λ yes. absurd (true≢false (sym yes ∙ asks)), λ _. told.1), told.2)
