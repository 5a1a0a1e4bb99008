use Rattle.std.proofs.Common.{◌≡◌, ◌∙◌, ap, sym, refl, false, arith}
use Rattle.std.specs.List.{list_any}
use Rattle.std.proofs.lemmas.Bool.Decides.{nat_tests}
use Rattle.run_edit.specs.Lines.{is_break}
use Rattle.run_edit.proofs.Cutting.{whole-push}
use Rattle.run_edit.proofs.Going.{whole-at}
use Rattle.cli_requests.specs.Typing.{quits}
use Rattle.cli_requests.proofs.TypedLines.{or_none}
use Rattle.cli_requests.proofs.typing.ends_session.Goals as goal

pub returns-then-b-ne10-clause-on : goal.returns-then-b-ne10-clause-on
returns-then-b-ne10-clause-on c = λ no part begun.
    let other : is_break c.args.b ≡ false = grind (arith, nat_tests) in
    ap (list_any quits) (whole-push part c.args.b begun.open_ended other)

pub returns-clause-left : goal.returns-clause-left
returns-clause-left c = λ is. (c.if-b-ne10.false, λ part begun. sym (c.is_leaving.ensures part begun) ∙ is)

pub returns-clause-on : goal.returns-clause-on
returns-clause-on c = λ no part begun.
    ap (list_any quits) (whole-at part c.args.b c.if-b-ne10.false begun.open_ended)
    ∙ or_none (quits part) false (sym (c.is_leaving.ensures part begun) ∙ no) refl
