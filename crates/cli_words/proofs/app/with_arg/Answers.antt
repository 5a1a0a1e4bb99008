use Rattle.std.proofs.lemmas.Result.{IfOk-weaker}
use Rattle.cli_words.specs.App.{IsCommand}
use Rattle.cli_words.proofs.Built.{arg_added}
use Rattle.cli_words.proofs.app.with_arg.Goals as goal

pub returns-in-Ok : goal.returns-in-Ok
returns-in-Ok c = λ a r first second.
    let command : IsCommand c.in-Ok.command a = rw c.in-Ok.is at first in
    IfOk-weaker c.arg.result _ _ (λ made adds. arg_added _ _ _ _ _ adds command second) c.arg.ensures
