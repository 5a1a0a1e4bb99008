use Rattle.std.proofs.lemmas.Result.{IfOk-weaker}
use Rattle.cli_words.specs.App.{IsCommand}
use Rattle.cli_words.proofs.Built.{sub_added}
use Rattle.cli_words.proofs.app.with.Goals as goal

pub returns-in-Ok-subcommand : goal.returns-in-Ok-subcommand
returns-in-Ok-subcommand c = λ a s first second.
    let program : IsCommand c.in-Ok.program a = rw c.in-Ok.is at first in
    let under : IsCommand c.in-Ok-subcommand.subcommand s = rw c.in-Ok-subcommand.is at second in
    IfOk-weaker c.subcommand.result _ _ (λ made adds. sub_added _ _ _ _ _ adds program under) c.subcommand.ensures
