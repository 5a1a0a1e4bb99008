use Rattle.std.proofs.lemmas.Result.{IfOk-weaker}
use Rattle.cli_words.proofs.Built.{arg_added}
use Rattle.cli_words.proofs.app.inspect.Goals as goal

pub returns : goal.returns
returns c =
    let s0 = IfOk-weaker c.arg-inspect.result _ _ (λ made adds. arg_added _ _ _ _ _ adds c.named-inspect.ensures c.word.ensures) c.arg-inspect.ensures in
    c.with_arg.ensures _ _ s0 c.last_word.ensures
