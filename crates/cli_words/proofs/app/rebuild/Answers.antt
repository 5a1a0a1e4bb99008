use Rattle.std.proofs.lemmas.Result.{IfOk-weaker}
use Rattle.cli_words.proofs.Built.{arg_added}
use Rattle.cli_words.proofs.app.rebuild.Goals as goal

pub returns : goal.returns
returns c =
    let s0 = IfOk-weaker c.arg-rebuild.result _ _ (λ made adds. arg_added _ _ _ _ _ adds c.named-rebuild.ensures c.word.ensures) c.arg-rebuild.ensures in
    let s1 = c.with_arg-rebuild.ensures _ _ s0 c.word-2.ensures in
    c.with_arg.ensures _ _ s1 c.repeated.ensures
