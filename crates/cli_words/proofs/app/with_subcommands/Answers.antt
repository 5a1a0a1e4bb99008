use Rattle.std.proofs.lemmas.Result.{IfOk-weaker}
use Rattle.cli_words.proofs.Built.{sub_added}
use Rattle.cli_words.proofs.app.with_subcommands.Goals as goal

pub returns : goal.returns
returns c =
    let s1 = IfOk-weaker c.subcommand-program.result _ _ (λ made adds. sub_added _ _ _ _ _ adds c.named-program.ensures c.named-scratch.ensures) c.subcommand-program.ensures in
    let s2 = c.with-program.ensures _ _ s1 c.create.ensures in
    let s3 = c.with-program-2.ensures _ _ s2 c.over_file-edit.ensures in
    let s4 = c.with-program-3.ensures _ _ s3 c.check.ensures in
    let s5 = c.with-program-4.ensures _ _ s4 c.lint.ensures in
    let s6 = c.with-program-5.ensures _ _ s5 c.draw.ensures in
    let s7 = c.with-program-6.ensures _ _ s6 c.dump.ensures in
    let s8 = c.with-program-7.ensures _ _ s7 c.picture.ensures in
    let s9 = c.with-program-8.ensures _ _ s8 c.inspect.ensures in
    let s10 = c.with-program-9.ensures _ _ s9 c.build.ensures in
    c.with.ensures _ _ s10 c.rebuild.ensures
