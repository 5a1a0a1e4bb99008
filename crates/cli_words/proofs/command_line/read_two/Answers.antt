use Rattle.std.proofs.Common.{◌∙◌, sym}
use Rattle.std.proofs.lemmas.Result.{IfErr-weaker}
use Rattle.cli_words.proofs.WithoutHelp.{read_helped, read_plainly}
use Rattle.cli_words.proofs.command_line.read_two.Goals as goal

pub returns-then-ne-clause-refused : goal.returns-then-ne-clause-refused
returns-then-ne-clause-refused c =
    IfErr-weaker c.read.result _ _ (λ e h. read_plainly c.args.program.now c.args.word.now c.args.name.now e c.if-ne.ensures h) c.read.ensures.refused

pub returns-in-None-clause-refused : goal.returns-in-None-clause-refused
returns-in-None-clause-refused c =
    IfErr-weaker c.read-in-None.result _ _ (λ e h. read_helped c.args.program.now c.args.word.now c.args.name.now e c.if-ne.ensures (sym c.topic_of.ensures ∙ c.in-None.is) h) c.read-in-None.ensures.refused
