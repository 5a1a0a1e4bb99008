use Rattle.std.proofs.Common.{◌∙◌, ap}
use Rattle.map_commands.specs.Grammar.{head_word}
use Rattle.map_commands.proofs.Writing.{whole}
use Rattle.map_commands.proofs.grammar.words.Goals as goal

pub returns : goal.returns
returns c =
    whole _ c.in_ok-text.text c.args.command.now (c.in_ok-text.ensures ∙ c.head_text.ensures ∙ ap head_word c.head_for.ensures) c.words_behind.ensures
