use Rattle.std.proofs.Common.{◌∙◌, Some, ap, sym}
use Rattle.clap.specs.Words.{found_of}
use Rattle.clap.proofs.WalkLemmas.{first_value-rows}
use Rattle.cli_words.proofs.command_line.last_text.Goals as goal

pub returns-in-Ok-clause-given : goal.returns-in-Ok-clause-given
returns-in-Ok-clause-given c =
    sym (first_value-rows (found_of c.args.found.now) c.args.id.now) ∙ sym c.in-Some.ensures ∙ ap Some (sym c.in-Ok.ensures.same)

pub returns-in-None-clause-given : goal.returns-in-None-clause-given
returns-in-None-clause-given c = sym (first_value-rows (found_of c.args.found.now) c.args.id.now) ∙ sym c.in-None.ensures
