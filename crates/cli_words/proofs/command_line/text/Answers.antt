use Rattle.std.proofs.Common.{◌∙◌, Some, ap, subst, sym}
use Rattle.std.proofs.lemmas.Result.{IfErr-weaker, IfOk-weaker}
use Rattle.clap.specs.Words.{found_of, rows_of}
use Rattle.clap.proofs.WalkLemmas.{first_value-rows}
use Rattle.cli_words.specs.Request.{RefusesText}
use Rattle.cli_words.proofs.command_line.text.Goals as goal

pub returns-in-Some-clause-given : goal.returns-in-Some-clause-given
returns-in-Some-clause-given c =
    let read = sym (first_value-rows (found_of c.args.found.now) c.args.id.now) ∙ sym c.in-Some.ensures in
    IfOk-weaker c.owned.result _ _ (λ s h. read ∙ ap Some (sym h)) c.owned.ensures.same

pub returns-in-Some-clause-refused : goal.returns-in-Some-clause-refused
returns-in-Some-clause-refused c =
    IfErr-weaker c.owned.result _ _ (λ e h. subst (λ x. RefusesText c.args.id.now (rows_of (found_of c.args.found.now)) x) (sym h) tt)
    c.owned.ensures.refused

pub returns-in-None-clause-refused : goal.returns-in-None-clause-refused
returns-in-None-clause-refused c = sym (first_value-rows (found_of c.args.found.now) c.args.id.now) ∙ sym c.in-None.ensures
