use Rattle.std.proofs.Common.{◌∙◌, List, ℕ, [], Option, ap, map, string_bytes, unwrap_or}
use Rattle.std.proofs.lemmas.Result.{IfOk-weaker}
use Rattle.clap.specs.Words.{found_of}
use Rattle.clap.proofs.WalkLemmas.{raw_values-rows}
use Rattle.cli_words.proofs.command_line.texts.Goals as goal

pub returns-in-Some-clause-given : goal.returns-in-Some-clause-given
returns-in-Some-clause-given c =
    IfOk-weaker c.owned_all.result _ _
    (λ texts h. h ∙ ap (λ (o : Option (List (List ℕ))). unwrap_or o []) (c.in-Some.ensures ∙ raw_values-rows (found_of c.args.found.now) c.args.id.now))
    c.owned_all.ensures.same

pub returns-in-None-clause-given : goal.returns-in-None-clause-given
returns-in-None-clause-given c =
    ap (map string_bytes) c.new.ensures.items
    ∙ ap (λ (o : Option (List (List ℕ))). unwrap_or o []) (c.in-None.ensures ∙ raw_values-rows (found_of c.args.found.now) c.args.id.now)
