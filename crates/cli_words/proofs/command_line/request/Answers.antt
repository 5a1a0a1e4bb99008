use Rattle.std.proofs.Common.{◌≡◌, ◌∙◌, Bor, List, [], ◌∷◌, IfErr, IfOk, IsSomeAnd, arith, ap, get_or, length, map, subst}
use Rattle.std.proofs.lemmas.Result.{IfErr-weaker}
use Rattle.clap.specs.Words.{Text, subcommand_of}
use Rattle.cli_words.specs.Help.{IsRefusal, without_help}
use Rattle.cli_words.specs.App.{leveled_app}
use Rattle.cli_words.specs.Request.{AsksFor}
use Rattle.cli_words.proofs.WithoutHelp.{others, others_no_topic, refused_as, three, two}
use Rattle.cli_words.proofs.command_line.request.Goals as goal

pub returns-in-2-clause-asked : goal.returns-in-2-clause-asked
returns-in-2-clause-asked c =
    let ws = c.args.words.now in
    let len : length ws ≡ 2 = omega arith in
    let none : Bor Text = record { ref_ptr = (0, 0); now = [] } in
    let program = (get_or ws 0 none).now in
    let word = c.as_option.result.now in
    let reads : program ∷ word ∷ [] ≡ without_help (map (λ w. w.now) ws) =
    ap (λ (t : Text). program ∷ t ∷ []) c.as_option.ensures ∙ ap without_help (two (λ w. w.now) ws none len) in
    subst (λ (ts : List Text). IfOk c.read.result (λ r. IsSomeAnd (subcommand_of leveled_app ts) (AsksFor r))) reads c.read.ensures.asked

pub returns-in-2-clause-refused : goal.returns-in-2-clause-refused
returns-in-2-clause-refused c =
    let ws = c.args.words.now in
    let len : length ws ≡ 2 = omega arith in
    let none : Bor Text = record { ref_ptr = (0, 0); now = [] } in
    let program = (get_or ws 0 none).now in
    let word = c.as_option.result.now in
    let reads : program ∷ word ∷ [] ≡ without_help (map (λ w. w.now) ws) =
    ap (λ (t : Text). program ∷ t ∷ []) c.as_option.ensures ∙ ap without_help (two (λ w. w.now) ws none len) in
    IfErr-weaker c.read.result _ _
    (λ e h. refused_as (map (λ w. w.now) ws) (program ∷ word ∷ []) e reads (others_no_topic (λ w. w.now) ws (λ three. omega arith)) h)
    c.read.ensures.refused

pub returns-in-3-clause-asked : goal.returns-in-3-clause-asked
returns-in-3-clause-asked c =
    let ws = c.args.words.now in
    let len : length ws ≡ 3 = omega arith in
    let none : Bor Text = record { ref_ptr = (0, 0); now = [] } in
    subst (λ (ts : List Text). IfOk c.read_two.result (λ r. IsSomeAnd (subcommand_of leveled_app (without_help ts)) (AsksFor r)))
    (three (λ w. w.now) ws none len) c.read_two.ensures.asked

pub returns-in-3-clause-refused : goal.returns-in-3-clause-refused
returns-in-3-clause-refused c =
    let ws = c.args.words.now in
    let len : length ws ≡ 3 = omega arith in
    let none : Bor Text = record { ref_ptr = (0, 0); now = [] } in
    subst (λ (ts : List Text). IfErr c.read_two.result (IsRefusal ts)) (three (λ w. w.now) ws none len) c.read_two.ensures.refused

pub returns-in_default-clause-asked : goal.returns-in_default-clause-asked
returns-in_default-clause-asked c =
    let ws = c.args.words.now in
    subst (λ (ts : List Text). IfOk c.read-in_default.result (λ r. IsSomeAnd (subcommand_of leveled_app ts) (AsksFor r)))
    (others (λ w. w.now) ws (λ e. omega arith) (λ e. omega arith)) c.read-in_default.ensures.asked

pub returns-in_default-clause-refused : goal.returns-in_default-clause-refused
returns-in_default-clause-refused c =
    let ws = c.args.words.now in
    IfErr-weaker c.read-in_default.result _ _
    (λ e h. refused_as (map (λ w. w.now) ws) (map (λ w. w.now) ws) e (others (λ w. w.now) ws (λ s. omega arith) (λ s. omega arith))
    (others_no_topic (λ w. w.now) ws (λ three. omega arith)) h)
    c.read-in_default.ensures.refused
