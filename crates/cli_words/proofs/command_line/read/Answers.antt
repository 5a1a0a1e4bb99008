use Rattle.std.proofs.Common.{◌≡◌, true, subst, map, []}
use Rattle.std.proofs.lemmas.Result.{IfErr-weaker, IfOk-weaker}
use Rattle.clap.specs.Words.{App, HasKind, HasMatchesOf, fault_of, found_of, is_simple_and_free, kind_of, rows_of, subcommand_of, takes}
use Rattle.clap.specs.declared.error.kind.ErrorKind.TheVariants.{OutOfMemory}
use Rattle.cli_words.specs.App.{leveled_app}
use Rattle.cli_words.specs.Request.{AsksFor}
use Rattle.cli_words.proofs.FromMatches.{asks, is_simple_and_free-leveled, is_subcommand, met, refuses, words_name}
use Rattle.cli_words.proofs.command_line.read.Goals as goal

pub returns-in-Err-try_get_matches_from-clause-refused : goal.returns-in-Err-try_get_matches_from-clause-refused
returns-in-Err-try_get_matches_from-clause-refused c =
    let words = map (λ w. w.now) c.args.words.now in (
      subst (λ (a : App). is_simple_and_free a ≡ true → HasKind (fault_of a words) c.in-Err-try_get_matches_from.error) c.in-Ok.ensures
          c.in-Err-try_get_matches_from.ensures.kinds is_simple_and_free-leveled,
      subst (λ (a : App). takes a words ≡ true → kind_of c.in-Err-try_get_matches_from.error ≡ OutOfMemory) c.in-Ok.ensures
          c.in-Err-try_get_matches_from.ensures.passes,
    )

pub asked-requires : goal.asked-requires
asked-requires c =
    let words = map (λ w. w.now) c.args.words.now in
    let m = c.in-Ok-try_get_matches_from.matches in
    let name = c.in-Some.name.now in
    let rows = rows_of (found_of c.in-Some.found.now) in
    let has = subst (λ (a : App). HasMatchesOf a words m) c.in-Ok.ensures c.in-Ok-try_get_matches_from.ensures.matches in
    is_subcommand words name rows (words_name m words name rows has c.in-Some.ensures.name c.in-Some.ensures.rows)

pub unreachable-requires : goal.unreachable-requires
unreachable-requires c =
    let words = map (λ w. w.now) c.args.words.now in
    let m = c.in-Ok-try_get_matches_from.matches in
    let has = subst (λ (a : App). HasMatchesOf a words m) c.in-Ok.ensures c.in-Ok-try_get_matches_from.ensures.matches in
    let none = subst (λ (a : App). is_simple_and_free a ≡ true → fault_of a words ≡ []) c.in-Ok.ensures
    c.in-Ok-try_get_matches_from.ensures.kinds is_simple_and_free-leveled in
    met m words has none c.in-None.ensures.variant

pub returns-clause-asked : goal.returns-clause-asked
returns-clause-asked c =
    let words = map (λ w. w.now) c.args.words.now in
    let m = c.in-Ok-try_get_matches_from.matches in
    let name = c.in-Some.name.now in
    let rows = rows_of (found_of c.in-Some.found.now) in
    let has = subst (λ (a : App). HasMatchesOf a words m) c.in-Ok.ensures c.in-Ok-try_get_matches_from.ensures.matches in
    let is = words_name m words name rows has c.in-Some.ensures.name c.in-Some.ensures.rows in
    IfOk-weaker c.asked.result _ _ (λ r h. asks (subcommand_of leveled_app words) name rows (AsksFor r) is h) c.asked.ensures.asked

pub returns-clause-refused : goal.returns-clause-refused
returns-clause-refused c =
    let words = map (λ w. w.now) c.args.words.now in
    let m = c.in-Ok-try_get_matches_from.matches in
    let name = c.in-Some.name.now in
    let rows = rows_of (found_of c.in-Some.found.now) in
    let has = subst (λ (a : App). HasMatchesOf a words m) c.in-Ok.ensures c.in-Ok-try_get_matches_from.ensures.matches in
    let is = words_name m words name rows has c.in-Some.ensures.name c.in-Some.ensures.rows in
    IfErr-weaker c.asked.result _ _ (λ e h. refuses words name rows e is h) c.asked.ensures.refused
