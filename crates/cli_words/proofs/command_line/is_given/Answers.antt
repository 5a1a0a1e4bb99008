use Rattle.std.proofs.Common.{◌≡◌, ◌∙◌, rules, Option, ap, false, sym}
use Rattle.std.specs.Prelude.{codes}
use Rattle.std.specs.Option.{option_map_or}
use Rattle.std.specs.Str.{bytes_eq}
use Rattle.clap.specs.Words.{Text, found_of}
use Rattle.clap.proofs.WalkLemmas.{first_value-rows}
use Rattle.cli_words.proofs.command_line.is_given.Goals as goal

pub returns-in-Some : goal.returns-in-Some
returns-in-Some c =
    let read = sym (first_value-rows (found_of c.args.found.now) c.args.id.now) ∙ sym c.in-Some.ensures in
    let same : c.eq.result ≡ bytes_eq c.in-Some.text.now (codes "true") = search rules in
    same ∙ sym (ap (λ (o : Option Text). option_map_or (λ text. bytes_eq text (codes "true")) o false) read)

pub returns-in-None : goal.returns-in-None
returns-in-None c =
    let read = sym (first_value-rows (found_of c.args.found.now) c.args.id.now) ∙ sym c.in-None.ensures in
    sym (ap (λ (o : Option Text). option_map_or (λ text. bytes_eq text (codes "true")) o false) read)
