use Rattle.std.proofs.Common.{◌≡◌, ◌∙◌, [], ap, arith, map, string_bytes, sym, true}
use Rattle.std.specs.Prelude.{bytes_eq}
use Rattle.std.proofs.lemmas.List.{get_or-map, length-map}
use Rattle.std.proofs.lemmas.List.Folds.{list_any_at}
use Rattle.cli_print.proofs.choosing.is_word_among.Goals as goal

pub returns-then-eq : goal.returns-then-eq
returns-then-eq c =
    let words = c.args.words.now in
    let known = c.known-item.result in
    let at = get_or-map string_bytes words c.loop-known.known-index known [] c.loop-known-test.true ∙ ap string_bytes (sym c.known-item.is) in
    sym
    (list_any_at (λ w. bytes_eq w c.args.word.now) (map string_bytes words) c.loop-known.known-index [] (omega (arith, length-map words string_bytes, c.loop-known-test.true))
    (ap (λ w. bytes_eq w c.args.word.now) (at ∙ sym c.as_str.ensures.value) ∙ sym c.eq.ensures ∙ c.if-eq.true))
