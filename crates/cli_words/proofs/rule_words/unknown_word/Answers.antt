use Rattle.std.proofs.Common.{◌≡◌, ◌∙◌, Some, ap, false, true, sym, get_or, string_bytes}
use Rattle.std.specs.Prelude.{not}
use Rattle.cli_words.specs.RuleWords.{is_rule_word}
use Rattle.cli_words.proofs.UnknownWords.{found, not_yet}
use Rattle.cli_words.proofs.rule_words.unknown_word.Goals as goal

pub returns-then-not-is_rule_word : goal.returns-then-not-is_rule_word
returns-then-not-is_rule_word c =
    let word = c.word-item.result in
    let words = c.args.words.now in
    let same : word ≡ get_or words c.loop-word.word-index word = c.word-item.is in
    let fails : not (is_rule_word (string_bytes word)) ≡ true = ap not (ap is_rule_word (sym c.as_str.ensures.value) ∙ sym c.is_rule_word.ensures ∙ c.if-not-is_rule_word.true) in
    ap Some (c.as_str-then-not-is_rule_word.ensures.value ∙ ap string_bytes same)
    ∙ sym
    (found string_bytes (λ w. not (is_rule_word w)) words c.loop-word.word-index word c.loop-word-test.true c.loop-word.invariant
    (ap (λ w. not (is_rule_word (string_bytes w))) (sym same) ∙ fails))

pub loop-word-preserved : goal.loop-word-preserved
loop-word-preserved c =
    let word = c.word-item.result in
    let words = c.args.words.now in
    let same : word ≡ get_or words c.loop-word.word-index word = c.word-item.is in
    let passes : not (is_rule_word (string_bytes word)) ≡ false = ap not (ap is_rule_word (sym c.as_str.ensures.value) ∙ sym c.is_rule_word.ensures ∙ c.if-not-is_rule_word.false) in
    not_yet string_bytes (λ w. not (is_rule_word w)) words c.loop-word.word-index word c.loop-word-test.true c.loop-word.invariant
    (ap (λ w. not (is_rule_word (string_bytes w))) (sym same) ∙ passes)
