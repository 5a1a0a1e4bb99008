-- Each of the words so far is a rule's.
use Rattle.std.specs.Prelude.{◌≡◌, None, map, string_bytes, take}
use Rattle.cli_words.specs.RuleWords.{unknown_word}
use Rattle.cli_words.proofs.rule_words.unknown_word.Given as goal

abbrev pub invariant-loop-word : goal.invariant-loop-word
invariant-loop-word l = unknown_word (map string_bytes (take l.word-index l.words)) ≡ None
