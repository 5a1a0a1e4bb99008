-- None of the words so far is the word.
use Rattle.std.specs.Prelude.{◌≡◌, false, map, string_bytes, take}
use Rattle.cli_print.specs.Choosing.{is_word_among}
use Rattle.cli_print.proofs.choosing.is_word_among.Given as goal

abbrev pub invariant-loop-known : goal.invariant-loop-known
invariant-loop-known l = is_word_among (map string_bytes (take l.known-index l.words)) l.word ≡ false
