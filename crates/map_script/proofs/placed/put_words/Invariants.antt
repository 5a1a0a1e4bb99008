use Rattle.std.proofs.Common.{◌≡◌, length}
use Rattle.map_script.specs.Texts.{with_each_word}
use Rattle.map_script.specs.Words.{text_words}
use Rattle.map_script.proofs.placed.put_words.Given as goal

-- the text with the words that are left
abbrev pub invariant-loop-word : goal.invariant-loop-word
invariant-loop-word l = with_each_word l.text.items (text_words l.rest) ≡ with_each_word l.fn.text.items (text_words l.words)

abbrev pub decreases-loop-word : goal.decreases-loop-word
decreases-loop-word l = length l.rest
