use Rattle.std.proofs.Common.{◌≡◌, drop}
use Rattle.map_script.specs.Words.{text_words}
use Rattle.map_script.proofs.words.without_blanks.Given as goal

-- the bytes so far are blank
abbrev pub invariant-loop-i : goal.invariant-loop-i
invariant-loop-i l = text_words (drop l.i l.text) ≡ text_words l.text
