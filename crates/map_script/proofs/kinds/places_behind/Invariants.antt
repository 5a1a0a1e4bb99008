use Rattle.std.proofs.Common.{◌≡◌, drop, length}
use Rattle.map_script.specs.Words.{text_words}
use Rattle.map_script.proofs.kinds.places_behind.Given as goal

-- as many places are gone as words
abbrev pub invariant-loop-behind : goal.invariant-loop-behind
invariant-loop-behind l = drop (length (text_words l.rest)) l.places ≡ drop (length (text_words l.fn.words)) l.fn.places

abbrev pub decreases-loop-behind : goal.decreases-loop-behind
decreases-loop-behind l = length l.rest
