use Rattle.std.proofs.Common.{◌≡◌, length}
use Rattle.map_script.specs.Defines.{are_as_many}
use Rattle.map_script.specs.Words.{text_words}
use Rattle.map_script.proofs.defining.are_as_many.Given as goal

-- as many are left of the one as of the other, if there were
abbrev pub invariant-loop-more : goal.invariant-loop-more
invariant-loop-more l =
    are_as_many (text_words l.parameters) (text_words l.words) ≡ are_as_many (text_words l.fn.parameters) (text_words l.fn.words)

abbrev pub decreases-loop-more : goal.decreases-loop-more
decreases-loop-more l = length l.parameters
