use Rattle.std.proofs.Common.{◌≡◌, length}
use Rattle.map_script.specs.Words.{text_words}
use Rattle.map_blocks.specs.Ranges.{one_outside}
use Rattle.map_blocks.proofs.ranges.one_outside.Given as goal

-- what is left decides
abbrev pub invariant-loop-name : goal.invariant-loop-name
invariant-loop-name l = one_outside (text_words l.places) (text_words l.rest) ≡ one_outside (text_words l.names) (text_words l.words)

abbrev pub decreases-loop-name : goal.decreases-loop-name
decreases-loop-name l = length (text_words l.places)
