use Rattle.std.proofs.Common.{◌≡◌, length}
use Rattle.map_script.specs.Defines.{are_as_many}
use Rattle.map_script.specs.Words.{text_words}
use Rattle.map_blocks.proofs.wording.are_as_many.Given as goal

-- what is left decides
abbrev pub invariant-loop-rest : goal.invariant-loop-rest
invariant-loop-rest l = are_as_many (text_words l.left) (text_words l.right) ≡ are_as_many (text_words l.one) (text_words l.other)

abbrev pub decreases-loop-rest : goal.decreases-loop-rest
decreases-loop-rest l = length (text_words l.left)
