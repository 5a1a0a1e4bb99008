use Rattle.std.proofs.Common.{◌≡◌, length}
use Rattle.std.specs.List.{list_any}
use Rattle.map_script.specs.Words.{text_words}
use Rattle.map_blocks.specs.Naming.{may_give}
use Rattle.map_blocks.proofs.mentioning.one_may_be_given.Given as goal

-- what is left decides
abbrev pub invariant-loop-word : goal.invariant-loop-word
invariant-loop-word l = list_any (λ name. may_give name l.line) (text_words l.rest) ≡ list_any (λ name. may_give name l.line) (text_words l.words)

abbrev pub decreases-loop-word : goal.decreases-loop-word
decreases-loop-word l = length (text_words l.rest)
