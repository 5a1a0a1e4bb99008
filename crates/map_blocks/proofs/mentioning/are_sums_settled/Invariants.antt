use Rattle.std.proofs.Common.{◌≡◌, ◌||◌, false, length}
use Rattle.std.specs.List.{list_all}
use Rattle.map_script.specs.Words.{text_words}
use Rattle.map_blocks.specs.Naming.{are_sums_settled, is_bare_word, is_settled}
use Rattle.map_blocks.proofs.mentioning.are_sums_settled.Given as goal

-- what is left decides
abbrev pub invariant-loop-word : goal.invariant-loop-word
invariant-loop-word l = list_all (λ word. is_bare_word word || is_settled false l.lines word) (text_words l.rest) ≡ are_sums_settled l.lines l.line

abbrev pub decreases-loop-word : goal.decreases-loop-word
decreases-loop-word l = length (text_words l.rest)
