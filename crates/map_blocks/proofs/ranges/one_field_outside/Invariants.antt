use Rattle.std.proofs.Common.{◌≡◌, length}
use Rattle.std.specs.List.{list_any}
use Rattle.map_script.specs.Words.{text_words}
use Rattle.map_blocks.specs.Ranges.{is_field_outside}
use Rattle.map_blocks.proofs.ranges.one_field_outside.Given as goal

-- what is left decides
abbrev pub invariant-loop-word : goal.invariant-loop-word
invariant-loop-word l = list_any is_field_outside (text_words l.rest) ≡ list_any is_field_outside (text_words l.words)

abbrev pub decreases-loop-word : goal.decreases-loop-word
decreases-loop-word l = length (text_words l.rest)
