use Rattle.std.proofs.Common.{◌≡◌, length}
use Rattle.std.specs.List.{list_all}
use Rattle.map_script.specs.Defines.{is_free_name}
use Rattle.map_script.specs.Words.{text_words}
use Rattle.map_script.proofs.defining.are_free_names.Given as goal

-- all are free if those left are
abbrev pub invariant-loop-word : goal.invariant-loop-word
invariant-loop-word l = list_all is_free_name (text_words l.rest) ≡ list_all is_free_name (text_words l.text)

abbrev pub decreases-loop-word : goal.decreases-loop-word
decreases-loop-word l = length l.rest
