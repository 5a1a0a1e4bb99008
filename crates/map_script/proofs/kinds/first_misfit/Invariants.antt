use Rattle.std.proofs.Common.{◌≡◌, length}
use Rattle.map_script.specs.Kinds.{first_misfit}
use Rattle.map_script.specs.Known.{scope_of}
use Rattle.map_script.specs.Words.{text_words}
use Rattle.map_script.proofs.kinds.first_misfit.Given as goal

-- the words so far fit
abbrev pub invariant-loop-word : goal.invariant-loop-word
invariant-loop-word l =
    first_misfit (scope_of l.names) l.places (text_words l.rest) ≡ first_misfit (scope_of l.fn.names) l.fn.places (text_words l.fn.command)

abbrev pub decreases-loop-word : goal.decreases-loop-word
decreases-loop-word l = length l.rest
