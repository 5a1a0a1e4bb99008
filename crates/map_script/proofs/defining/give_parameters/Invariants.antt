use Rattle.std.proofs.Common.{◌≡◌, length}
use Rattle.map_script.specs.Defines.{with_parameters}
use Rattle.map_script.specs.Known.{scope_of}
use Rattle.map_script.specs.Words.{text_words}
use Rattle.map_script.proofs.defining.give_parameters.Given as goal

-- the parameters so far, and then those left with the words left
abbrev pub invariant-loop-parameter : goal.invariant-loop-parameter
invariant-loop-parameter l =
    with_parameters (scope_of l.names) (text_words l.parameters) (text_words l.words)
    ≡ with_parameters (scope_of l.fn.names) (text_words l.fn.parameters) (text_words l.fn.words)

abbrev pub decreases-loop-parameter : goal.decreases-loop-parameter
decreases-loop-parameter l = length l.parameters
