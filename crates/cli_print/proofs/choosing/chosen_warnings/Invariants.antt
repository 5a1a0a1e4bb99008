-- Of the warnings so far those whose lines are asked for.
use Rattle.std.specs.Prelude.{◌≡◌, take}
use Rattle.cli_print.specs.Choosing.{choice_view, chosen_warnings}
use Rattle.cli_print.proofs.choosing.chosen_warnings.Given as goal

abbrev pub invariant-loop-warning : goal.invariant-loop-warning
invariant-loop-warning l = l.chosen.items ≡ chosen_warnings (choice_view l.choice) (take l.warning-index l.warned)
