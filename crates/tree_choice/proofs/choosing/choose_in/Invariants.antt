use Rattle.tree_choice.specs.SoFar.{SoFar, no_bound}
use Rattle.tree_choice.proofs.choosing.choose_in.Given as goal

abbrev pub invariant-loop-at : goal.invariant-loop-at
invariant-loop-at l = SoFar l.lines l.pieces l.used no_bound l.at l.best
