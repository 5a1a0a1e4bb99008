use Rattle.tree_choice.proofs.straight.common_measure.Given as goal

abbrev pub decreases-loop-b : goal.decreases-loop-b
decreases-loop-b l = l.b
