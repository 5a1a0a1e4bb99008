use Rattle.map_script.proofs.sums.+sum_value.Given as goal

abbrev pub decreases-sum_value : goal.decreases-sum_value
decreases-sum_value l = l.depth
