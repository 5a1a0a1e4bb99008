use Rattle.map_script.proofs.kinds.+sum_kind.Given as goal

abbrev pub decreases-sum_kind : goal.decreases-sum_kind
decreases-sum_kind l = l.depth
