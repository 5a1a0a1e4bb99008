use Rattle.map_script.proofs.placed.+put_some.Given as goal

abbrev pub decreases-put_some : goal.decreases-put_some
decreases-put_some l = l.count
