use Rattle.map_plane.proofs.crossed.+mark.Given as goal

abbrev pub decreases-mark : goal.decreases-mark
decreases-mark l = l.room
