use Rattle.map_plane.proofs.FilingSteps.{FiledTo}
use Rattle.map_plane.proofs.bands.file_line.Given as goal

-- the line was added to the bands so far
abbrev pub invariant-loop-band : goal.invariant-loop-band
invariant-loop-band l = FiledTo l.line l.band l.initial.bands l.bands
