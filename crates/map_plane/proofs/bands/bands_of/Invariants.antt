use Rattle.std.proofs.Common.{take}
use Rattle.map_plane.specs.Bands.{AreBands}
use Rattle.map_plane.proofs.bands.bands_of.Given as goal

-- the lines so far are in their bands
abbrev pub invariant-loop-line : goal.invariant-loop-line
invariant-loop-line l = AreBands (take l.line-index l.lines) l.bands.items
