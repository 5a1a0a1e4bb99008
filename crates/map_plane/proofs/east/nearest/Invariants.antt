use Rattle.std.proofs.Common.{◌≡◌, take}
use Rattle.map_plane.specs.Nearest.{nearest}
use Rattle.map_plane.proofs.east.nearest.Given as goal

-- the nearest so far
abbrev pub invariant-loop-line : goal.invariant-loop-line
invariant-loop-line l = l.best ≡ nearest (take l.line-index l.lines) l.place
