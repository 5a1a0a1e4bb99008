use Rattle.std.proofs.Common.{◌≡◌, take}
use Rattle.map_plane.specs.Nearest.{nearest}
use Rattle.map_plane.specs.Places.{placed_lines}
use Rattle.map_plane.proofs.east.sector_at.Given as goal

-- the nearest so far
abbrev pub invariant-loop-n : goal.invariant-loop-n
invariant-loop-n l = l.best ≡ nearest (take l.n (placed_lines l.map.tables)) l.place
