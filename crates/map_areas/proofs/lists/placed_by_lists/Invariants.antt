use Rattle.std.proofs.Common.{◌≡◌, map, take}
use Rattle.std.specs.List.{enumerate_from}
use Rattle.map_plane.specs.Places.{placed}
use Rattle.map_areas.proofs.lists.placed_by_lists.Given as goal

-- the lines so far
abbrev pub invariant-loop-n : goal.invariant-loop-n
invariant-loop-n l = l.placed.items ≡ map (placed l.map.tables) (take l.n (enumerate_from 0 l.map.tables.lines))
