use Rattle.std.proofs.Common.{◌≡◌, map, take}
use Rattle.std.specs.List.{enumerate_from}
use Rattle.map_areas.specs.Outlines.{edge_from}
use Rattle.map_areas.proofs.polygon.outline_edges.Given as goal

-- the edges so far
abbrev pub invariant-loop-n : goal.invariant-loop-n
invariant-loop-n l = l.edges.items ≡ map (edge_from l.corners) (take l.n (enumerate_from 0 l.corners))
