use Rattle.std.proofs.Common.{flat_map, take}
use Rattle.map_checks.specs.Corners.{edges_of_line}
use Rattle.map_checks.specs.Tallies.{IsTally}
use Rattle.map_checks.proofs.corners.count_edges.Given as goal

abbrev pub invariant-loop-n : goal.invariant-loop-n
invariant-loop-n l = IsTally (flat_map (edges_of_line l.map.tables) (take l.n l.map.tables.lines)) l.degrees
