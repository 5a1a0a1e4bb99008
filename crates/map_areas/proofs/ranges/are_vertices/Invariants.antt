use Rattle.std.proofs.Common.{take}
use Rattle.std.specs.Prelude.{All}
use Rattle.map_tables.specs.Ranges.{IsVertex}
use Rattle.map_areas.proofs.ranges.are_vertices.Given as goal

-- the vertices so far are in range
abbrev pub invariant-loop-vertex : goal.invariant-loop-vertex
invariant-loop-vertex l = All IsVertex (take l.vertex-index l.vertices)
