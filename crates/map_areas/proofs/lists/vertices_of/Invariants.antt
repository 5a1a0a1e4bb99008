use Rattle.std.proofs.Common.{◌≡◌, take}
use Rattle.map_areas.proofs.lists.vertices_of.Given as goal

-- the vertices so far
abbrev pub invariant-loop-n : goal.invariant-loop-n
invariant-loop-n l = l.vertices.items ≡ take l.n l.map.tables.vertices
