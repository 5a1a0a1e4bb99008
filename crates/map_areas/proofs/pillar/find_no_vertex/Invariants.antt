use Rattle.std.proofs.Common.{ℕ, ◌<◌}
use Rattle.map_areas.specs.Refusals.{IsVertexUnder}
use Rattle.map_areas.proofs.pillar.find_no_vertex.Given as goal

-- none of the vertices so far lies under an edge
abbrev pub invariant-loop-n : goal.invariant-loop-n
invariant-loop-n l = (k : ℕ) → k < l.n → IsVertexUnder l.map.tables l.edges k → ⊥
