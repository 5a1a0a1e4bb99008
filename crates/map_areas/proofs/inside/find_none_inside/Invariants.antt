use Rattle.std.proofs.Common.{ℕ, ◌<◌}
use Rattle.map_areas.specs.Inside.{IsPartInside}
use Rattle.map_areas.proofs.inside.find_none_inside.Given as goal

-- no part of the lines so far lies inside
abbrev pub invariant-loop-n : goal.invariant-loop-n
invariant-loop-n l = (k : ℕ) → k < l.n → IsPartInside l.map.tables l.border.edges.items l.border.doubled.items k → ⊥
