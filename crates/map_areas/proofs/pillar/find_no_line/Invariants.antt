use Rattle.std.proofs.Common.{ℕ, ◌<◌}
use Rattle.map_areas.specs.Refusals.{IsLineInside}
use Rattle.map_areas.proofs.pillar.find_no_line.Given as goal

-- the lines so far are wholly outside
abbrev pub invariant-loop-n : goal.invariant-loop-n
invariant-loop-n l = (k : ℕ) → k < l.n → IsLineInside l.map.tables l.edges k → ⊥
