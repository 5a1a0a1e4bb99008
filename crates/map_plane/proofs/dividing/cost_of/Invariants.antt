use Rattle.std.proofs.Common.{◌≤◌}
use Rattle.map_plane.proofs.dividing.cost_of.Given as goal

-- no more were counted than looked at
abbrev pub invariant-loop-sample : goal.invariant-loop-sample
invariant-loop-sample l = (l.right ≤ l._sample) × (l.left ≤ l._sample)
