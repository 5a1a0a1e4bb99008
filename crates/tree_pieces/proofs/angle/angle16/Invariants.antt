use Rattle.std.proofs.Common.{ℕ, ◌+◌, ◌*◌, ◌-◌, ◌^◌, ◌<◌, ◌≤◌}
use Rattle.tree_pieces.specs.Angle.{HasTurns, IsAngle, IsIn62Bits}
use Rattle.tree_pieces.proofs.angle.angle16.Given as goal

-- the turns that are left complete the bits found so far to the angle
abbrev pub invariant-loop-left : goal.invariant-loop-left
invariant-loop-left l = record {
  few : l.left ≤ 16;
  below : l.angle < 2 ^ (16 - l.left);
  x_small : IsIn62Bits l.vector.x;
  y_small : IsIn62Bits l.vector.y;
  completes : (rest : ℕ) → HasTurns l.left l.vector.x l.vector.y rest → IsAngle l.x l.y (l.angle * 2 ^ l.left + rest);
}

abbrev pub decreases-loop-left : goal.decreases-loop-left
decreases-loop-left l = l.left
