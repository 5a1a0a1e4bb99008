use Rattle.std.proofs.Common.{◌≡◌, ℕ, ◌<◌, length, get_or}
use Rattle.tree_pieces.specs.declared.edge.Facing.TheVariants.{Along}
use Rattle.tree_pieces.specs.Plane.{ray}
use Rattle.tree_pieces.specs.Pieces.{edge_at}
use Rattle.tree_pieces.specs.LineAngles.{IsRayAngle}
use Rattle.tree_pieces.proofs.line_angles.angles_in.Given as goal

-- the angles of the lines so far
abbrev pub invariant-loop-edge : goal.invariant-loop-edge
invariant-loop-edge l = record {
  as_many : length l.angles.items ≡ l.edge-index;
  each : (line : ℕ) → line < l.edge-index → IsRayAngle (ray (edge_at l.fn.lines line) Along) (get_or l.angles.items line 0);
}
