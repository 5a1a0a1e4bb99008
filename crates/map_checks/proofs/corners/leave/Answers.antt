use Rattle.map_checks.proofs.CornerSteps.{leaves_step}
use Rattle.map_checks.proofs.corners.leave.Goals as goal

pub returns : goal.returns
returns c = leaves_step _ _ _ _ c.degrees_at-at.ensures c.in_ok-insert.ensures.updates
