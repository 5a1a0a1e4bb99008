use Rattle.map_checks.proofs.CornerSteps.{reaches_step}
use Rattle.map_checks.proofs.corners.reach.Goals as goal

pub returns : goal.returns
returns c = reaches_step _ _ _ _ c.degrees_at-at.ensures c.in_ok-insert.ensures.updates
