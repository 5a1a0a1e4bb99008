use Rattle.std.proofs.Common.{refl}
use Rattle.run_edit.proofs.recovery.build_maps.Goals as goal

pub returns-in-Err : goal.returns-in-Err
returns-in-Err c = (c.in-Err.error, refl, c.in-Err.ensures.refused)
