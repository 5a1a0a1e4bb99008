use Rattle.std.proofs.Common.{◌++◌}
use Rattle.run_edit.proofs.DeedCalls.{done_calls, go_parted}
use Rattle.run_edit.proofs.recovery.sessions_hold_runs.Goals as goal

pub returns : goal.returns
returns g c first deeds front back last done =
    let all = done_calls g.D.Disk deeds (front ++ back) first last done in
    go_parted g.D.Disk front back first last all
