use Rattle.store_disk.proofs.Outcomes.{on_err_any}
use Rattle.store_disk.proofs.fault.FaultDiskDisk.write_at.Goals as goal

pub returns-then-is_next-clause-failed : goal.returns-then-is_next-clause-failed
returns-then-is_next-clause-failed g c = on_err_any c.put_down.result c.put_down.ensures.failed
