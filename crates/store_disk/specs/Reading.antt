-- A run of calls that only reads.
use Rattle.store_disk.specs.Moments.{LeavesOnly}
use Rattle.store_disk.specs.Stops.{Each}
use Rattle.store_disk.specs.declared.disk.Disk.{Ghosts}

-- what reads return stays, and what a stop may leave stays: nothing is added and nothing removed
pub record OnlyReads {D : Type 0} (facts : Ghosts D) (old new : D) : Type 0 where
  pub no_other : Each (facts.reads new) (facts.reads old)
  pub still : Each (facts.reads old) (facts.reads new)
  pub images : Each (facts.may_leave new) (facts.may_leave old)
  pub kept : Each (facts.may_leave old) (facts.may_leave new)
  pub any_moment : LeavesOnly facts old new (facts.may_leave old)
