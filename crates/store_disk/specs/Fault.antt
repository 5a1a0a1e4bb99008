-- A disk with one injected fault: what it shows, and what each of its calls does.
use Rattle.std.specs.Prelude.{◌≡◌, ◌≢◌, ◌⊎◌, ◌-◌, if◌then◌else◌, ℕ, List, Result, IsErr, length}
use Rattle.store_disk.specs.Files.{Failed, Torn, Written}
use Rattle.store_disk.specs.Stops.{Counted, Follows, Rose}
use Rattle.store_disk.specs.declared.disk.Disk.{Ghosts}
use Rattle.store_disk.specs.declared.fault.FaultDisk.{FaultDisk}

-- the inner disk
abbrev pub inner_of : {D : Type 0} → FaultDisk D → D
inner_of disk = disk.inner

-- how many calls are left, counting the one that fails; 0 if none fails any more
abbrev pub calls_left : {D : Type 0} → FaultDisk D → ℕ
calls_left disk = disk.countdown.left

-- how many bytes of the failing write are written
abbrev pub part_of : {D : Type 0} → FaultDisk D → ℕ
part_of disk = disk.countdown.part

-- 1 if the injected fault has happened and the inner disk did not fail in that call, else 0
abbrev pub own_failures : {D : Type 0} → FaultDisk D → ℕ
own_failures disk = if disk.countdown.failed then 1 else 0

-- The call fails if the countdown is at 1. Any other call returns what the inner disk returns.
pub record IsCounted {D T E : Type 0} (facts : Ghosts D) (old new : FaultDisk D)
    (result : Result T E) : Type 0 where
  pub left : calls_left new ≡ calls_left old - 1
  pub part : part_of new ≡ part_of old
  pub fails : calls_left old ≡ 1 → IsErr result
  pub passes : calls_left old ≢ 1 → Counted (facts.failures (inner_of old))
      (facts.failures (inner_of new)) result

-- The bytes are written to the inner disk, unless it fails itself; a stop leaves a torn write of them.
pub record PutsDown {D : Type 0} (facts : Ghosts D) (at : ℕ) (bytes : List ℕ) (old new : D) :
    Type 0 where
  pub down : Follows (Written at bytes) (facts.reads old) (facts.reads new)
      ⊎ (Rose (facts.failures old) (facts.failures new)
      × Follows (Failed at (length bytes)) (facts.reads old) (facts.reads new))
  pub images : Follows (Torn at (length bytes)) (facts.may_leave old) (facts.may_leave new)
