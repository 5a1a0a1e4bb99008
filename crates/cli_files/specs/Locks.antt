-- How a file is locked against other programs.
use Rattle.std.specs.Prelude.{◌≡◌, Bool, Result, Ok, Err}
use Rattle.std.specs.declared.fs.TryLockError.{TryLockError}
use Rattle.std.specs.declared.fs.TryLockError.TheVariants.{Error, WouldBlock}
use Rattle.cli_files.specs.declared.cause.Cause.{Cause}
use Rattle.cli_files.specs.declared.cause.Cause.TheVariants.{Held}

-- what an answer means: a file system without locks refuses none, and another program may have it
abbrev pub lock_end : Result (Unit {0}) TryLockError → Result (Unit {0}) Cause
lock_end (Ok u) = Ok u
lock_end (Err (Error error)) = Ok tt
lock_end (Err WouldBlock) = Err Held

-- a lock of the file was tried, exclusive where it is true, and this is what its answer means
abbrev pub IsLocked : {F : Type 0} → (F → Bool → Result (Unit {0}) TryLockError → Type 0) → F → Bool
    → Result (Unit {0}) Cause → Type 0
IsLocked locks file alone how =
    (answer : Result (Unit {0}) TryLockError) × locks file alone answer × (how ≡ lock_end answer)
