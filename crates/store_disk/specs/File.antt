-- A real file, whose bytes contracts can't see.
use Rattle.std.specs.Prelude.{ℕ}
use Rattle.store_disk.specs.declared.file.FileDisk.{FileDisk}

-- how many of its calls have failed
abbrev pub file_failures : {F : Type 0} → FileDisk F → ℕ
file_failures disk = disk.failures
