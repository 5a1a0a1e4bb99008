-- A disk in memory: what contracts see of it, and what its calls change.
use Rattle.std.specs.Prelude.{◌≡◌, ℕ, List, [], ◌++◌}
use Rattle.store_disk.specs.Medium.{Call, Medium, settled, after_calls}
use Rattle.store_disk.specs.FixedFile.{bytes_of, most_of}
use Rattle.store_disk.specs.Calls.{calls_in, record_room}
use Rattle.store_disk.specs.declared.memory.MemoryDisk.{MemoryDisk}

-- what the disk held before the first call in its record
abbrev pub first_medium : MemoryDisk → Medium
first_medium d = settled (bytes_of d.first)

-- the successful calls in its record
abbrev pub calls_of : MemoryDisk → List Call
calls_of d = calls_in d.calls

-- what the disk holds
abbrev pub medium_of : MemoryDisk → Medium
medium_of d = after_calls (first_medium d) (calls_of d)

-- how many bytes its file may have
abbrev pub memory_room : MemoryDisk → ℕ
memory_room d = most_of d.file

-- how many bytes its record may have
abbrev pub log_of : MemoryDisk → ℕ
log_of d = record_room d.calls

-- how many of its calls have failed
abbrev pub memory_failures : MemoryDisk → ℕ
memory_failures d = d.failures

-- the record has these further calls at its end; the sizes of the file's room and of the record stay
pub record Goes (calls : List Call) (old new : MemoryDisk) : Type 0 where
  pub first : first_medium new ≡ first_medium old
  pub calls_are : calls_of new ≡ calls_of old ++ calls
  pub room : memory_room new ≡ memory_room old
  pub log : log_of new ≡ log_of old

-- the disk holds this file, fully synced, has an empty record, and has counted no failure
pub record Begins (file : List ℕ) (room log : ℕ) (d : MemoryDisk) : Type 0 where
  pub holds : medium_of d ≡ settled file
  pub calls_are : calls_of d ≡ []
  pub room_is : memory_room d ≡ room
  pub log_is : log_of d ≡ log
  pub failures_are : memory_failures d ≡ 0
