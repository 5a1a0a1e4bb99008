use Rattle.std.proofs.Common.{◌≡◌, ◌≤◌, map}
use Rattle.std.specs.List.{range_with_len}
use Rattle.store_disk.specs.Fill.{left_at, unsynced_before}
use Rattle.store_disk.specs.FixedFile.{bytes_of, most_of}
use Rattle.store_disk.specs.Memory.{medium_of, memory_room}
use Rattle.store_disk.proofs.memory.MemoryDisk.image.Given as goal

abbrev pub invariant-loop-place : goal.invariant-loop-place
invariant-loop-place l = record {
  bytes : bytes_of l.image ≡ map (left_at (medium_of l.self) l.fill) (range_with_len 0 l.place);
  before : l.before ≡ unsynced_before (medium_of l.self) l.place;
  few : l.before ≤ l.place;
  most : most_of l.image ≡ memory_room l.self;
}
