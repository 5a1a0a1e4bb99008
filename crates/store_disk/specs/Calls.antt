-- What a record of calls in memory holds.
use Rattle.std.specs.Prelude.{ℕ, List, length, take, drop}
use Rattle.store_disk.specs.Medium.{Call}
use Rattle.store_disk.specs.Entries.{made_by, ranges_of}
use Rattle.store_disk.specs.declared.calls.Calls.{Calls}

-- the calls, the first of them first
abbrev pub calls_in : Calls → List Call
calls_in c = made_by (take c.count c.entries.items) (take c.used c.written.items)

-- the ranges written since the last sync among them
abbrev pub ranges_in : Calls → List (ℕ × ℕ)
ranges_in c = ranges_of (drop c.since (take c.count c.entries.items))

-- the size of the record, in bytes
abbrev pub record_room : Calls → ℕ
record_room c = length c.written.items
