-- The entries so far are appended.
use Rattle.std.specs.Prelude.{◌≡◌, ◌++◌, flat_map, take}
use Rattle.wad_file.specs.Lumps.{entry_bytes}
use Rattle.wad_file.proofs.writer.put_entries.Given as goal

abbrev pub invariant-loop-entry : goal.invariant-loop-entry
invariant-loop-entry l = l.bytes.items ≡ l.initial.bytes.items ++ flat_map entry_bytes (take l.entry-index l.entries)
