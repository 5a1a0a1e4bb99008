use Rattle.std.proofs.Common.{◌≡◌, ◌*◌, take, length, map}
use Rattle.std.specs.Prelude.{flat_map}
use Rattle.std.specs.Simd.{first_chunks}
use Rattle.lump_records.proofs.lists.encode.Given as goal

abbrev pub invariant-loop-record : goal.invariant-loop-record
invariant-loop-record g l = record {
  bytes : l.bytes.items ≡ flat_map g.R.Record.bytes_of (take l.record-index l.records);
  len : length l.bytes.items ≡ l.record-index * g.row.N;
  inverse : map g.R.Record.value_at (first_chunks g.row.N l.record-index l.bytes.items) ≡ take l.record-index l.records;
}
