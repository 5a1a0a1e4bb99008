use Rattle.std.proofs.Common.{◌≡◌, take, map}
use Rattle.std.specs.Prelude.{flat_map}
use Rattle.lump_records.proofs.lists.decode.Given as goal

abbrev pub invariant-loop-chunk : goal.invariant-loop-chunk
invariant-loop-chunk g l = record {
  read : l.records.items ≡ map g.R.Record.value_at (take l.chunk-index l.chunks);
  whole : flat_map g.R.Record.bytes_of l.records.items ≡ flat_map (λ chunk. chunk) (take l.chunk-index l.chunks);
}
