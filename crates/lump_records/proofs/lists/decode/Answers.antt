use Rattle.std.proofs.Common.{◌≡◌, ◌∙◌, ap, ℕ, List, ◌*◌, ◌/◌, length, arith, map}
use Rattle.std.proofs.lemmas.Grind.{common_steps}
use Rattle.std.proofs.lemmas.List.{take_all}
use Rattle.lump_records.proofs.Chunks.{flat_map-all, flat_maps-more, map-more}
use Rattle.lump_records.proofs.lists.decode.Goals as goal

pub loop-chunk-preserved : goal.loop-chunk-preserved
loop-chunk-preserved g c =
    let inv = c.loop-chunk.invariant in
    let i = c.loop-chunk.chunk-index in
    let below = c.loop-chunk-test.true in
    let item = c.chunk-item in
    let items = c.in_ok-push.ensures.items in
    record {
      read = map-more c.as_chunks.result.0.now i item.result item.result item.is below g.R.Record.value_at c.loop-chunk.records.items c.push.new.self.items c.from_bytes.result items c.from_bytes.ensures.value inv.read;
      whole = flat_maps-more c.as_chunks.result.0.now i item.result item.result item.is below g.R.Record.bytes_of
          (λ (chunk : List ℕ).
          chunk) c.loop-chunk.records.items c.push.new.self.items c.from_bytes.result items c.from_bytes.ensures.inverse inv.whole;
    }

pub returns-clause-records : goal.returns-clause-records
returns-clause-records g c =
    c.loop-chunk.invariant.read
    ∙ ap (map g.R.Record.value_at) (take_all _ _ c.loop-chunk-test.false ∙ c.as_chunks.ensures.front)

pub returns-clause-bytes : goal.returns-clause-bytes
returns-clause-bytes g c =
    let bytes = c.args.bytes.now in
    let whole : length bytes / g.row.N * g.row.N ≡ length bytes = grind (arith, common_steps, c.if-not-is_empty.ensures, c.is_empty.ensures) in
    c.loop-chunk.invariant.whole
    ∙ flat_map-all g.row.N (length bytes / g.row.N) c.loop-chunk.chunk-index bytes c.as_chunks.result.0.now c.as_chunks.ensures.front c.loop-chunk-test.false whole
