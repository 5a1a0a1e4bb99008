use Rattle.std.proofs.Common.{◌≡◌, ◌∙◌, ap, ℕ, ◌/◌, length, map, rules}
use Rattle.std.specs.Simd.{first_chunks}
use Rattle.std.proofs.Math.Nat.{mul-div_cancel}
use Rattle.std.proofs.lemmas.List.{take_all}
use Rattle.lump_records.proofs.Chunks.{chunks-more, flat_map-more, length-more}
use Rattle.lump_records.proofs.lists.encode.Goals as goal

pub loop-record-preserved : goal.loop-record-preserved
loop-record-preserved g c =
    let inv = c.loop-record.invariant in
    let i = c.loop-record.record-index in
    let bytes = c.loop-record.bytes.items in
    let new = c.extend_from_slice.new.self.items in
    let field = c.to_bytes.result in
    let items = c.in_ok-extend_from_slice.ensures.items in
    let width : length field ≡ g.row.N = search rules in
    record {
      bytes = flat_map-more c.args.records.now i c.record-item.result c.record-item.result c.record-item.is c.loop-record-test.true g.R.Record.bytes_of bytes new field items c.to_bytes.ensures.bytes inv.bytes;
      len = length-more g.row.N i bytes new field items inv.len width;
      inverse =
          chunks-more g.R.Record.value_at g.row.N i bytes new field c.args.records.now c.record-item.result items inv.len width inv.inverse c.to_bytes.ensures.inverse c.record-item.is c.loop-record-test.true;
    }

pub returns-clause-inverse : goal.returns-clause-inverse
returns-clause-inverse g c =
    let inv = c.loop-record.invariant in
    let count : length c.loop-record.bytes.items / g.row.N ≡ c.loop-record.record-index = ap (λ (m : ℕ). m / g.row.N) inv.len ∙ mul-div_cancel c.loop-record.record-index c.requires.width in
    ap (λ (k : ℕ). map g.R.Record.value_at (first_chunks g.row.N k c.loop-record.bytes.items)) count
    ∙ inv.inverse ∙ take_all _ _ c.loop-record-test.false
