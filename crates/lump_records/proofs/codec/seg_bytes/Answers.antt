use Rattle.std.proofs.Common.{ap, rules, ◌∙◌, ◌++◌}
use Rattle.lump_records.specs.Fields.{unsigned}
use Rattle.lump_records.specs.Records.{seg_at}
use Rattle.lump_records.proofs.FieldBytes.{whole}
use Rattle.lump_records.proofs.RecordBytes.{seg_at-record}
use Rattle.lump_records.proofs.codec.seg_bytes.Goals as goal

pub returns-clause-record : goal.returns-clause-record
returns-clause-record c =
    let r = c.args.seg.now in
    whole 12 c.put_unsigned-6.new.bytes (search rules) ∙ c.put_unsigned-6.ensures.front
    ∙ ap (λ xs. xs ++ unsigned r.offset) (c.put_unsigned-5.ensures.front
    ∙ ap (λ xs. xs ++ unsigned r.side) (c.put_unsigned-4.ensures.front
    ∙ ap (λ xs. xs ++ unsigned r.line) (c.put_unsigned-3.ensures.front
    ∙ ap (λ xs. xs ++ unsigned r.angle) (c.put_unsigned-2.ensures.front
    ∙ ap (λ xs. xs ++ unsigned r.second) (c.put_unsigned.ensures.front)))))

pub returns-clause-inverse : goal.returns-clause-inverse
returns-clause-inverse c =
    ap seg_at (returns-clause-record c)
    ∙ seg_at-record c.args.seg.now c.put_unsigned.ensures.range c.put_unsigned-2.ensures.range c.put_unsigned-3.ensures.range c.put_unsigned-4.ensures.range c.put_unsigned-5.ensures.range c.put_unsigned-6.ensures.range
