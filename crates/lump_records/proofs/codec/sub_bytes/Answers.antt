use Rattle.std.proofs.Common.{ap, rules, ◌∙◌, ◌++◌}
use Rattle.lump_records.specs.Fields.{unsigned}
use Rattle.lump_records.specs.Records.{sub_at}
use Rattle.lump_records.proofs.FieldBytes.{whole}
use Rattle.lump_records.proofs.RecordBytes.{sub_at-record}
use Rattle.lump_records.proofs.codec.sub_bytes.Goals as goal

pub returns-clause-record : goal.returns-clause-record
returns-clause-record c =
    let r = c.args.sub.now in
    whole 4 c.put_unsigned-2.new.bytes (search rules) ∙ c.put_unsigned-2.ensures.front
    ∙ ap (λ xs. xs ++ unsigned r.first) (c.put_unsigned.ensures.front)

pub returns-clause-inverse : goal.returns-clause-inverse
returns-clause-inverse c =
    ap sub_at (returns-clause-record c) ∙ sub_at-record c.args.sub.now c.put_unsigned.ensures.range c.put_unsigned-2.ensures.range
