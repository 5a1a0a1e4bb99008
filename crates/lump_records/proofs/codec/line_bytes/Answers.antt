use Rattle.std.proofs.Common.{ap, rules, ◌∙◌, ◌++◌}
use Rattle.lump_records.specs.Fields.{unsigned}
use Rattle.lump_records.specs.Records.{line_at}
use Rattle.lump_records.proofs.FieldBytes.{whole}
use Rattle.lump_records.proofs.RecordBytes.{line_at-record}
use Rattle.lump_records.proofs.codec.line_bytes.Goals as goal

pub returns-clause-record : goal.returns-clause-record
returns-clause-record c =
    let r = c.args.line.now in
    whole 14 c.put_unsigned-7.new.bytes (search rules) ∙ c.put_unsigned-7.ensures.front
    ∙ ap (λ xs. xs ++ unsigned r.left) (c.put_unsigned-6.ensures.front
    ∙ ap (λ xs. xs ++ unsigned r.right) (c.put_unsigned-5.ensures.front
    ∙ ap (λ xs. xs ++ unsigned r.tag) (c.put_unsigned-4.ensures.front
    ∙ ap (λ xs. xs ++ unsigned r.special) (c.put_unsigned-3.ensures.front
    ∙ ap (λ xs. xs ++ unsigned r.flags) (c.put_unsigned-2.ensures.front
    ∙ ap (λ xs. xs ++ unsigned r.v2) (c.put_unsigned.ensures.front))))))

pub returns-clause-inverse : goal.returns-clause-inverse
returns-clause-inverse c =
    ap line_at (returns-clause-record c)
    ∙ line_at-record c.args.line.now c.put_unsigned.ensures.range c.put_unsigned-2.ensures.range c.put_unsigned-3.ensures.range c.put_unsigned-4.ensures.range c.put_unsigned-5.ensures.range c.put_unsigned-6.ensures.range c.put_unsigned-7.ensures.range
