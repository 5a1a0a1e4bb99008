use Rattle.std.proofs.Common.{ap, rules, ◌∙◌, ◌++◌, FitsSigned}
use Rattle.std.specs.Int.{w16}
use Rattle.std.proofs.lemmas.Int.{to_z-of_z}
use Rattle.lump_records.specs.Fields.{signed, unsigned}
use Rattle.lump_records.specs.Records.{side_at, side_record}
use Rattle.lump_records.proofs.FieldBytes.{whole, plain}
use Rattle.lump_records.proofs.RecordBytes.{side_at-record}
use Rattle.lump_records.proofs.codec.side_bytes.Goals as goal

pub returns-clause-record : goal.returns-clause-record
returns-clause-record c =
    let s = c.args.side.now in
    let f0 : FitsSigned w16 s.x_offset = search rules in
    let f1 : FitsSigned w16 s.y_offset = search rules in
    whole 30 c.put_unsigned.new.bytes (search rules) ∙ c.put_unsigned.ensures.front
    ∙ ap (λ xs. xs ++ unsigned s.sector) (c.put_name-3.ensures.front
    ∙ ap (λ xs. xs ++ s.middle.bytes) (c.put_name-2.ensures.front
    ∙ ap (λ xs. xs ++ s.lower.bytes) (c.put_name.ensures.front
    ∙ ap (λ xs. xs ++ s.upper.bytes) (c.put_signed-2.ensures.front
    ∙ ap (λ xs. xs ++ signed (plain s.y_offset)) (c.put_signed.ensures.front)))))
    ∙ (λ i. side_record (record { x_offset = to_z-of_z w16 s.x_offset f0 i; y_offset = to_z-of_z w16 s.y_offset f1 i; upper = s.upper; lower = s.lower; middle = s.middle; sector = s.sector }))

pub returns-clause-inverse : goal.returns-clause-inverse
returns-clause-inverse c =
    ap side_at (returns-clause-record c) ∙ side_at-record c.args.side.now (search rules) (search rules) (search rules) (search rules) (search rules) c.put_unsigned.ensures.range
