use Rattle.std.proofs.Common.{ap, rules, ◌∙◌, ◌++◌, FitsSigned}
use Rattle.std.specs.Int.{w16}
use Rattle.std.proofs.lemmas.Int.{to_z-of_z}
use Rattle.lump_records.specs.Fields.{signed}
use Rattle.lump_records.specs.Records.{vertex_at, vertex_record}
use Rattle.lump_records.proofs.FieldBytes.{whole, plain}
use Rattle.lump_records.proofs.RecordBytes.{vertex_at-record}
use Rattle.lump_records.proofs.codec.vertex_bytes.Goals as goal

pub returns-clause-record : goal.returns-clause-record
returns-clause-record c =
    let v = c.args.vertex.now in
    let f0 : FitsSigned w16 v.x = search rules in
    let f1 : FitsSigned w16 v.y = search rules in
    whole 4 c.put_signed-2.new.bytes (search rules) ∙ c.put_signed-2.ensures.front
    ∙ ap (λ xs. xs ++ signed (plain v.y)) (c.put_signed.ensures.front)
    ∙ (λ i. vertex_record (record { x = to_z-of_z w16 v.x f0 i; y = to_z-of_z w16 v.y f1 i }))

pub returns-clause-inverse : goal.returns-clause-inverse
returns-clause-inverse c = ap vertex_at (returns-clause-record c) ∙ vertex_at-record c.args.vertex.now (search rules) (search rules)
