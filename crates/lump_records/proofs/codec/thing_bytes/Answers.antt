use Rattle.std.proofs.Common.{ap, rules, ◌∙◌, ◌++◌, FitsSigned}
use Rattle.std.specs.Int.{w16}
use Rattle.std.proofs.lemmas.Int.{to_z-of_z}
use Rattle.lump_records.specs.Fields.{signed}
use Rattle.lump_records.specs.Records.{thing_at, thing_record}
use Rattle.lump_records.proofs.FieldBytes.{whole, plain}
use Rattle.lump_records.proofs.RecordBytes.{thing_at-record}
use Rattle.lump_records.proofs.codec.thing_bytes.Goals as goal

pub returns-clause-record : goal.returns-clause-record
returns-clause-record c =
    let t = c.args.thing.now in
    let f0 : FitsSigned w16 t.x = search rules in
    let f1 : FitsSigned w16 t.y = search rules in
    let f2 : FitsSigned w16 t.angle = search rules in
    let f3 : FitsSigned w16 t.kind = search rules in
    let f4 : FitsSigned w16 t.options = search rules in
    whole 10 c.put_signed-5.new.bytes (search rules) ∙ c.put_signed-5.ensures.front
    ∙ ap (λ xs. xs ++ signed (plain t.options)) (c.put_signed-4.ensures.front
    ∙ ap (λ xs. xs ++ signed (plain t.kind)) (c.put_signed-3.ensures.front
    ∙ ap (λ xs. xs ++ signed (plain t.angle)) (c.put_signed-2.ensures.front
    ∙ ap (λ xs. xs ++ signed (plain t.y)) (c.put_signed.ensures.front))))
    ∙ (λ i. thing_record (record {
      x = to_z-of_z w16 t.x f0 i;
      y = to_z-of_z w16 t.y f1 i;
      angle =
          to_z-of_z w16 t.angle f2 i;
      kind = to_z-of_z w16 t.kind f3 i;
      options = to_z-of_z w16 t.options f4 i;
    }))

pub returns-clause-inverse : goal.returns-clause-inverse
returns-clause-inverse c = ap thing_at (returns-clause-record c) ∙ thing_at-record c.args.thing.now (search rules) (search rules) (search rules) (search rules) (search rules)
