use Rattle.std.proofs.Common.{ap, rules, ◌∙◌, ◌++◌, FitsSigned}
use Rattle.std.specs.Int.{w16}
use Rattle.std.proofs.lemmas.Int.{to_z-of_z}
use Rattle.lump_records.specs.Fields.{signed}
use Rattle.lump_records.specs.Records.{sector_at, sector_record}
use Rattle.lump_records.proofs.FieldBytes.{whole, plain}
use Rattle.lump_records.proofs.RecordBytes.{sector_at-record}
use Rattle.lump_records.proofs.codec.sector_bytes.Goals as goal

pub returns-clause-record : goal.returns-clause-record
returns-clause-record c =
    let s = c.args.sector.now in
    let f0 : FitsSigned w16 s.floor = search rules in
    let f1 : FitsSigned w16 s.ceiling = search rules in
    let f4 : FitsSigned w16 s.light = search rules in
    let f5 : FitsSigned w16 s.special = search rules in
    let f6 : FitsSigned w16 s.tag = search rules in
    whole 26 c.put_signed-5.new.bytes (search rules) ∙ c.put_signed-5.ensures.front
    ∙ ap (λ xs. xs ++ signed (plain s.tag)) (c.put_signed-4.ensures.front
    ∙ ap (λ xs. xs ++ signed (plain s.special)) (c.put_signed-3.ensures.front
    ∙ ap (λ xs. xs ++ signed (plain s.light)) (c.put_name-2.ensures.front
    ∙ ap (λ xs. xs ++ s.ceiling_name.bytes) (c.put_name.ensures.front
    ∙ ap (λ xs. xs ++ s.floor_name.bytes) (c.put_signed-2.ensures.front
    ∙ ap (λ xs. xs ++ signed (plain s.ceiling)) (c.put_signed.ensures.front))))))
    ∙ (λ i. sector_record (record {
      floor = to_z-of_z w16 s.floor f0 i;
      ceiling = to_z-of_z w16 s.ceiling f1 i;
      floor_name = s.floor_name;
      ceiling_name = s.ceiling_name;
      light = to_z-of_z w16 s.light f4 i;
      special =
          to_z-of_z w16 s.special f5 i;
      tag = to_z-of_z w16 s.tag f6 i;
    }))

pub returns-clause-inverse : goal.returns-clause-inverse
returns-clause-inverse c = ap sector_at (returns-clause-record c)
    ∙ sector_at-record c.args.sector.now (search rules) (search rules) (search rules) (search rules) (search rules)
    (search rules) (search rules)
