-- The head and the tables are appended to the bytes.
use Rattle.std.proofs.Common.{◌≡◌, ◌∙◌, List, ℕ, ◌++◌, append_assoc, rules}
use Rattle.std.specs.Prelude.{flat_map}
use Rattle.lump_records.specs.Records.{thing_record, line_record, side_record, vertex_record, sector_record}
use Rattle.map_tables.specs.Parts.{part_head}
use Rattle.map_tables.proofs.map.Map.put_part.Goals as goal

joined : (z a p q r s t : List ℕ) → (((((z ++ a) ++ p) ++ q) ++ r) ++ s) ++ t ≡ z ++ (((((a ++ p) ++ q) ++ r) ++ s) ++ t)
joined z a p q r s t = simp append_assoc

pub returns-clause-bytes : goal.returns-clause-bytes
returns-clause-bytes c =
    let m = c.args.self.now.tables in
    let is : c.put_lump-5.new.bytes.items ≡ (((((c.args.bytes.now.items ++ part_head m)
    ++ flat_map thing_record m.things) ++ flat_map line_record m.lines) ++ flat_map side_record m.sides)
    ++ flat_map vertex_record m.vertices) ++ flat_map sector_record m.sectors = search rules in
    is ∙ joined c.args.bytes.now.items (part_head m) (flat_map thing_record m.things) (flat_map line_record m.lines)
    (flat_map side_record m.sides) (flat_map vertex_record m.vertices) (flat_map sector_record m.sectors)

pub returns-clause-well_formed : goal.returns-clause-well_formed
returns-clause-well_formed c = c.in_ok-put_head.ensures.well_formed
