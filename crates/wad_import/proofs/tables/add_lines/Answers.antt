use Rattle.std.proofs.Common.{◌≡◌, length, take, get_or, ap, ◌∙◌, arith}
use Rattle.std.proofs.lemmas.List.{length-take-le}
use Rattle.lump_records.specs.declared.records.Line.{Line}
use Rattle.map_tables.specs.Faults.{line_faults}
use Rattle.map_tables.specs.Outcomes.{least}
use Rattle.map_tables.specs.WellFormed.{HasEnds, HasSides}
use Rattle.map_tables.specs.Tables.{Tables}
use Rattle.wad_import.proofs.NextLemmas.{line_free, only_memory}
use Rattle.wad_import.proofs.tables.add_lines.Goals as goal

pub lack_of-requires : goal.lack_of-requires
lack_of-requires c =
    let m = c.loop-line.maps.tables in
    let so_far : m.lines ≡ take c.loop-line.line-index c.args.lines.now = ap (λ (t : Tables). t.lines) c.loop-line.invariant.tables in
    let more = c.loop-line-test.true in
    let count : length m.lines ≡ c.loop-line.line-index = ap length so_far ∙ length-take-le c.loop-line.line-index c.args.lines.now (omega (arith, more)) in
    let none : Line = record { v1 = 0; v2 = 0; flags = 0; special = 0; tag = 0; right = 0; left = 0 } in
    let s : Line = get_or c.args.lines.now c.loop-line.line-index none in
    let ends : HasEnds m.vertices s =
    rw (ap (λ (t : Tables). t.vertices) c.loop-line.invariant.tables) (c.requires.ends c.loop-line.line-index none more) in
    let sides : HasSides m.sides s =
    rw (ap (λ (t : Tables). t.sides) c.loop-line.invariant.tables) (c.requires.sides c.loop-line.line-index none more) in
    only_memory c.in-Err.error (least (line_faults m s)) _ _ (line_free m s ends sides (omega (arith, count, more))) c.in-Err.ensures.edit.0
