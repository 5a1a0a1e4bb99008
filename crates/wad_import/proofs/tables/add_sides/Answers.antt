use Rattle.std.proofs.Common.{◌≡◌, ◌<◌, pos, [], length, take, get_or, ap, ◌∙◌, arith}
use Rattle.std.proofs.lemmas.List.{length-take-le}
use Rattle.lump_records.specs.declared.records.Side.{Side}
use Rattle.map_tables.specs.Faults.{side_faults}
use Rattle.map_tables.specs.Outcomes.{least}
use Rattle.map_tables.specs.Tables.{Tables}
use Rattle.wad_import.proofs.NextLemmas.{side_free, only_memory}
use Rattle.wad_import.proofs.tables.add_sides.Goals as goal

pub lack_of-requires : goal.lack_of-requires
lack_of-requires c =
    let m = c.loop-side.maps.tables in
    let so_far : m.sides ≡ take c.loop-side.side-index c.args.sides.now = ap (λ (t : Tables). t.sides) c.loop-side.invariant.tables in
    let more = c.loop-side-test.true in
    let count : length m.sides ≡ c.loop-side.side-index = ap length so_far ∙ length-take-le c.loop-side.side-index c.args.sides.now (omega (arith, more)) in
    let none : Side = record { x_offset = pos 0; y_offset = pos 0; upper = record { bytes = [] }; lower = record { bytes = [] }; middle = record { bytes = [] }; sector = 0 } in
    let s : Side = get_or c.args.sides.now c.loop-side.side-index none in
    let within : s.sector < length m.sectors =
    rw (ap (λ (t : Tables). t.sectors) c.loop-side.invariant.tables) (c.requires.sectors c.loop-side.side-index none more) in
    only_memory c.in-Err.error (least (side_faults m s)) _ _ (side_free m s within (omega (arith, count, more))) c.in-Err.ensures.edit.0
