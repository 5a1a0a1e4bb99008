use Rattle.std.proofs.Common.{◌≡◌, length, take, ap, ◌∙◌, arith}
use Rattle.std.proofs.lemmas.List.{length-take-le}
use Rattle.map_tables.specs.Faults.{sector_faults}
use Rattle.map_tables.specs.Outcomes.{least}
use Rattle.map_tables.specs.Tables.{Tables}
use Rattle.wad_import.proofs.NextLemmas.{sector_free, only_memory}
use Rattle.wad_import.proofs.tables.add_sectors.Goals as goal

pub lack_of-requires : goal.lack_of-requires
lack_of-requires c =
    let m = c.loop-sector.maps.tables in
    let so_far : m.sectors ≡ take c.loop-sector.sector-index c.args.sectors.now = ap (λ (t : Tables). t.sectors) c.loop-sector.invariant.tables in
    let more = c.loop-sector-test.true in
    let count : length m.sectors ≡ c.loop-sector.sector-index = ap length so_far ∙ length-take-le c.loop-sector.sector-index c.args.sectors.now (omega (arith, more)) in
    only_memory c.in-Err.error (least (sector_faults m)) _ _ (sector_free m (omega (arith, count, more))) c.in-Err.ensures.edit.0
