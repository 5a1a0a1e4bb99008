use Rattle.std.proofs.Common.{◌∙◌, ◌<◌, None, [], length, arith, pos}
use Rattle.lump_records.specs.declared.records.Sector.{Sector}
use Rattle.map_picture.specs.Floors.{with_floor}
use Rattle.map_svg.proofs.Growing.{folded_more}
use Rattle.map_picture.proofs.floors.floor_heights.Goals as goal

pub loop-n-preserved : goal.loop-n-preserved
loop-n-preserved c =
    let sectors = c.args.map.now.tables.sectors in
    let within : c.loop-n.n < length sectors = omega arith in
    let none : Sector =
    record {
      floor = pos 0;
      ceiling = pos 0;
      floor_name = record { bytes = [] };
      ceiling_name = record { bytes = [] };
      light = pos 0;
      special = pos 0;
      tag = pos 0;
    } in
    c.with_sector-heights.ensures
    ∙ folded_more with_floor None sectors c.loop-n.n none within c.loop-n.heights c.loop-n.invariant
