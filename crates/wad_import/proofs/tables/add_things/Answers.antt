use Rattle.std.proofs.Common.{◌≡◌, length, take, ap, ◌∙◌, arith}
use Rattle.std.proofs.lemmas.List.{length-take-le}
use Rattle.map_tables.specs.Faults.{thing_faults}
use Rattle.map_tables.specs.Outcomes.{least}
use Rattle.map_tables.specs.Tables.{Tables}
use Rattle.wad_import.proofs.NextLemmas.{thing_free, only_memory}
use Rattle.wad_import.proofs.tables.add_things.Goals as goal

pub lack_of-requires : goal.lack_of-requires
lack_of-requires c =
    let m = c.loop-thing.maps.tables in
    let so_far : m.things ≡ take c.loop-thing.thing-index c.args.things.now = ap (λ (t : Tables). t.things) c.loop-thing.invariant.tables in
    let more = c.loop-thing-test.true in
    let count : length m.things ≡ c.loop-thing.thing-index = ap length so_far ∙ length-take-le c.loop-thing.thing-index c.args.things.now (omega (arith, more)) in
    only_memory c.in-Err.error (least (thing_faults m)) _ _ (thing_free m (omega (arith, count, more))) c.in-Err.ensures.edit.0
