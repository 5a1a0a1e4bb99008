use Rattle.std.proofs.Common.{◌∙◌, map, string_bytes}
use Rattle.wad_rebuild.proofs.WholeLemmas.{levels_all, of_wad}
use Rattle.wad_rebuild.proofs.whole.levels_with.Goals as goal

pub returns-in-Ok-rebuilt_levels : goal.returns-in-Ok-rebuilt_levels
returns-in-Ok-rebuilt_levels c =
    let wad = c.args.wad.now in
    let are = c.in-Ok-rebuilt_levels.ensures.rebuilt in
    record {
      accepted = of_wad wad (map string_bytes c.args.names.now) c.count.ensures.accepted ∙ c.in-Ok.ensures.accepted;
      levels_are = are;
      ready = record { lumps = c.in-Ok.ensures.lumps; each = levels_all wad c.in-Ok-rebuilt_levels.levels.items are.levels_are.each };
    }
