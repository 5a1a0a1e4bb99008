use Rattle.std.proofs.Common.{◌∙◌}
use Rattle.std.specs.Prelude.{option_map}
use Rattle.wad_import.proofs.ProjectFacts.{alone_parts}
use Rattle.cli_print.specs.LevelLines.{level_map}
use Rattle.cli_print.proofs.LevelLines.{level_checked}
use Rattle.cli_print.proofs.level_maps.tell_wanted.Goals as goal

pub returns-in-Ok-map_or_refusal-clause-told : goal.returns-in-Ok-map_or_refusal-clause-told
returns-in-Ok-map_or_refusal-clause-told g c =
    let wad = c.args.wad.now in
    let level = c.in-Ok.level in
    let found = c.in-Ok-map_or_refusal.ensures.map in
    level_checked wad (option_map (λ s. s.now) c.args.name) c.tell.result (g.W.Write.contents c.args.writer.now) (g.W.Write.contents c.tell.new.writer) level
    c.current.result.now.tables c.in-Ok.ensures.wanted found.0
    (c.current.ensures.tables ∙ (alone_parts c.in-Ok-map_or_refusal.found.maps (level_map wad level) found.1).0) c.tell.ensures.told
