use Rattle.wad_levels.specs.Drawn.{drawn_view}
use Rattle.wad_import.proofs.LevelLemmas.{level_ends}
use Rattle.wad_import.proofs.import.import_level.Goals as goal

pub returns-in-Ok : goal.returns-in-Ok
returns-in-Ok c =
    level_ends c.args.wad.now c.args.level c.args.name (drawn_view c.in-Ok.drawn) c.import_drawn.result c.in-Ok.ensures.0 c.in-Ok.ensures.1 c.import_drawn.ensures
