use Rattle.wad_rebuild.proofs.OwnLevels.{own_drawn}
use Rattle.wad_rebuild.proofs.laws.built_levels_are_drawn.Goals as goal

pub returns : goal.returns
returns c = own_drawn
