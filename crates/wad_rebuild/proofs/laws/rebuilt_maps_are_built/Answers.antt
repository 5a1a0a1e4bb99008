use Rattle.wad_rebuild.proofs.MapLevels.{built_again}
use Rattle.wad_rebuild.proofs.laws.rebuilt_maps_are_built.Goals as goal

pub returns : goal.returns
returns c = built_again
