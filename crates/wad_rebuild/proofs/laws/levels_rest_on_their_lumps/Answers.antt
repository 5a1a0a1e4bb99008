use Rattle.wad_rebuild.proofs.AlikeFates.{rest_on_lumps}
use Rattle.wad_rebuild.proofs.laws.levels_rest_on_their_lumps.Goals as goal

pub returns : goal.returns
returns c = rest_on_lumps
