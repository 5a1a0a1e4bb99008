use Rattle.wad_rebuild.proofs.ReadBack.{read_back}
use Rattle.wad_rebuild.proofs.laws.rebuilt_levels_read_back.Goals as goal

pub returns : goal.returns
returns c = read_back
