use Rattle.wad_rebuild.proofs.BuildBytes.{same_lumps, same_wad}
use Rattle.wad_rebuild.proofs.laws.rebuilt_lumps_are_the_builds.Goals as goal

pub returns-clause-lumps : goal.returns-clause-lumps
returns-clause-lumps c = same_lumps

pub returns-clause-wad : goal.returns-clause-wad
returns-clause-wad c = same_wad
