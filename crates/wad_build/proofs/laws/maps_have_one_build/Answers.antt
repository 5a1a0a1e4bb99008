use Rattle.wad_build.proofs.OneLevel.{one_level, one_wad}
use Rattle.wad_build.proofs.laws.maps_have_one_build.Goals as goal

pub returns-clause-level : goal.returns-clause-level
returns-clause-level c = one_level

pub returns-clause-bytes : goal.returns-clause-bytes
returns-clause-bytes c = one_wad
