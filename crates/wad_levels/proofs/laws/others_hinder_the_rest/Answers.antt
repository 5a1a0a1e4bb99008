use Rattle.wad_levels.proofs.LengthLemmas.{hinders_the_rest}
use Rattle.wad_levels.proofs.laws.others_hinder_the_rest.Goals as goal

pub returns : goal.returns
returns c = hinders_the_rest
