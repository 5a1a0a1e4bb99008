use Rattle.wad_import.proofs.StayLemmas.{told_exactly}
use Rattle.wad_import.proofs.laws.keep_untold_lists.Goals as goal

pub returns : goal.returns
returns c = told_exactly
