use Rattle.store_project.proofs.OneMap.{one_map}
use Rattle.store_project.proofs.law.stand_for_one_map.Goals as goal

pub returns : goal.returns
returns c file cap limit map other g h a b = one_map cap limit map other g h file a b
