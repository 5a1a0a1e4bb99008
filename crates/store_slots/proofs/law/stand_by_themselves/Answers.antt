use Rattle.store_slots.proofs.Kept.{live_kept}
use Rattle.store_slots.proofs.law.stand_by_themselves.Goals as goal

pub returns : goal.returns
returns c = record { kept = λ live other generation body at n old new some live_apart other_apart keeps. live_kept at n old new keeps live other generation body some live_apart other_apart }
