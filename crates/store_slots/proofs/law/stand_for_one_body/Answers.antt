use Rattle.store_slots.proofs.OneBody.{one_live, one_slot, not_damaged, nor_damaged, nor_both}
use Rattle.store_slots.proofs.law.stand_for_one_body.Goals as goal

pub returns-clause-one : goal.returns-clause-one
returns-clause-one c a b g h x y file = one_live a b file g h x y

pub returns-clause-one_slot : goal.returns-clause-one_slot
returns-clause-one_slot c a b g h x y file = one_slot a b g h x y file

pub returns-clause-not_damaged : goal.returns-clause-not_damaged
returns-clause-not_damaged c a b g p x file = not_damaged a b file g p x

pub returns-clause-nor_damaged : goal.returns-clause-nor_damaged
returns-clause-nor_damaged c a b g p x file = nor_damaged a b file g p x

pub returns-clause-nor_both : goal.returns-clause-nor_both
returns-clause-nor_both c a b p file = nor_both a b file p
