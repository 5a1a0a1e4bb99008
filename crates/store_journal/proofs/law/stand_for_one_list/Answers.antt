use Rattle.store_journal.proofs.OneReading.{one_journal, one_place, not_both}
use Rattle.store_journal.proofs.law.stand_for_one_list.Goals as goal

pub returns-clause-list : goal.returns-clause-list
returns-clause-list c area file ps qs = one_journal area file ps qs

pub returns-clause-place : goal.returns-clause-place
returns-clause-place c area file p q = one_place area file p q

pub returns-clause-not_both : goal.returns-clause-not_both
returns-clause-not_both c area file ps p = not_both area file ps p
