use Rattle.store_journal.proofs.Kept.{begins_inside, damage_inside, none_closed}
use Rattle.store_journal.proofs.law.begin_in_their_area.Goals as goal

pub returns-clause-first : goal.returns-clause-first
returns-clause-first c area payloads file = begins_inside area payloads file

pub returns-clause-closed : goal.returns-clause-closed
returns-clause-closed c area file = none_closed area file

pub returns-clause-place : goal.returns-clause-place
returns-clause-place c area file place = damage_inside area place file
