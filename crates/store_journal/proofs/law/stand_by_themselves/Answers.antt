use Rattle.store_journal.proofs.Kept.{journal_kept, journal_none}
use Rattle.store_journal.proofs.law.stand_by_themselves.Goals as goal

pub returns-clause-kept : goal.returns-clause-kept
returns-clause-kept c area payloads at n old new = journal_kept area payloads at n old new

pub returns-clause-none : goal.returns-clause-none
returns-clause-none c area file = journal_none area file
