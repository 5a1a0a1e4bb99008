use Rattle.store_disk.proofs.Gates.{closed_now}
use Rattle.store_journal.proofs.Kept.{journal_none}
use Rattle.store_journal.proofs.journal.blank.Goals as goal

pub returns-clause-closed : goal.returns-clause-closed
returns-clause-closed g c file is =
    let was = c.in_ok-write_at.ensures.written file is in
    closed_now c.args.area.base was.0 file was.2

pub returns-clause-none : goal.returns-clause-none
returns-clause-none g c file is = journal_none c.args.area file c.requires (returns-clause-closed g c file is)
