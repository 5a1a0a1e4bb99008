use Rattle.std.proofs.Common.{subst}
use Rattle.store_disk.specs.Stops.{Follows}
use Rattle.store_journal.specs.Append.{Appends}
use Rattle.store_journal.specs.State.{JournalState}
use Rattle.store_journal.proofs.journal.Journal.put.Goals as goal

pub returns-clause-appended : goal.returns-clause-appended
returns-clause-appended g c more group =
    subst (λ (v : JournalState). Follows (Appends v.area more) (g.D.Disk.may_leave c.args.disk.now) (g.D.Disk.may_leave c.write_records.new.disk)) c.self.view_is
    (c.in_ok-write_records.ensures.appended more group)
