use Rattle.store_disk.proofs.ReadingCalls.{one_call}
use Rattle.store_journal.proofs.reading.read_front.Goals as goal

pub returns-clause-reads : goal.returns-clause-reads
returns-clause-reads g c =
    let e = c.read.ensures in
    one_call g.D.Disk g.met.D.Disk.only_now c.args.disk.now c.read.new.self e.reads e.still e.images e.kept e.time
