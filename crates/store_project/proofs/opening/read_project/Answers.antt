use Rattle.store_project.proofs.Openings.{result_later}
use Rattle.store_project.proofs.opening.read_project.Goals as goal

pub returns-in-Ok-clause-refused : goal.returns-in-Ok-clause-refused
returns-in-Ok-clause-refused g c =
    result_later (g.D.Disk.reads c.sync.new.self) (g.D.Disk.reads c.read_synced.new.disk) c.read_synced.ensures.reads.no_other c.read_synced.result c.read_synced.ensures.refused
