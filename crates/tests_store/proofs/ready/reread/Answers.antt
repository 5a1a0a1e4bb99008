use Rattle.std.proofs.Common.{[]}
use Rattle.store_project.proofs.Openings.{read_later}
use Rattle.tests_store.proofs.ready.reread.Goals as goal

pub loop-payload-init : goal.loop-payload-init
loop-payload-init g c =
    let begun = c.in_ok-reader.ensures in
    record {
      read = ([], read_later c.in_ok-reader.reader [] (g.D.Disk.reads c.sync.new.self) (g.D.Disk.reads c.begin.new.disk) begun.reads.no_other begun.begun);
      only = λ file left. begun.reads.still file (c.in_ok-sync.ensures.durable file (begun.reads.images file left));
    }
