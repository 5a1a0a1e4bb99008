use Rattle.std.proofs.Common.{rules, [], refl}
use Rattle.store_project.proofs.Openings.{read_later}
use Rattle.store_project.proofs.opening.replay.Goals as goal

pub loop-reader-init : goal.loop-reader-init
loop-reader-init g c =
    let begun = c.in_ok-reader.ensures in
    record {
      read = ([], read_later c.in_ok-reader.reader [] (g.D.Disk.reads c.args.disk.now) (g.D.Disk.reads c.begin.new.disk) begun.reads.no_other begun.begun, refl);
      area = begun.area;
      fits = c.requires;
      only = begun.reads;
      count = search rules;
    }
