use Rattle.std.proofs.Common.{◌≡◌, ◌-◌}
use Rattle.store_disk.specs.Reading.{OnlyReads}
use Rattle.store_journal.specs.Reading.{HasRead}
use Rattle.store_journal.proofs.reading.read_records.Given as goal

abbrev pub invariant-loop-records : goal.invariant-loop-records
invariant-loop-records g l = record {
  read : HasRead l.reader l.records (g.D.Disk.reads l.disk);
  area : l.reader.area ≡ l.fn.area;
  only : OnlyReads g.D.Disk l.fn.disk l.disk;
  count : g.D.Disk.failures l.disk ≡ g.D.Disk.failures l.fn.disk;
}

abbrev pub decreases-loop-records : goal.decreases-loop-records
decreases-loop-records g l = l.reader.end - l.reader.next
