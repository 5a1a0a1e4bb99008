use Rattle.std.proofs.Common.{◌≡◌, ◌≤◌, ◌-◌, ℕ, List}
use Rattle.store_disk.specs.Reading.{OnlyReads}
use Rattle.store_journal.specs.Reading.{HasRead}
use Rattle.map_tables.specs.Projects.{body_len, project_of}
use Rattle.store_project.specs.Opening.{AreReplayed}
use Rattle.store_project.proofs.opening.replay.Given as goal

abbrev pub invariant-loop-reader : goal.invariant-loop-reader
invariant-loop-reader g l = record {
  read : (lines : List (List ℕ)) × HasRead l.reader lines (g.D.Disk.reads l.disk)
      × AreReplayed l.cap l.fn.area.base (project_of l.fn.maps) lines l.refused (project_of l.maps);
  area : l.reader.area ≡ l.fn.area;
  fits : body_len (project_of l.maps) ≤ l.cap;
  only : OnlyReads g.D.Disk l.fn.disk l.disk;
  count : g.D.Disk.failures l.disk ≡ g.D.Disk.failures l.fn.disk;
}

abbrev pub decreases-loop-reader : goal.decreases-loop-reader
decreases-loop-reader g l = l.reader.end - l.reader.next
