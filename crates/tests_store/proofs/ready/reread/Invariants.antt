use Rattle.std.proofs.Common.{ℕ, List}
use Rattle.store_disk.specs.Stops.{Each}
use Rattle.store_journal.specs.Reading.{HasRead}
use Rattle.tests_store.proofs.ready.reread.Given as goal

abbrev pub invariant-loop-payload : goal.invariant-loop-payload
invariant-loop-payload g l = record {
  read : (payloads : List (List ℕ)) × HasRead l.reader payloads (g.D.Disk.reads l.disk);
  only : Each (g.D.Disk.may_leave l.disk) (g.D.Disk.reads l.disk);
}
