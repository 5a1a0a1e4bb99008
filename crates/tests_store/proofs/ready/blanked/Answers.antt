use Rattle.std.proofs.Common.{[], sym, ap, subst}
use Rattle.store_disk.specs.declared.area.Area.{Area}
use Rattle.store_journal.specs.Records.{IsJournal}
use Rattle.store_journal.specs.State.{JournalState}
use Rattle.tests_store.proofs.ready.blanked.Goals as goal

pub returns : goal.returns
returns g c = record {
  ready = λ is file left.
      let read = c.in_ok-sync.ensures.reads file (c.in_ok-sync.ensures.durable file left) in
      let empty = c.in_ok-journal.ensures.empty in
      ([], subst (λ (a : Area). IsJournal a [] file) (sym (ap (λ (s : JournalState). s.area) empty)) (c.in_ok-journal.ensures.none file read), sym (ap (λ (s : JournalState). s.next) empty));
}
