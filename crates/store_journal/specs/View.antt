-- What the fields of a journal tell of.
use Rattle.std.specs.Prelude.{◌<◌, ◌≤◌, ℕ, List, [], length, Option, Some, None}
use Rattle.store_journal.specs.Records.{records_bytes}
use Rattle.store_journal.specs.State.{JournalState}
use Rattle.store_journal.specs.declared.journal.Journal.TheInside.{Inside}

-- the payloads that the journal was opened with, none where it was not opened
abbrev pub found_in : Option (List (List ℕ)) → List (List ℕ)
found_in None = []
found_in (Some records) = records

-- the area, the next gate, whether the file must be opened again, and the records
abbrev pub journal_state : Inside → JournalState
journal_state fields = record {
  area = fields.area;
  next = fields.next;
  must_reopen = fields.must_reopen;
  records = found_in fields.records;
}

-- the next gate lies inside the area, behind the records that the journal was opened with
pub record IsInArea (fields : Inside) : Type 0 where
  pub next : fields.next < fields.area.length
  pub behind : length (records_bytes (found_in fields.records)) ≤ fields.next
