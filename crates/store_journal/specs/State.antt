-- What a journal in memory tells of.
use Rattle.std.specs.Prelude.{◌≡◌, ◌<◌, ◌+◌, ◌-◌, ℕ, Bool, false, List, [], length, take, Option, Some, None, if◌then◌else◌, nat_lt}
use Rattle.store_disk.specs.Stops.{Each}
use Rattle.store_disk.specs.declared.area.Area.{Area}
use Rattle.store_journal.specs.Records.{records_bytes, EndsAt}

-- Its area, where in the area its next gate stands, whether it must be opened again, and the
-- payloads that it was opened with. Later ones are on the disk alone.
pub record JournalState : Type 0 where
  pub area : Area
  pub next : ℕ
  pub must_reopen : Bool
  pub records : List (List ℕ)

-- a journal that was opened with these payloads
abbrev pub opened : Area → List (List ℕ) → JournalState
opened area payloads =
    record {
      area = area;
      next = length (records_bytes payloads);
      must_reopen = false;
      records =
          payloads;
    }

-- a journal whose next gate stands so far into its area, and that keeps no payloads
abbrev pub journal_at : Area → ℕ → JournalState
journal_at area next =
    record {
      area = area;
      next = next;
      must_reopen = false;
      records = [];
    }

-- the longest payload that still fits: five bytes stand before it, and the next gate behind it
abbrev pub room_of : JournalState → Option ℕ
room_of journal = if nat_lt journal.area.length (journal.next + 6) then None
    else Some (journal.area.length - journal.next - 6)

-- so many bytes are more than there is room for
abbrev pub IsAbove : Option ℕ → ℕ → Type 0
IsAbove None n = Unit {0}
IsAbove (Some room) n = room < n

-- where in the file the gate of the n-th payload stands
abbrev pub gate_of : JournalState → ℕ → Option ℕ
gate_of journal n =
    if nat_lt n (length journal.records) then Some
    (journal.area.base + length (records_bytes (take n journal.records))) else None

-- a journal that needn't be opened again ends in each of these files where it says
abbrev pub IsReadyIn : JournalState → (List ℕ → Type 0) → Type 0
IsReadyIn journal files = journal.must_reopen ≡ false
    → Each files (EndsAt journal.area journal.next)
