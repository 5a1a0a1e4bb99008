-- What appended payloads make of a file.
use Rattle.std.specs.Prelude.{◌≤◌, ◌⊎◌, ◌+◌, List, ℕ, max, ◌++◌, length}
use Rattle.store_disk.specs.Files.{KeepsOutside}
use Rattle.store_disk.specs.declared.area.Area.{Area}
use Rattle.store_journal.specs.Records.{IsJournal}

-- The area's bytes stand for these payloads more; the other bytes stay, and the file ends no later than it did or than
-- the area does.
pub record Appends (area : Area) (more : List (List ℕ)) (old new : List ℕ) : Type 0 where
  pub keeps : KeepsOutside area.base area.length old new
  pub no_longer : length new ≤ max (length old) (area.base + area.length)
  pub journal : (payloads : List (List ℕ)) → IsJournal area payloads old
      → IsJournal area (payloads ++ more) new

-- The area's bytes stand for the same payloads, or for all of these more; the other bytes stay, and the file ends no
-- later than it did or than the area does.
pub record MayAppend (area : Area) (more : List (List ℕ)) (old new : List ℕ) : Type 0 where
  pub keeps : KeepsOutside area.base area.length old new
  pub no_longer : length new ≤ max (length old) (area.base + area.length)
  pub journal : (payloads : List (List ℕ)) → IsJournal area payloads old
      → IsJournal area payloads new ⊎ IsJournal area (payloads ++ more) new
