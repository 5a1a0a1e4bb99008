-- The result of reading a journal, and where the file is damaged.
use Rattle.std.specs.Prelude.{◌≡◌, ◌<◌, ◌≤◌, ◌⊎◌, ◌+◌, ℕ, true, false, min, List, ◌++◌, length}
use Rattle.store_disk.specs.declared.area.Area.{Area}
use Rattle.store_journal.specs.Records.{IsJournal, records_bytes}
use Rattle.map_tables.specs.Projects.{ProjectMaps}
use Rattle.map_commands.specs.ProjectLines.{Leads}
use Rattle.store_salvage.specs.Records.{BreakOffAt, RefusesFirst}
use Rattle.store_salvage.specs.declared.replaying.Replayed.{Replayed}

-- the result describes the whole records of the area: the kept ones lead from `base` to `maps`, and the next one
-- isn't accepted
pub record IsReplayed (cap : ℕ) (area : Area) (base maps : ProjectMaps) (read : Replayed)
    (file : List ℕ) : Type 0 where
  pub kept : List (List ℕ)
  pub lost : List (List ℕ)
  pub leads : Leads cap base kept maps
  pub refused : RefusesFirst cap maps lost
  pub kept_count : read.kept ≡ length kept
  pub lost_count : read.behind ≡ length lost
  pub kept_to : read.kept_to ≡ area.base + length (records_bytes kept)
  pub closed : read.is_closed ≡ true → IsJournal area (kept ++ lost) file
  pub broken : read.is_closed ≡ false → BreakOffAt area (kept ++ lost) read.end file

-- the least offset of a bad gate, otherwise that of the gate of the first record that isn't kept; the file has
-- `len` bytes, and the other journal's first gate should be at `other`
abbrev pub IsDamageOf : Replayed → ℕ → ℕ → ℕ → Type 0
IsDamageOf read len other place =
    ((read.is_closed ≡ false) × (len ≤ other) × (place ≡ min read.end other))
    ⊎ (((read.is_closed ≡ false) × (other < len) × (place ≡ read.end))
    ⊎ (((read.is_closed ≡ true) × (len ≤ other) × (place ≡ other))
    ⊎ ((read.is_closed ≡ true) × (other < len) × (0 < read.behind) × (place ≡ read.kept_to))))
