-- Where the bytes of an area of a file stand for no list.
use Rattle.std.specs.Prelude.{◌≡◌, ◌<◌, ◌≤◌, ◌⊎◌, ◌+◌, ◌^◌, ℕ, List, [], ◌∷◌, length}
use Rattle.std.specs.List.{All}
use Rattle.std.specs.Int.{to_le_bytes, w32}
use Rattle.store_disk.specs.Files.{HasAt}
use Rattle.store_disk.specs.Gates.{open_gate}
use Rattle.store_disk.specs.declared.area.Area.{Area}
use Rattle.store_journal.specs.Records.{records_bytes}

-- this place is in the file and in the area
pub record IsInside (area : Area) (place : ℕ) (file : List ℕ) : Type 0 where
  pub in_file : place < length file
  pub in_area : place < area.base + area.length

-- the file or the area ends before this place
abbrev pub EndsBefore : Area → ℕ → List ℕ → Type 0
EndsBefore area place file = (length file < place) ⊎ (area.base + area.length < place)

-- the length behind the gate is above 256, or the record or the next gate goes beyond the file or
-- the area
abbrev pub HasBadRecordLength : Area → ℕ → List ℕ → Type 0
HasBadRecordLength area place file =
    (n : ℕ) × HasAt (place + 1) (to_le_bytes w32 n) file × (n < 2 ^ 32)
    × ((256 < n) ⊎ EndsBefore area (place + 6 + n) file)

-- An open gate stands here, and its record isn't one: with its next gate not even an empty one fits
-- the file and the area, or it has a bad length.
pub record IsBadRecord (area : Area) (place : ℕ) (file : List ℕ) : Type 0 where
  pub inside : IsInside area place file
  pub gate : HasAt place (open_gate ∷ []) file
  pub bad : EndsBefore area (place + 6) file ⊎ HasBadRecordLength area place file

-- whole records stand up to this place, and there a bad one
pub record BreaksOffAt (area : Area) (place : ℕ) (file : List ℕ) : Type 0 where
  pub payloads : List (List ℕ)
  pub records : HasAt area.base (records_bytes payloads) file
  pub short : All (λ payload. length payload ≤ 256) payloads
  pub there : place ≡ area.base + length (records_bytes payloads)
  pub bad : IsBadRecord area place file

-- the area's bytes stand for no list: the first gate isn't there, or the records break off at a bad
-- one
abbrev pub IsJournalDamagedAt : Area → ℕ → List ℕ → Type 0
IsJournalDamagedAt area place file =
    ((place ≡ area.base) × EndsBefore area (area.base + 1) file) ⊎ BreaksOffAt area place file
