-- What the bytes of an area of a file stand for: a list of payloads.
use Rattle.std.specs.Prelude.{◌≡◌, ◌<◌, ◌≤◌, ◌+◌, ℕ, List, [], ◌∷◌, ◌++◌, length}
use Rattle.std.specs.List.{All}
use Rattle.std.specs.Int.{to_le_bytes, w32}
use Rattle.store_disk.specs.Files.{HasAt}
use Rattle.store_disk.specs.Gates.{open_gate, IsClosedAt}
use Rattle.store_disk.specs.declared.area.Area.{Area}

-- a record is an open gate, the length and the payload
abbrev pub record_bytes : List ℕ → List ℕ
record_bytes payload = open_gate ∷ to_le_bytes w32 (length payload) ++ payload

-- the records of the payloads, one behind the other
abbrev pub records_bytes : List (List ℕ) → List ℕ
records_bytes [] = []
records_bytes (payload ∷ payloads) = record_bytes payload ++ records_bytes payloads

-- the area's bytes stand for these payloads: their records, and then a closed gate, inside the area
pub record IsJournal (area : Area) (payloads : List (List ℕ)) (file : List ℕ) : Type 0 where
  pub records : HasAt area.base (records_bytes payloads) file
  pub gate : IsClosedAt (area.base + length (records_bytes payloads)) file
  pub room : length (records_bytes payloads) < area.length
  pub short : All (λ payload. length payload ≤ 256) payloads

-- the area's bytes stand for some payloads, whose records take so many bytes
abbrev pub EndsAt : Area → ℕ → List ℕ → Type 0
EndsAt area end file =
    (payloads : List (List ℕ)) × IsJournal area payloads file
    × (length (records_bytes payloads) ≡ end)
