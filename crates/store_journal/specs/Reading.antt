-- A journal that is read record by record.
use Rattle.std.specs.Prelude.{◌≡◌, ◌<◌, ◌≤◌, ◌+◌, ℕ, min, List, [], ◌∷◌, length, Option, Some, None}
use Rattle.std.specs.List.{All}
use Rattle.std.specs.Int.{to_le_bytes, w32}
use Rattle.store_disk.specs.Files.{HasAt}
use Rattle.store_disk.specs.Gates.{open_gate, IsClosedAt}
use Rattle.store_disk.specs.Stops.{Each}
use Rattle.store_disk.specs.declared.area.Area.{Area}
use Rattle.store_journal.specs.Records.{records_bytes}

-- Its area, where in the file that or the file ends, where in the area the next gate stands, the
-- length behind this gate, none if the gate is closed, and the payload that was read last.
pub record ReaderState : Type 0 where
  pub area : Area
  pub end : ℕ
  pub next : ℕ
  pub found : Option ℕ
  pub last : List ℕ

-- at this place stands a closed gate, or an open one and the length of a record that fits with its
-- next gate
abbrev pub HasFoundGate : ℕ → ℕ → (List ℕ → Type 0) → Option ℕ → Type 0
HasFoundGate place end files None = Each files (IsClosedAt place)
HasFoundGate place end files (Some len) = Each files (HasAt place (open_gate ∷ []))
    × Each files (HasAt (place + 1) (to_le_bytes w32 len)) × (len ≤ 256) × (place + 6 + len ≤ end)

-- The reader has read these payloads of each of the files: their records begin the area, and the
-- next gate stands behind them, before the end, as it was found.
pub record HasRead (reader : ReaderState) (payloads : List (List ℕ)) (files : List ℕ → Type 0) :
    Type 0 where
  pub len : reader.next ≡ length (records_bytes payloads)
  pub inside : reader.area.base + reader.next < reader.end
  pub within : reader.end ≤ reader.area.base + reader.area.length
  pub ends : Each files
      (λ file. reader.end ≡ min (length file) (reader.area.base + reader.area.length))
  pub short : All (λ payload. length payload ≤ 256) payloads
  pub has : Each files (HasAt reader.area.base (records_bytes payloads))
  pub found : HasFoundGate (reader.area.base + reader.next) reader.end files reader.found

-- the reader has read some payloads of the files
abbrev pub IsReading : ReaderState → (List ℕ → Type 0) → Type 0
IsReading reader files = (payloads : List (List ℕ)) × HasRead reader payloads files
