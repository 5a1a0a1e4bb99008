-- What the bytes of two slots of a file stand for: the generation and the body of the open slot with the greater
-- generation.
use Rattle.std.specs.Prelude.{◌<◌, ◌≤◌, ◌⊎◌, ◌+◌, ◌^◌, ℕ, List, [], ◌∷◌, ◌++◌, length}
use Rattle.std.specs.Int.{to_le_bytes, w32, w64}
use Rattle.store_disk.specs.Files.{HasAt}
use Rattle.store_disk.specs.Gates.{open_gate, IsClosedAt}
use Rattle.store_disk.specs.declared.area.Area.{Area}

-- a generation and the length of a body
abbrev pub head_bytes : ℕ → ℕ → List ℕ
head_bytes generation n = to_le_bytes w64 generation ++ to_le_bytes w32 n

-- the bytes after the gate of a slot
abbrev pub content_bytes : ℕ → List ℕ → List ℕ
content_bytes generation body = head_bytes generation (length body) ++ body

-- after the slot's gate are a generation and the length of a body; the body fits in the slot and in the file
pub record HasHead (slot : Area) (generation n : ℕ) (file : List ℕ) : Type 0 where
  pub head : HasAt (slot.base + 1) (head_bytes generation n) file
  pub room : 13 + n ≤ slot.length
  pub within : slot.base + 13 + n ≤ length file
  pub number : generation < 2 ^ 64
  pub count : n < 2 ^ 32

-- the slot is open, with this generation and a body of n bytes
pub record IsOpenWith (slot : Area) (generation n : ℕ) (file : List ℕ) : Type 0 where
  pub gate : HasAt slot.base (open_gate ∷ []) file
  pub head : HasHead slot generation n file

-- after the slot's gate, open or not, are this generation and this body
pub record HasContent (slot : Area) (generation : ℕ) (body file : List ℕ) : Type 0 where
  pub head : HasHead slot generation (length body) file
  pub stands : HasAt (slot.base + 13) body file

-- the slot is open, with this generation and this body
pub record IsOpen (slot : Area) (generation : ℕ) (body file : List ℕ) : Type 0 where
  pub gate : HasAt slot.base (open_gate ∷ []) file
  pub content : HasContent slot generation body file

-- the slot is open with a lower generation
abbrev pub IsOlder : Area → ℕ → List ℕ → Type 0
IsOlder slot generation file = (older : ℕ) × (n : ℕ) × IsOpenWith slot older n file
    × (older < generation)

-- the live slot is open with this generation and this body, and the other one closed or older
pub record IsLive (live other : Area) (generation : ℕ) (body file : List ℕ) : Type 0 where
  pub is_open : IsOpen live generation body file
  pub behind : IsClosedAt other.base file ⊎ IsOlder other generation file
