-- Where the bytes of two slots stand for no body.
use Rattle.std.specs.Prelude.{◌≡◌, ◌<◌, ◌≤◌, ◌⊎◌, ◌+◌, ◌^◌, ℕ, List, [], ◌∷◌, length}
use Rattle.std.specs.Int.{to_le_bytes, w32}
use Rattle.store_disk.specs.Files.{HasAt}
use Rattle.store_disk.specs.Gates.{open_gate, IsClosedAt}
use Rattle.store_disk.specs.declared.area.Area.{Area}
use Rattle.store_slots.specs.Bodies.{IsOpenWith}

-- the slot's length is cut off by the end of the file, too great for the slot, or reaches past the end of the file
abbrev pub HasBadBodyLength : Area → List ℕ → Type 0
HasBadBodyLength slot file = (length file < slot.base + 13)
    ⊎ ((n : ℕ) × HasAt (slot.base + 9) (to_le_bytes w32 n) file × (n < 2 ^ 32)
    × ((slot.length < 13 + n) ⊎ (length file < slot.base + 13 + n)))

-- the file ends before the slot's gate, or the slot is open and its length is bad
abbrev pub IsBadSlot : Area → List ℕ → Type 0
IsBadSlot slot file = (length file ≤ slot.base)
    ⊎ (HasAt slot.base (open_gate ∷ []) file × HasBadBodyLength slot file)

-- both slots are open with the same generation
abbrev pub AreOneGeneration : Area → Area → List ℕ → Type 0
AreOneGeneration a b file = (generation : ℕ) × (n : ℕ) × (m : ℕ)
    × IsOpenWith a generation n file × IsOpenWith b generation m file

-- the least offset of a bad slot; the second slot is bad too if both are open with the same generation
abbrev pub AreSlotsDamagedAt : Area → Area → ℕ → List ℕ → Type 0
AreSlotsDamagedAt a b place file = (IsBadSlot a file × (place ≡ a.base))
    ⊎ ((¬ IsBadSlot a file) × (place ≡ b.base) × (IsBadSlot b file ⊎ AreOneGeneration a b file))

-- no slot is open
abbrev pub AreBlank : Area → Area → List ℕ → Type 0
AreBlank a b file = IsClosedAt a.base file × IsClosedAt b.base file
