-- The refusals of the calls on slots: their numbers, and which call returns which.
use Rattle.std.specs.Prelude.{◌≡◌, ◌⊎◌, ℕ, List, ◌++◌, codes, decimal}
use Rattle.store_slots.specs.declared.error.CheckpointError.{CheckpointError}
use Rattle.store_slots.specs.declared.error.CheckpointError.TheVariants.{Device, OutOfMemory, GenerationsSpent, SlotFull, Damaged, Blank}

-- the number of each refusal
abbrev pub code_of : CheckpointError → ℕ
code_of Device = 30
code_of OutOfMemory = 31
code_of GenerationsSpent = 33
code_of SlotFull = 35
code_of (Damaged place) = 40
code_of Blank = 41

-- the text of a refusal
abbrev pub message_of : CheckpointError → List ℕ
message_of Device = codes "the device failed"
message_of GenerationsSpent = codes "the generations are spent"
message_of SlotFull = codes "the body is too long for a slot"
message_of (Damaged place) = codes "damaged at " ++ decimal place
message_of Blank = codes "no slot is open"
message_of OutOfMemory = codes "out of memory"

-- the refusals that `open` may return
abbrev pub RefusesToOpenSlots : CheckpointError → Type 0
RefusesToOpenSlots e =
    (e ≡ Device) ⊎ ((e ≡ OutOfMemory) ⊎ ((e ≡ Blank) ⊎ ((place : ℕ) × (e ≡ Damaged place))))

-- the refusals that `image` may return
abbrev pub RefusesImage : CheckpointError → Type 0
RefusesImage e = (e ≡ OutOfMemory) ⊎ ((e ≡ GenerationsSpent) ⊎ (e ≡ SlotFull))

-- if the refusal says that a slot is damaged, the slot's offset has the property P
abbrev pub IfSlotDamaged : CheckpointError → (ℕ → Type 0) → Type 0
IfSlotDamaged e P = (place : ℕ) → e ≡ Damaged place → P place
