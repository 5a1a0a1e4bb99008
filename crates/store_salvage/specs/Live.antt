-- The live slot of a file, as it is found.
use Rattle.std.specs.Prelude.{◌≡◌, ◌⊎◌, ℕ, List, Option, Some, None}
use Rattle.store_disk.specs.Gates.{IsClosedAt}
use Rattle.store_disk.specs.declared.area.Area.{Area}
use Rattle.store_slots.specs.Bodies.{IsLive, IsOpen}
use Rattle.store_salvage.specs.declared.slots.OpenSlot.{OpenSlot}

-- the first slot is live if the number is 0, otherwise the second one
abbrev pub IsLiveOf : Area → Area → ℕ → ℕ → List ℕ → List ℕ → Type 0
IsLiveOf a b slot generation body file =
    ((slot ≡ 0) × IsLive a b generation body file) ⊎ ((slot ≡ 1) × IsLive b a generation body file)

-- the slot is closed if none was found, else open with the generation and the body that were found
abbrev pub ShowsSlot : Area → Option OpenSlot → List ℕ → Type 0
ShowsSlot slot None file = IsClosedAt slot.base file
ShowsSlot slot (Some found) file = IsOpen slot found.generation found.body.now file
