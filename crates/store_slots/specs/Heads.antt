-- What the gates, generations and lengths of two slots show, before a body is read.
use Rattle.std.specs.Prelude.{◌≡◌, ◌≤◌, ◌+◌, ℕ, true, false, List, Option, Some, None}
use Rattle.store_disk.specs.Gates.{IsClosedAt}
use Rattle.store_disk.specs.declared.area.Area.{Area}
use Rattle.store_slots.specs.Bodies.{IsOpenWith, IsOlder}
use Rattle.store_slots.specs.Handles.{live_of, other_of, generation_of, finds_open}
use Rattle.store_slots.specs.declared.heads.Head.{Head}
use Rattle.store_slots.specs.declared.slots.Slots.{Slots}

-- the slot is closed if no head was found, else open with that head
abbrev pub ShowsHead : Area → Option Head → List ℕ → Type 0
ShowsHead slot None file = IsClosedAt slot.base file
ShowsHead slot (Some head) file = IsOpenWith slot head.generation head.len file

-- the slot has room for the body
abbrev pub HasRoom : Area → Option Head → Type 0
HasRoom slot None = Unit {0}
HasRoom slot (Some head) = 13 + head.len ≤ slot.length

-- what the handle says is true of the file, and the live body has n bytes
pub record HasHeads (slots : Slots) (n : ℕ) (file : List ℕ) : Type 0 where
  pub live : IsOpenWith (live_of slots) (generation_of slots) n file
  pub shut : finds_open slots ≡ false → IsClosedAt (other_of slots).base file
  pub older : finds_open slots ≡ true → IsOlder (other_of slots) (generation_of slots) file
