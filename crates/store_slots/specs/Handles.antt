-- What a handle of two slots says, and when that is true of a file.
use Rattle.std.specs.Prelude.{◌≡◌, ◌==◌, ℕ, Bool, true, false, List, drop, if◌then◌else◌}
use Rattle.store_disk.specs.Gates.{IsClosedAt}
use Rattle.store_disk.specs.declared.area.Area.{Area}
use Rattle.store_slots.specs.Bodies.{IsOpen, IsOlder}
use Rattle.store_slots.specs.declared.slots.Slots.{Slots}
use Rattle.store_slots.specs.declared.image.Image.{Image}
use Rattle.store_slots.specs.declared.change.Closed.{Closed}
use Rattle.store_slots.specs.declared.change.Filled.{Filled}

-- the area of the first slot
abbrev pub first_area : Slots → Area
first_area slots = slots.a

-- the area of the second slot
abbrev pub second_of : Slots → Area
second_of slots = slots.b

-- the live slot: 0 is the first, 1 the second
abbrev pub slot_of : Slots → ℕ
slot_of slots = slots.slot

-- the other of two slots
abbrev pub other_slot : ℕ → ℕ
other_slot slot = if slot == 0 then 1 else 0

-- the live generation
abbrev pub generation_of : Slots → ℕ
generation_of slots = slots.generation

-- whether the other slot was found open
abbrev pub finds_open : Slots → Bool
finds_open slots = slots.other_is_open

-- the area of the live slot
abbrev pub live_of : Slots → Area
live_of slots = if slots.slot == 0 then slots.a else slots.b

-- the area of the other slot
abbrev pub other_of : Slots → Area
other_of slots = if slots.slot == 0 then slots.b else slots.a

-- the handle of a change whose other slot is closed
abbrev pub closed_of : Closed → Slots
closed_of closed = closed.slots

-- the handle of a change whose other slot is filled
abbrev pub filled_of : Filled → Slots
filled_of filled = filled.slots

-- the generation of an image
abbrev pub generation_in : Image → ℕ
generation_in image = image.generation

-- the body of an image: the bytes after the twelve of its generation and length
abbrev pub body_in : Image → List ℕ
body_in image = drop 12 image.bytes.items

-- what the handle says is true of the file, and this body is the live one
pub record HasSlots (slots : Slots) (body file : List ℕ) : Type 0 where
  pub live : IsOpen (live_of slots) (generation_of slots) body file
  pub shut : finds_open slots ≡ false → IsClosedAt (other_of slots).base file
  pub older : finds_open slots ≡ true → IsOlder (other_of slots) (generation_of slots) file

-- the same with some body
abbrev pub HasSomeSlots : Slots → List ℕ → Type 0
HasSomeSlots slots file = (body : List ℕ) × HasSlots slots body file
