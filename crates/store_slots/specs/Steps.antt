-- What the calls that change the live slot make of a file.
use Rattle.std.specs.Prelude.{◌≤◌, ◌⊎◌, ◌+◌, ℕ, max, List, [], ◌∷◌, length}
use Rattle.store_disk.specs.Files.{HasAt, KeepsOutside}
use Rattle.store_disk.specs.Gates.{IsClosedAt}
use Rattle.store_disk.specs.declared.area.Area.{Area}
use Rattle.store_slots.specs.Bodies.{HasContent, IsLive}
use Rattle.store_slots.specs.Handles.{live_of, other_of, generation_of}
use Rattle.store_slots.specs.declared.slots.Slots.{Slots}

-- the live slot and generation of the file are the handle's, and this body is the live one
abbrev pub IsLiveBy : Slots → List ℕ → List ℕ → Type 0
IsLiveBy slots body file = IsLive (live_of slots) (other_of slots) (generation_of slots) body file

-- the same after a change: the handle's other slot is live, with the next generation and this body
abbrev pub IsNextBy : Slots → List ℕ → List ℕ → Type 0
IsNextBy slots body file =
    IsLive (other_of slots) (live_of slots) (generation_of slots + 1) body file

-- the live slot and generation of the file are the handle's, with some body
abbrev pub IsSomeLive : Slots → List ℕ → Type 0
IsSomeLive slots file = (body : List ℕ) × IsLiveBy slots body file

-- after the other slot's gate are the next generation and some body
abbrev pub IsFilled : Slots → List ℕ → Type 0
IsFilled slots file =
    (body : List ℕ) × HasContent (other_of slots) (generation_of slots + 1) body file

-- what `close_other` leaves: the live slot and generation are the handle's, and the other slot is closed
pub record HasClosed (slots : Slots) (file : List ℕ) : Type 0 where
  pub live : IsSomeLive slots file
  pub closed : IsClosedAt (other_of slots).base file

-- what `fill` leaves: the same, and a body is after the other slot's gate
pub record HasFilled (slots : Slots) (file : List ℕ) : Type 0 where
  pub closed : HasClosed slots file
  pub filled : IsFilled slots file

-- the live body and all bytes outside the other slot stay, and the file gets no longer
pub record KeepsLive (slots : Slots) (old new : List ℕ) : Type 0 where
  pub keeps : KeepsOutside (other_of slots).base (other_of slots).length old new
  pub no_longer : length new ≤ length old
  pub live : (body : List ℕ) → IsLiveBy slots body old → IsLiveBy slots body new

-- the same, and the other slot is closed
pub record ClosesOther (slots : Slots) (old new : List ℕ) : Type 0 where
  pub keeps : KeepsLive slots old new
  pub closed : IsClosedAt (other_of slots).base new

-- The live body stays, and so do all bytes outside the other slot, except the first byte of the other journal. The
-- file ends no later than before or than that byte.
pub record MayFill (slots : Slots) (journal : Area) (old new : List ℕ) : Type 0 where
  pub middle : List ℕ
  pub first : KeepsOutside (other_of slots).base (other_of slots).length old middle
  pub second : KeepsOutside journal.base 1 middle new
  pub no_longer : length new ≤ max (length old) (journal.base + 1)
  pub live : (body : List ℕ) → IsLiveBy slots body old → IsLiveBy slots body new

-- the same, and the other slot has the content after a closed gate, and the other journal begins with a closed gate
pub record Fills (slots : Slots) (body : List ℕ) (journal : Area) (old new : List ℕ) : Type 0 where
  pub may : MayFill slots journal old new
  pub closed : IsClosedAt (other_of slots).base new
  pub content : HasContent (other_of slots) (generation_of slots + 1) body new
  pub begins : HasAt journal.base (0 ∷ []) new

-- the content after the other slot's gate is the live body, all bytes outside that slot stay, and the file gets no
-- longer
pub record OpensOther (slots : Slots) (old new : List ℕ) : Type 0 where
  pub keeps : KeepsOutside (other_of slots).base (other_of slots).length old new
  pub no_longer : length new ≤ length old
  pub live : (body : List ℕ)
      → HasContent (other_of slots) (generation_of slots + 1) body old → IsNextBy slots body new

-- the live body is the old one or that content, all bytes outside that slot stay, and the file gets no longer
pub record MayOpenOther (slots : Slots) (old new : List ℕ) : Type 0 where
  pub keeps : KeepsOutside (other_of slots).base (other_of slots).length old new
  pub no_longer : length new ≤ length old
  pub either : (live_body body : List ℕ) → IsLiveBy slots live_body old
      → HasContent (other_of slots) (generation_of slots + 1) body old
      → IsLiveBy slots live_body new ⊎ IsNextBy slots body new

-- what a disk reads as after `first`: the first slot is live, the second is closed, and all bytes outside the two
-- stay
pub record IsFirst (a b : Area) (body old new : List ℕ) : Type 0 where
  pub middle : List ℕ
  pub at_a : KeepsOutside a.base a.length old middle
  pub at_b : KeepsOutside b.base 1 middle new
  pub live : IsLive a b 1 body new
  pub closed : IsClosedAt b.base new
