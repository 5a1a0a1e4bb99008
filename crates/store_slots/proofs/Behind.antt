-- If what a handle says is true of a file, the file's live slot and generation are the handle's.
use Rattle.std.proofs.Common.{◌≡◌, ◌⊎◌, inl, inr, ℕ, Bool, true, false, List, refl}
use Rattle.store_disk.specs.Gates.{IsClosedAt}
use Rattle.store_disk.specs.Stops.{Each, Follows}
use Rattle.store_slots.specs.Bodies.{IsOlder}
use Rattle.store_slots.specs.Handles.{other_of, generation_of, finds_open, HasSlots, HasSomeSlots}
use Rattle.store_slots.specs.Steps.{IsLiveBy, ClosesOther, HasClosed}
use Rattle.store_slots.specs.declared.slots.Slots.{Slots}

pub live_by : (s : Slots) (body file : List ℕ) → HasSlots s body file → IsLiveBy s body file
live_by s body file has = record { is_open = has.live; behind = at (finds_open s) has.shut has.older }
  where
    at : (t : Bool) → (t ≡ false → IsClosedAt (other_of s).base file)
        → (t ≡ true → IsOlder (other_of s) (generation_of s) file) → IsClosedAt (other_of s).base file
        ⊎ IsOlder (other_of s) (generation_of s) file
    at true shut older = inr (older refl)
    at false shut older = inl (shut refl)

-- what `fill` requires
pub close_ready : (s : Slots) (old new : List ℕ → Type 0) → Each old (HasSomeSlots s) → Follows (ClosesOther s) old new → Each new (HasClosed s)
close_ready s old new slots closes file left =
    let was = closes file left in
    let before = slots was.0 was.1 in
    record { live = (before.0, was.2.keeps.live before.0 (live_by s before.0 was.0 before.1)); closed = was.2.closed }
