-- What a slot has stays if the slot's bytes stay.
use Rattle.std.proofs.Common.{◌≡◌, ◌⊎◌, inl, inr, ⊎_elim, ◌<◌, ◌≤◌, ◌+◌, ℕ, List, [], ◌∷◌, length, refl, arith}
use Rattle.store_disk.specs.Files.{HasAt, KeepsOutside}
use Rattle.store_disk.specs.Gates.{IsClosedAt}
use Rattle.store_disk.specs.declared.area.Area.{Area}
use Rattle.store_disk.proofs.Gates.{closed_kept}
use Rattle.store_disk.proofs.Bytes.{has_kept, one_has}
use Rattle.store_disk.specs.Areas.{IsApart}
use Rattle.store_slots.specs.Bodies.{head_bytes, HasHead, IsOpenWith, HasContent, IsOpen, IsOlder, IsLive}

-- the range is after the slot, or before the bytes after its gate
abbrev pub SparesContent : Area → ℕ → ℕ → Type 0
SparesContent slot at n = (slot.base + slot.length ≤ at) ⊎ (at + n ≤ slot.base + 1)

pub spares : (slot : Area) (at n : ℕ) → IsApart slot at n → SparesContent slot at n
spares slot at n apart = ⊎_elim (λ below. inl below) (λ above. inr (omega (arith, above))) apart

pub open_with : (slot : Area) (g : ℕ) (body file : List ℕ) → IsOpen slot g body file → IsOpenWith slot g (length body) file
open_with slot g body file is = record { gate = is.gate; head = is.content.head }

-- an open gate isn't closed
pub not_closed : (place : ℕ) (file : List ℕ) → HasAt place (165 ∷ []) file → IsClosedAt place file → ⊥
not_closed place file is_open shut = shut.closed (one_has place 165 [] file is_open)

module _ (at n : ℕ) (old new : List ℕ) (keeps : KeepsOutside at n old new) where
  pub head_kept : (slot : Area) (g m : ℕ) → SparesContent slot at n → HasHead slot g m old → HasHead slot g m new
  head_kept slot g m apart is =
      let size : length (head_bytes g m) ≡ 12 = refl in
      record {
        head = has_kept at n (slot.base + 1) (head_bytes g m) old new (⊎_elim (λ below. inl (omega (arith, below, is.room, size))) (λ above. inr above) apart) keeps is.head;
        room = is.room;
        within = omega (arith, is.within, keeps.no_shorter);
        number = is.number;
        count = is.count;
      }

  pub content_kept : (slot : Area) (g : ℕ) (body : List ℕ) → SparesContent slot at n → HasContent slot g body old → HasContent slot g body new
  content_kept slot g body apart is = record {
    head = head_kept slot g (length body) apart is.head;
    stands = has_kept at n (slot.base + 13) body old new (⊎_elim (λ below. inl (omega (arith, below, is.head.room))) (λ above. inr (omega (arith, above))) apart) keeps is.stands;
  }

  gate_kept : (slot : Area) (g m : ℕ) → IsApart slot at n → HasHead slot g m old → HasAt slot.base (165 ∷ []) old → HasAt slot.base (165 ∷ []) new
  gate_kept slot g m apart head gate =
      has_kept at n slot.base (165 ∷ []) old new (⊎_elim (λ below. inl (omega (arith, below, head.room))) (λ above. inr above) apart) keeps gate

  pub open_with_kept : (slot : Area) (g m : ℕ) → IsApart slot at n → IsOpenWith slot g m old → IsOpenWith slot g m new
  open_with_kept slot g m apart is = record {
    gate = gate_kept slot g m apart is.head is.gate;
    head = head_kept slot g m (spares slot at n apart) is.head;
  }

  pub open_kept : (slot : Area) (g : ℕ) (body : List ℕ) → IsApart slot at n → IsOpen slot g body old → IsOpen slot g body new
  open_kept slot g body apart is = record {
    gate = gate_kept slot g (length body) apart is.content.head is.gate;
    content = content_kept slot g body (spares slot at n apart) is.content;
  }

  pub behind_kept : (slot : Area) (g : ℕ) → 0 < slot.length → IsApart slot at n → IsClosedAt slot.base old ⊎ IsOlder slot g old → IsClosedAt slot.base new ⊎ IsOlder slot g new
  behind_kept slot g some apart (inl shut) =
      inl (closed_kept slot.base at n old new (⊎_elim (λ below. inl (omega (arith, below, some))) (λ above. inr above) apart) keeps shut)
  behind_kept slot g some apart (inr older) = inr (older.0, older.1, open_with_kept slot older.0 older.1 apart older.2, older.3)

  pub live_kept : (live other : Area) (g : ℕ) (body : List ℕ) → 0 < other.length → IsApart live at n → IsApart other at n → IsLive live other g body old → IsLive live other g body new
  live_kept live other g body some live_apart other_apart is = record {
    is_open = open_kept live g body live_apart is.is_open;
    behind = behind_kept other g some other_apart is.behind;
  }
