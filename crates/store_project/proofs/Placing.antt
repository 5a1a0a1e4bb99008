-- The parts of a project file, and what stays of the file where one of them changes.
use Rattle.std.proofs.Common.{◌≡◌, inl, inr, ◌≤◌, ℕ, Bool, true, false, List, eqb, cond, refl, subst, arith}
use Rattle.store_disk.specs.Files.{KeepsOutside}
use Rattle.store_disk.proofs.Bytes.{has_kept}
use Rattle.store_slots.specs.Handles.{live_of, other_of, first_area, second_of, slot_of}
use Rattle.store_slots.specs.declared.slots.Slots.{Slots}
use Rattle.store_project.specs.Places.{IsAllowed, AreLaidOut, IsInOrder, header_bytes, which_parts}
use Rattle.store_project.specs.Stands.{HasGeometry}
use Rattle.store_project.specs.Turns.{KeepsHeader}
use Rattle.store_project.specs.declared.geometry.Geometry.{Geometry}
use Rattle.store_project.specs.declared.places.Places.{Places}
use Rattle.store_project.specs.declared.places.Parts.{Parts}

-- a handle's slots are the parts that it tells of
pub record TellsParts (s : Slots) (q : Parts) : Type 0 where
  pub live_is : live_of s ≡ q.live
  pub other_is : other_of s ≡ q.other

module _ (g : Geometry) (p : Places) (allowed : IsAllowed g.slot g.journal) (laid : AreLaidOut g p) where
  abbrev picked : Bool → Parts
  picked true = record { live = p.a; other = p.b; journal = p.first; other_journal = p.second }
  picked false = record { live = p.b; other = p.a; journal = p.second; other_journal = p.first }

  is_picked : (t : Bool) → picked t ≡ cond t (picked true) (picked false)
  is_picked true = refl
  is_picked false = refl

  pub in_order : (slot : ℕ) → IsInOrder (which_parts p slot)
  in_order slot = subst IsInOrder (is_picked (eqb slot 0)) (at (eqb slot 0))
    where
      at : (t : Bool) → IsInOrder (picked t)
      at true = record {
        live_some = omega (arith, laid.a_length, allowed.slot_low);
        other_some = omega (arith, laid.b_length, allowed.slot_low);
        header = omega (arith, laid.b_base);
        live_first = omega (arith, laid.a_base, laid.a_length, laid.first_base);
        other_first = omega (arith, laid.b_base, laid.b_length, laid.first_base);
        live_behind = omega (arith, laid.a_base, laid.a_length, laid.second_base);
        other_behind = omega (arith, laid.b_base, laid.b_length, laid.second_base);
        journals = inl (omega (arith, laid.first_base, laid.first_length, laid.second_base));
        journal_room = omega (arith, laid.first_length, allowed.journal_low);
        other_room = omega (arith, laid.second_length, allowed.journal_low);
      }
      at false = record {
        live_some = omega (arith, laid.b_length, allowed.slot_low);
        other_some = omega (arith, laid.a_length, allowed.slot_low);
        header = omega (arith, laid.a_base);
        live_first = omega (arith, laid.b_base, laid.b_length, laid.second_base);
        other_first = omega (arith, laid.a_base, laid.a_length, laid.second_base);
        live_behind = omega (arith, laid.b_base, laid.b_length, laid.first_base);
        other_behind = omega (arith, laid.a_base, laid.a_length, laid.first_base);
        journals = inr (omega (arith, laid.first_base, laid.first_length, laid.second_base));
        journal_room = omega (arith, laid.second_length, allowed.journal_low);
        other_room = omega (arith, laid.first_length, allowed.journal_low);
      }

  pub tells_parts : (s : Slots) → first_area s ≡ p.a → second_of s ≡ p.b → TellsParts s (which_parts p (slot_of s))
  tells_parts s first second = subst (λ (q : Parts). TellsParts s q) (is_picked (eqb (slot_of s) 0)) (let both = at (eqb (slot_of s) 0) in record { live_is = both.0; other_is = both.1 })
    where
      at : (t : Bool) → (cond t s.a s.b ≡ (picked t).live)
          × (cond t s.b s.a ≡ (picked t).other)
      at true = (first, second)
      at false = (second, first)

  pub other_length : (slot : ℕ) → (which_parts p slot).other.length ≡ g.slot
  other_length slot = subst (λ (q : Parts). q.other.length ≡ g.slot) (is_picked (eqb slot 0)) (at (eqb slot 0))
    where
      at : (t : Bool) → (picked t).other.length ≡ g.slot
      at true = laid.b_length
      at false = laid.a_length

  pub geometry_kept : (old new : List ℕ) → KeepsHeader old new → HasGeometry g p old → HasGeometry g p new
  geometry_kept old new keeps has = record {
    allowed = allowed;
    header = keeps (header_bytes g.slot g.journal) (omega arith) has.header;
    laid_out = laid;
  }

-- a change behind the header
pub header_kept : (at n : ℕ) (old new : List ℕ) → 16 ≤ at → KeepsOutside at n old new → KeepsHeader old new
header_kept at n old new low keeps bytes short has = has_kept at n 0 bytes old new (inl (omega (arith, low, short))) keeps has
