-- What is found in two slots.
use Rattle.std.proofs.Common.{◌≡◌, inl, inr, ◌≤◌, ◌+◌, ℕ, List, length, Option, None, Some, refl, sym, subst, arith}
use Rattle.store_disk.specs.declared.area.Area.{Area}
use Rattle.store_slots.specs.Bodies.{IsLive, IsOpenWith}
use Rattle.store_slots.specs.Damage.{AreSlotsDamagedAt, IsBadSlot}
use Rattle.store_slots.proofs.Kept.{open_with}
use Rattle.store_slots.proofs.OneBody.{closed_slot, whole_slot}
use Rattle.map_tables.specs.Projects.{ProjectMaps, body_len}
use Rattle.map_tables.specs.ProjectBody.{IsProjectOf}
use Rattle.store_project.specs.Places.{AreLaidOut, cap_of, which_parts}
use Rattle.store_project.specs.declared.geometry.Geometry.{Geometry}
use Rattle.store_project.specs.declared.places.Places.{Places}
use Rattle.store_project.proofs.Bodies.{project_size}
use Rattle.store_salvage.specs.Live.{IsLiveOf, ShowsSlot}
use Rattle.store_salvage.specs.Refusals.{RefusesLiveSlot}
use Rattle.store_salvage.specs.declared.error.SalvageError.{SalvageError}
use Rattle.store_salvage.specs.declared.error.SalvageError.TheVariants.{Damaged}
use Rattle.store_salvage.specs.declared.slots.OpenSlot.{OpenSlot}

-- a slot whose content was found isn't bad
pub not_bad : (slot : Area) (found : Option OpenSlot) (file : List ℕ) → ShowsSlot slot found file → IsBadSlot slot file → ⊥
not_bad slot None file shut bad = closed_slot slot file shut bad
not_bad slot (Some s) file is bad = whole_slot slot file s.generation (length s.body.now) (open_with slot s.generation s.body.now file is) bad

-- two open slots with the same generation
pub one_generation : (a b : Area) (one other : OpenSlot) (file : List ℕ) (place : ℕ) → one.generation ≡ other.generation
    → ShowsSlot a (Some one) file → ShowsSlot b (Some other) file → b.base ≡ place → AreSlotsDamagedAt a b place file
one_generation a b one other file place same first second there =
    inr (
      not_bad a (Some one) file first,
      sym there,
      inr (
        one.generation,
        length one.body.now,
        length other.body.now,
        open_with a one.generation one.body.now file first,
        subst (λ (g : ℕ). IsOpenWith b g (length other.body.now) file) (sym same) (open_with b other.generation other.body.now file second),
      ),
    )

module _ (g : Geometry) (p : Places) (slot generation : ℕ) (body file : List ℕ) where
  pub which : IsLiveOf p.a p.b slot generation body file → slot ≤ 1
  which (inl first) = omega (arith, first.0)
  which (inr second) = omega (arith, second.0)

  -- the live slot is the one that the parts name
  pub live_parts : IsLiveOf p.a p.b slot generation body file → IsLive (which_parts p slot).live (which_parts p slot).other generation body file
  live_parts (inl first) = subst (λ (n : ℕ). IsLive (which_parts p n).live (which_parts p n).other generation body file) (sym first.0) first.1
  live_parts (inr second) = subst (λ (n : ℕ). IsLive (which_parts p n).live (which_parts p n).other generation body file) (sym second.0) second.1

  -- the body of the live slot fits in a slot
  body_fits : AreLaidOut g p → IsLiveOf p.a p.b slot generation body file → 13 + length body ≤ g.slot
  body_fits laid (inl first) = omega (arith, first.1.is_open.content.head.room, laid.a_length)
  body_fits laid (inr second) = omega (arith, second.1.is_open.content.head.room, laid.b_length)

  pub maps_fit : AreLaidOut g p → IsLiveOf p.a p.b slot generation body file → (m : ProjectMaps) → IsProjectOf body m → body_len m ≤ cap_of g
  maps_fit laid live m is = omega (arith, body_fits laid live, project_size m body is.well_formed is.encoded)

-- the second slot is bad, and the first is not
pub second_bad : (a b : Area) (found : Option OpenSlot) (file : List ℕ) (e : SalvageError) → ShowsSlot a found file → e ≡ Damaged b.base → IsBadSlot b file → RefusesLiveSlot a b file e
second_bad a b found file e shows is bad = subst (RefusesLiveSlot a b file) (sym is) (inr (not_bad a found file shows, refl, inl bad))
