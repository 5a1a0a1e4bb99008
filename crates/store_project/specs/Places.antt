-- Where the parts of a project file stand (docs/FORMAT.md, "Project file").
use Rattle.std.specs.Prelude.{◌≡◌, ◌≤◌, ◌⊎◌, ◌+◌, ◌-◌, ◌==◌, ℕ, List, [], ◌∷◌, ◌++◌, if◌then◌else◌}
use Rattle.std.specs.Int.{to_le_bytes, w32}
use Rattle.store_project.specs.declared.geometry.Geometry.{Geometry}
use Rattle.store_project.specs.declared.places.Places.{Places}
use Rattle.store_project.specs.declared.places.Parts.{Parts}

-- LVPJ, version 1, and the lengths of a slot and of a journal
abbrev pub header_bytes : ℕ → ℕ → List ℕ
header_bytes slot journal = (76 ∷ 86 ∷ 80 ∷ 74 ∷ []) ++ to_le_bytes w32 1 ++ to_le_bytes w32 slot
    ++ to_le_bytes w32 journal

-- the lengths are within the limits
pub record IsAllowed (slot journal : ℕ) : Type 0 where
  pub slot_low : 33 ≤ slot
  pub slot_high : slot ≤ 2007015
  pub journal_low : 512 ≤ journal
  pub journal_high : journal ≤ 1048576

-- how long a body may be
abbrev pub cap_of : Geometry → ℕ
cap_of g = g.slot - 13

-- they stand one behind the other, behind the header
pub record AreLaidOut (g : Geometry) (p : Places) : Type 0 where
  pub a_base : p.a.base ≡ 16
  pub a_length : p.a.length ≡ g.slot
  pub b_base : p.b.base ≡ 16 + g.slot
  pub b_length : p.b.length ≡ g.slot
  pub first_base : p.first.base ≡ 16 + g.slot + g.slot
  pub first_length : p.first.length ≡ g.journal
  pub second_base : p.second.base ≡ 16 + g.slot + g.slot + g.journal
  pub second_length : p.second.length ≡ g.journal

-- which is which, where slot 0 is live, or slot 1
abbrev pub which_parts : Places → ℕ → Parts
which_parts p slot =
    if slot == 0 then record {
      live = p.a;
      other = p.b;
      journal = p.first;
      other_journal =
          p.second;
    }
    else record { live = p.b; other = p.a; journal = p.second; other_journal = p.first }

-- the parts stand behind the header, the journals behind both slots, and each is long enough
pub record IsInOrder (q : Parts) : Type 0 where
  pub live_some : 13 ≤ q.live.length
  pub other_some : 13 ≤ q.other.length
  pub header : 16 ≤ q.other.base
  pub live_first : q.live.base + q.live.length ≤ q.journal.base
  pub other_first : q.other.base + q.other.length ≤ q.journal.base
  pub live_behind : q.live.base + q.live.length ≤ q.other_journal.base
  pub other_behind : q.other.base + q.other.length ≤ q.other_journal.base
  pub journals : (q.journal.base + q.journal.length ≤ q.other_journal.base)
      ⊎ (q.other_journal.base + q.other_journal.length ≤ q.journal.base)
  pub journal_room : 512 ≤ q.journal.length
  pub other_room : 512 ≤ q.other_journal.length
