-- What an append makes of the images of a project.
use Rattle.store_disk.specs.Areas as areas
use Rattle.store_slots.specs.Handles.{live_of, other_of, HasSlots}
use Rattle.store_slots.specs.declared.slots.Slots.{Slots}
use Rattle.store_slots.proofs.Kept.{open_kept, open_with_kept}
use Rattle.store_disk.proofs.Gates.{closed_kept}
use Rattle.std.proofs.Common.{◌≡◌, ◌⊎◌, inl, inr, ⊎_elim, ◌<◌, ℕ, List, [], ◌∷◌, ◌++◌, refl, sym, subst, arith}
use Rattle.store_disk.specs.Files.{KeepsOutside}
use Rattle.store_disk.specs.declared.area.Area.{Area}
use Rattle.store_journal.specs.Records.{IsJournal}
use Rattle.store_journal.specs.Append.{Appends, MayAppend}
use Rattle.store_slots.proofs.Kept.{live_kept}
use Rattle.map_tables.specs.Projects.{ProjectMaps}
use Rattle.store_project.specs.Places.{IsInOrder}
use Rattle.store_project.specs.Stands.{StandsAt}
use Rattle.map_commands.specs.ProjectLines.{Leads, LeadsTo}
use Rattle.store_project.specs.Turns.{KeepsHeader}
use Rattle.store_project.specs.declared.places.Parts.{Parts}
use Rattle.store_project.proofs.Placing.{header_kept}

pub leads_append : (cap : ℕ) (old : ProjectMaps) (lines more : List (List ℕ)) (mid new : ProjectMaps)
    → Leads cap old lines mid → Leads cap mid more new → Leads cap old (lines ++ more) new
leads_append cap old [] more mid new leads further = subst (λ (m : ProjectMaps). Leads cap m more new) leads further
leads_append cap old (l ∷ lines) more mid new leads further = (leads.0, leads.1, leads_append cap leads.0 lines more mid new leads.2 further)

-- one line
pub leads_one : (cap : ℕ) (old : ProjectMaps) (line : List ℕ) (new : ProjectMaps) → LeadsTo cap old line new → Leads cap old (line ∷ []) new
leads_one cap old line new leads = (new, leads, refl)

pub leads_push : (cap : ℕ) (old : ProjectMaps) (lines : List (List ℕ)) (line : List ℕ) (mid new : ProjectMaps)
    → Leads cap old lines mid → LeadsTo cap mid line new → Leads cap old (lines ++ line ∷ []) new
leads_push cap old lines line mid new leads more = leads_append cap old lines (line ∷ []) mid new leads (leads_one cap mid line new more)

module _ (cap g : ℕ) (q : Parts) (order : IsInOrder q) (area : Area) (is : area ≡ q.journal) (more : List (List ℕ)) where
  stands_with : (map now : ProjectMaps) (old new : List ℕ) → KeepsOutside area.base area.length old new → (st : StandsAt cap q map g old)
      → (lines : List (List ℕ)) → IsJournal area lines new → Leads cap st.base lines now → StandsAt cap q now g new
  stands_with map now old new keeps st lines journal leads =
      let here : KeepsOutside q.journal.base q.journal.length old new = subst (λ (a : Area). KeepsOutside a.base a.length old new) is keeps in
      record {
        base = st.base;
        bytes = st.bytes;
        lines = lines;
        well_formed = st.well_formed;
        body = st.body;
        live = live_kept q.journal.base q.journal.length old new here q.live q.other g _ (omega (arith, order.other_some)) (inl order.live_first) (inl order.other_first) st.live;
        journal = subst (λ (a : Area). IsJournal a lines new) is journal;
        other = omega (arith, st.other, keeps.no_shorter);
        leads = leads;
      }

  of_journal : (lines : List (List ℕ)) (file : List ℕ) → IsJournal q.journal lines file → IsJournal area lines file
  of_journal lines file journal = subst (λ (a : Area). IsJournal a lines file) (sym is) journal

  pub appended : (map next : ProjectMaps) (old new : List ℕ) → Leads cap map more next → Appends area more old new → StandsAt cap q map g old → StandsAt cap q next g new
  appended map next old new leads step st =
      stands_with map next old new step.keeps st (st.lines ++ more) (step.journal st.lines (of_journal st.lines old st.journal)) (leads_append cap st.base st.lines more map next st.leads leads)

  pub may_append : (map next : ProjectMaps) (old new : List ℕ) → Leads cap map more next → MayAppend area more old new
      → StandsAt cap q map g old → StandsAt cap q map g new ⊎ StandsAt cap q next g new
  may_append map next old new leads step st =
      ⊎_elim (λ same. inl (stands_with map map old new step.keeps st st.lines same st.leads))
      (λ longer. inr (stands_with map next old new step.keeps st (st.lines ++ more) longer (leads_append cap st.base st.lines more map next st.leads leads)))
      (step.journal st.lines (of_journal st.lines old st.journal))

  pub append_header : (old new : List ℕ) → KeepsOutside area.base area.length old new → KeepsHeader old new
  append_header old new keeps =
      header_kept q.journal.base q.journal.length old new (omega (arith, order.header, order.other_first)) (subst (λ (a : Area). KeepsOutside a.base a.length old new) is keeps)

-- a handle's slots stay where their bytes stay
pub slots_kept : (s : Slots) (at n : ℕ) (old new : List ℕ) → KeepsOutside at n old new → areas.IsApart (live_of s) at n → areas.IsApart (other_of s) at n → 0 < (other_of s).length
    → (x : List ℕ) → HasSlots s x old → HasSlots s x new
slots_kept s at n old new keeps live other some x has = record {
  live = open_kept at n old new keeps (live_of s) s.generation x live has.live;
  shut = λ e. closed_kept (other_of s).base at n old new (⊎_elim (λ below. inl (omega (arith, below, some))) (λ above. inr above) other) keeps (has.shut e);
  older = λ e. let o = has.older e in (o.0, o.1, open_with_kept at n old new keeps (other_of s) o.0 o.1 other o.2, o.3);
}
