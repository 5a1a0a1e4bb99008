-- A project that was just made is sound.
use Rattle.std.proofs.Common.{◌≡◌, ◌≤◌, ℕ, false, [], refl, sym, ◌∙◌, ap, subst, arith}
use Rattle.store_disk.specs.Stops.{Each}
use Rattle.store_disk.specs.declared.disk.Disk.{Ghosts}
use Rattle.store_journal.specs.State as journal
use Rattle.store_journal.specs.Records.{EndsAt, IsJournal}
use Rattle.store_slots.specs.Handles.{first_area, second_of, slot_of, generation_of, HasSomeSlots}
use Rattle.map_tables.specs.Projects.{ProjectMaps, body_len, empty_project, project_of}
use Rattle.store_project.specs.Places.{IsAllowed, AreLaidOut, cap_of, which_parts}
use Rattle.store_project.specs.Stands.{HasGeometry, StandsAt}
use Rattle.store_project.specs.Fields.{IsProjectSound, parts_in}
use Rattle.store_project.specs.declared.places.Parts.{Parts}
use Rattle.store_project.specs.declared.project.Project.TheInside.{Inside}

pub sound_created : {D : Type 0} (facts : Ghosts D) (p : Inside D) → IsAllowed p.geometry.slot p.geometry.journal → AreLaidOut p.geometry p.places
    → first_area p.slots ≡ p.places.a → second_of p.slots ≡ p.places.b → slot_of p.slots ≡ 0 → generation_of p.slots ≡ 1
    → p.journal ≡ journal.opened p.places.first [] → (project_of p.maps) ≡ empty_project
    → Each (facts.may_leave p.disk) (λ file. HasGeometry p.geometry p.places file
    × StandsAt (cap_of p.geometry) (which_parts p.places 0) empty_project 1 file)
    → Each (facts.may_leave p.disk) (HasSomeSlots p.slots)
    → Each (facts.may_leave p.disk) (IsJournal p.places.first []) → IsProjectSound facts p
sound_created facts p allowed laid first second slot_is generation_is journal_is map_is made slots none =
    let parts : which_parts p.places 0 ≡ parts_in p = ap (which_parts p.places) (sym slot_is) in
    let area : p.journal.area ≡ (parts_in p).journal = ap (λ (j : journal.JournalState). j.area) journal_is ∙ ap (λ (q : Parts). q.journal) parts in
    let go : p.journal.must_reopen ≡ false = ap (λ (j : journal.JournalState). j.must_reopen) journal_is in
    let small : body_len empty_project ≡ 20 = refl in
    record {
      framed = record {
        allowed = allowed;
        laid_out = laid;
        first = first;
        second = second;
        which = omega (arith, slot_is);
        journal = area;
        fits = subst (λ (t : ProjectMaps). body_len t ≤ cap_of p.geometry) (sym map_is) (omega (arith, small, allowed.slot_low));
      };
      ready = λ _. record {
        journal = go;
        geometry = λ file left. (made file left).0;
        stands = λ file left. subst (λ (q : Parts). StandsAt (cap_of p.geometry) q (project_of p.maps) (generation_of p.slots) file) parts
            (subst (λ (t : ProjectMaps). StandsAt (cap_of p.geometry) (which_parts p.places 0) t (generation_of p.slots) file) (sym map_is)
            (subst (λ (k : ℕ). StandsAt (cap_of p.geometry) (which_parts p.places 0) empty_project k file) (sym generation_is) (made file left).1));
        slots = slots;
        ends = λ file left. subst (λ (j : journal.JournalState). EndsAt j.area j.next file) (sym journal_is) ([], none file left, refl);
      };
    }
