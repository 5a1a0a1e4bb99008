-- The least place of a fault at a gate; and what a new project's writes leave.
use Rattle.std.proofs.Common.{◌≡◌, inl, inr, ⊎_elim, ◌<◌, ◌≤◌, ℕ, false, min, List, [], ◌∷◌, length, refl, sym, ◌∙◌, ap, subst, arith}
use Rattle.std.proofs.lemmas.Bool.{cases_lt, true≢false}
use Rattle.store_disk.specs.Files.{HasAt, Written}
use Rattle.store_disk.specs.Gates.{IsClosedAt}
use Rattle.store_disk.proofs.Bytes.{has_kept}
use Rattle.store_journal.specs.Records.{IsJournal}
use Rattle.store_journal.specs.Damage as journal
use Rattle.store_journal.proofs.OneReading.{one_place, not_both}
use Rattle.store_journal.proofs.Kept.{journal_none}
use Rattle.store_disk.specs.declared.area.Area.{Area}
use Rattle.store_slots.specs.Bodies.{IsLive, IsOpen}
use Rattle.store_slots.specs.Handles.{live_of, other_of, generation_of, finds_open, HasSomeSlots}
use Rattle.store_slots.specs.declared.slots.Slots.{Slots}
use Rattle.store_slots.specs.Steps.{IsFirst}
use Rattle.store_slots.proofs.Kept.{live_kept}
use Rattle.store_disk.proofs.Gates.{closed_kept, closed_now}
use Rattle.map_tables.specs.Projects.{WellFormedProject, empty_project}
use Rattle.map_tables.specs.ProjectBody.{project_body}
use Rattle.store_project.specs.Places.{IsAllowed, AreLaidOut, cap_of, header_bytes}
use Rattle.store_project.specs.Stands.{HasGeometry, StandsAt}
use Rattle.store_project.specs.Damage.{IsLeastGateFault}
use Rattle.store_project.specs.declared.geometry.Geometry.{Geometry}
use Rattle.store_project.specs.declared.places.Places.{Places}
use Rattle.store_project.specs.declared.places.Parts.{Parts}

module _ (q : Parts) (file : List ℕ) where
  pub missing : (ps : List (List ℕ)) → IsJournal q.journal ps file → length file ≤ q.other_journal.base → IsLeastGateFault q q.other_journal.base file
  missing ps sound short = record {
    fault = inr (refl, short);
    least = λ other is. ⊎_elim (λ bad. absurd (not_both q.journal file ps other sound bad)) (λ here. omega (arith, here.0)) is;
  }

  pub both : (place m : ℕ) → journal.IsJournalDamagedAt q.journal place file → length file ≤ q.other_journal.base → m ≡ min place q.other_journal.base → IsLeastGateFault q m file
  both place m bad short is = record {
    fault = elim (cases_lt place q.other_journal.base) [
      | inl lt ↦ (let same : place ≡ m = omega (arith, is, lt) in inl (subst (λ (k : ℕ). journal.IsJournalDamagedAt q.journal k file) same bad))
      | inr ge ↦ inr (omega (arith, is, ge), short)
    ];
    least = λ other fault. ⊎_elim (λ there. omega (arith, is, one_place q.journal file other place there bad)) (λ here. omega (arith, is, here.0)) fault;
  }

  pub alone : (place : ℕ) → journal.IsJournalDamagedAt q.journal place file → q.other_journal.base < length file → IsLeastGateFault q place file
  alone place bad long = record {
    fault = inl bad;
    least = λ other fault. ⊎_elim (λ there. omega (arith, one_place q.journal file other place there bad)) (λ here. absurd (omega (arith, long, here.1))) fault;
  }

module _ (g : Geometry) (p : Places) (allowed : IsAllowed g.slot g.journal) (laid : AreLaidOut g p) (formed : WellFormedProject empty_project) where
  abbrev hdr : List ℕ
  hdr = header_bytes g.slot g.journal

  pub made : (bytes f0 f1 f2 f3 f4 : List ℕ) → bytes ≡ hdr → Written 0 bytes f0 f1
      → IsFirst p.a p.b (project_body empty_project) f1 f2 → Written p.first.base (0 ∷ []) f2 f3
      → Written p.second.base (0 ∷ []) f3 f4
      → HasGeometry g p f4 × StandsAt (cap_of g) (record { live = p.a; other = p.b; journal = p.first; other_journal = p.second }) empty_project 1 f4 × IsClosedAt p.b.base f4 × IsJournal p.first [] f4
  made bytes f0 f1 f2 f3 f4 is w1 first w3 w4 =
      let size : length hdr ≡ 16 = refl in
      let one : HasAt 0 hdr f1 = subst (λ (l : List ℕ). HasAt 0 l f1) is (w1.has (omega (arith, ap length is, size))) in
      let mid : HasAt 0 hdr first.middle = has_kept p.a.base p.a.length 0 hdr f1 first.middle (inl (omega (arith, size, laid.a_base))) first.at_a one in
      let two : HasAt 0 hdr f2 = has_kept p.b.base 1 0 hdr first.middle f2 (inl (omega (arith, size, laid.b_base))) first.at_b mid in
      let three : HasAt 0 hdr f3 = has_kept p.first.base 1 0 hdr f2 f3 (inl (omega (arith, size, laid.first_base))) w3.keeps two in
      let four : HasAt 0 hdr f4 = has_kept p.second.base 1 0 hdr f3 f4 (inl (omega (arith, size, laid.second_base))) w4.keeps three in
      let some : 0 < p.b.length = omega (arith, laid.b_length, allowed.slot_low) in
      let live3 = live_kept p.first.base 1 f2 f3 w3.keeps p.a p.b 1 (project_body empty_project) some
      (inl (omega (arith, laid.a_base, laid.a_length, laid.first_base)))
      (inl (omega (arith, laid.b_base, laid.b_length, laid.first_base))) first.live in
      let live4 = live_kept p.second.base 1 f3 f4 w4.keeps p.a p.b 1 (project_body empty_project) some
      (inl (omega (arith, laid.a_base, laid.a_length, laid.second_base)))
      (inl (omega (arith, laid.b_base, laid.b_length, laid.second_base))) live3 in
      let shut : IsClosedAt p.first.base f4 =
      closed_kept p.first.base p.second.base 1 f3 f4
      (inl (omega (arith, laid.first_base, laid.second_base, allowed.journal_low))) w4.keeps
      (closed_now p.first.base f2 f3 w3) in (
        record { allowed = allowed; header = four; laid_out = laid },
        record {
          base = empty_project;
          bytes = project_body empty_project;
          lines = [];
          well_formed = formed;
          body = inl refl;
          live = live4;
          journal = journal_none p.first f4 (omega (arith, laid.first_length, allowed.journal_low)) shut;
          other = (closed_now p.second.base f3 f4 w4).within;
          leads = refl;
        },
        closed_kept p.b.base p.second.base 1 f3 f4 (inl
            (omega (arith, laid.b_base, laid.b_length, laid.second_base, some))) w4.keeps
            (closed_kept p.b.base p.first.base 1 f2 f3 (inl
            (omega (arith, laid.b_base, laid.b_length, laid.first_base, some))) w3.keeps first.closed),
        journal_none p.first f4 (omega (arith, laid.first_length, allowed.journal_low)) shut,
      )

-- the handle of the first slots tells of the file
pub slots_made : (s : Slots) (a b : Area) (x file : List ℕ) → live_of s ≡ a → other_of s ≡ b → generation_of s ≡ 1
    → finds_open s ≡ false → IsLive a b 1 x file → IsClosedAt b.base file → HasSomeSlots s file
slots_made s a b x file live_is other_is generation_is open_is live shut = (
  x,
  record {
    live = subst (λ (c : Area). IsOpen c (generation_of s) x file) (sym live_is) (subst (λ (k : ℕ). IsOpen a k x file) (sym generation_is) live.is_open);
    shut = λ e. subst (λ (c : Area). IsClosedAt c.base file) (sym other_is) shut;
    older = λ e. absurd (true≢false (sym e ∙ open_is));
  },
)
