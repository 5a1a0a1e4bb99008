-- What the bytes of an area stand for depends on these bytes alone.
use Rattle.std.proofs.Common.{◌≡◌, inl, inr, ⊎_elim, ◌<◌, ◌≤◌, ◌+◌, ℕ, List, [], length, get_or, sym, ◌∙◌, ap, subst, arith}
use Rattle.store_disk.specs.Areas.{IsApart}
use Rattle.store_disk.specs.Files.{KeepsOutside}
use Rattle.store_disk.specs.Gates.{IsClosedAt}
use Rattle.store_disk.specs.declared.area.Area.{Area}
use Rattle.store_disk.proofs.Bytes.{has_kept}
use Rattle.store_disk.proofs.Gates.{closed_kept}
use Rattle.store_journal.specs.Damage.{IsJournalDamagedAt}
use Rattle.store_journal.specs.Records.{records_bytes, IsJournal}

pub journal_kept : (area : Area) (payloads : List (List ℕ)) (at n : ℕ) (old new : List ℕ) → IsApart area at n → KeepsOutside at n old new → IsJournal area payloads old → IsJournal area payloads new
journal_kept area payloads at n old new apart keeps is = record {
  records = has_kept at n area.base (records_bytes payloads) old new (⊎_elim (λ below. inl (omega (arith, below, is.room))) (λ above. inr above) apart) keeps is.records;
  gate = closed_kept (area.base + length (records_bytes payloads)) at n old new (⊎_elim (λ below. inl (omega (arith, below, is.room))) (λ above. inr (omega (arith, above))) apart) keeps is.gate;
  room = is.room;
  short = is.short;
}

-- an area that stands for no payload begins with a closed gate
pub none_closed : (area : Area) (file : List ℕ) → IsJournal area [] file → IsClosedAt area.base file
none_closed area file is =
    let here : area.base + 0 ≡ area.base = omega arith in
    subst (λ (k : ℕ). IsClosedAt k file) here is.gate

pub begins_inside : (area : Area) (payloads : List (List ℕ)) (file : List ℕ) → IsJournal area payloads file → (0 < area.length) × (area.base < length file)
begins_inside area payloads file is = (omega (arith, is.room), omega (arith, is.gate.within))

pub damage_inside : (area : Area) (place : ℕ) (file : List ℕ) → 0 < area.length → IsJournalDamagedAt area place file → (area.base ≤ place) × (place < area.base + area.length)
damage_inside area place file some (inl first) = (omega (arith, first.0), omega (arith, first.0, some))
damage_inside area place file some (inr breaks) = (omega (arith, breaks.there), breaks.bad.inside.in_area)

pub journal_none : (area : Area) (file : List ℕ) → 0 < area.length → IsClosedAt area.base file → IsJournal area [] file
journal_none area file some shut =
    let here : area.base + 0 ≡ area.base = omega arith in
    record {
      records = record { within = omega (arith, shut.within); same = λ i lt. absurd (omega (arith, lt)) };
      gate = record { within = omega (arith, shut.within); closed = λ is_open. shut.closed (ap (λ (k : ℕ). get_or file k 0) (sym here) ∙ is_open) };
      room = some;
      short = λ k d lt. absurd (omega (arith, lt));
    }
