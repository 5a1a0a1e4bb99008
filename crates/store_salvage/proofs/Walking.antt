-- What has been read of a journal, record by record.
use Rattle.std.proofs.Common.{◌≡◌, ◌⊎◌, inl, inr, ◌<◌, ◌≤◌, ◌+◌, ℕ, true, false, not, eqb, eq-eqb, min, List, [], ◌∷◌, ◌++◌, length, length-append, get_or, refl, sym, ◌∙◌, ap, subst, arith}
use Rattle.std.specs.List.{All}
use Rattle.std.proofs.lemmas.Bool.{cases_lt, true≢false}
use Rattle.std.proofs.lemmas.Bool.Decides.{nat_tests}
use Rattle.std.proofs.lemmas.List.{append-nil, append_assoc}
use Rattle.std.proofs.lemmas.List.Elements.{All-push}
use Rattle.store_disk.specs.Files.{HasAt}
use Rattle.store_disk.specs.Gates.{IsClosedAt}
use Rattle.store_disk.specs.declared.area.Area.{Area}
use Rattle.store_disk.proofs.Bytes.{has_both, one_has}
use Rattle.store_journal.specs.Damage.{IsBadRecord}
use Rattle.store_journal.specs.Records.{record_bytes, records_bytes, IsJournal}
use Rattle.store_journal.proofs.Lengths.{records_bytes-push, length-push}
use Rattle.map_tables.specs.Projects.{ProjectMaps}
use Rattle.map_commands.specs.ProjectLines.{Leads, LeadsTo}
use Rattle.store_project.proofs.Recording.{leads_push}
use Rattle.store_salvage.specs.Records.{BreakOffAt, RefusesFirst}
use Rattle.store_salvage.specs.Replays.{IsReplayed}

-- these records are at the beginning of the area, up to this offset
pub record AreRead (area : Area) (lines : List (List ℕ)) (next : ℕ) (file : List ℕ) : Type 0 where
  pub records : HasAt area.base (records_bytes lines) file
  pub short : All (λ line. length line ≤ 256) lines
  pub there : next ≡ area.base + length (records_bytes lines)

-- no record at first
pub none_read : (area : Area) (file : List ℕ) → area.base < length file → AreRead area [] area.base file
none_read area file within = record {
  records = record { within = omega (arith, within); same = λ i lt. absurd (omega (arith, lt)) };
  short = λ k d lt. absurd (omega (arith, lt));
  there = omega arith;
}

module _ (area : Area) (file : List ℕ) (lines : List (List ℕ)) (next : ℕ) (are : AreRead area lines next file) where
  -- one more record
  pub read_more : (line : List ℕ) → length line ≤ 256 → HasAt next (record_bytes line) file → AreRead area (lines ++ line ∷ []) (next + (5 + length line)) file
  read_more line short has = record {
    records = subst (λ (l : List ℕ). HasAt area.base l file) (sym (records_bytes-push lines line))
        (has_both area.base (records_bytes lines) (record_bytes line) file are.records (subst (λ (k : ℕ). HasAt k (record_bytes line) file) are.there has));
    short = All-push (λ (p : List ℕ). length p ≤ 256) lines line are.short short;
    there = omega (arith, length-push lines line, are.there);
  }

  -- up to a closed gate
  pub read_closed : next < area.base + area.length → IsClosedAt next file → IsJournal area lines file
  read_closed inside shut = record {
    records = are.records;
    gate = subst (λ (k : ℕ). IsClosedAt k file) are.there shut;
    room = omega (arith, are.there, inside);
    short = are.short;
  }

  -- up to a bad record
  pub read_broken : IsBadRecord area next file → BreakOffAt area lines next file
  read_broken bad = inl (record { payloads = lines; records = are.records; short = are.short; there = are.there; bad = bad }, refl)

-- the file ends before the area's first gate
pub no_gate : (area : Area) (end : ℕ) (file : List ℕ) → end ≡ min (length file) (area.base + area.length) → end ≤ area.base → BreakOffAt area [] area.base file
no_gate area end file ends le =
    inr (refl, refl, elim (cases_lt (length file) (area.base + 1)) [ inl lt ↦ inl lt | inr ge ↦ inr (omega (arith, ends, le, ge)) ])

-- the records up to some offset: the kept ones lead to the maps, and the next one isn't accepted
pub record Walked (cap : ℕ) (area : Area) (base maps : ProjectMaps) (kept behind kept_to next : ℕ) (file : List ℕ) : Type 0 where
  pub front : List (List ℕ)
  pub back : List (List ℕ)
  pub are : AreRead area (front ++ back) next file
  pub leads : Leads cap base front maps
  pub refused : RefusesFirst cap maps back
  pub kept_count : kept ≡ length front
  pub back_count : behind ≡ length back
  pub kept_there : kept_to ≡ area.base + length (records_bytes front)

pub walked_none : (cap : ℕ) (area : Area) (base : ProjectMaps) (file : List ℕ) → area.base < length file → Walked cap area base base 0 0 area.base area.base file
walked_none cap area base file within = record {
  front = [];
  back = [];
  are = none_read area file within;
  leads = refl;
  refused = tt;
  kept_count = refl;
  back_count = refl;
  kept_there = omega arith;
}

module _ (cap : ℕ) (area : Area) (base maps : ProjectMaps) (file : List ℕ) where
  -- one more record is kept, if none was lost before
  kept_more : (front back : List (List ℕ)) (next : ℕ) (line : List ℕ) (new : ProjectMaps) → length back ≡ 0 → AreRead area (front ++ back) next file → Leads cap base front maps
      → length line ≤ 256 → HasAt next (record_bytes line) file → LeadsTo cap maps line new
      → Walked cap area base new (length front + 1) 0 (next + (5 + length line)) (next + (5 + length line)) file
  kept_more front [] next line new none are leads short has leads_to =
      let here : AreRead area front next file = subst (λ (ls : List (List ℕ)). AreRead area ls next file) (append-nil front) are in
      let more = read_more area file front next here line short has in
      record {
        front = front ++ line ∷ [];
        back = [];
        are = subst (λ (ls : List (List ℕ)). AreRead area ls (next + (5 + length line)) file) (sym (append-nil (front ++ line ∷ []))) more;
        leads = leads_push cap base front line maps new leads leads_to;
        refused = tt;
        kept_count = simp length-append (omega arith);
        back_count = refl;
        kept_there = more.there;
      }
  kept_more front (x ∷ back) next line new none are leads short has leads_to = absurd (omega (arith, none))

  -- the first of the lost ones stays the first
  refused_more : (back : List (List ℕ)) (line : List ℕ) → RefusesFirst cap maps back → (length back ≡ 0 → (new : ProjectMaps) → ¬ LeadsTo cap maps line new) → RefusesFirst cap maps (back ++ line ∷ [])
  refused_more [] line refused first = first refl
  refused_more (x ∷ back) line refused first = refused

  pub walked_kept : (kept behind kept_to next : ℕ) (line : List ℕ) (new : ProjectMaps) → Walked cap area base maps kept behind kept_to next file → behind ≡ 0
      → length line ≤ 256 → HasAt next (record_bytes line) file → LeadsTo cap maps line new
      → Walked cap area base new (kept + 1) behind (next + (5 + length line)) (next + (5 + length line)) file
  walked_kept kept behind kept_to next line new w none short has leads_to =
      subst (λ (m : ℕ). Walked cap area base new (kept + 1) m (next + (5 + length line)) (next + (5 + length line)) file) (sym none)
      (subst (λ (n : ℕ). Walked cap area base new (n + 1) 0 (next + (5 + length line)) (next + (5 + length line)) file) (sym w.kept_count)
      (kept_more w.front w.back next line new (sym w.back_count ∙ none) w.are w.leads short has leads_to))

  pub walked_lost : (kept behind kept_to next : ℕ) (line : List ℕ) → Walked cap area base maps kept behind kept_to next file
      → length line ≤ 256 → HasAt next (record_bytes line) file → (behind ≡ 0 → (new : ProjectMaps) → ¬ LeadsTo cap maps line new)
      → Walked cap area base maps kept (behind + 1) kept_to (next + (5 + length line)) file
  walked_lost kept behind kept_to next line w short has refused = record {
    front = w.front;
    back = w.back ++ line ∷ [];
    are = subst (λ (ls : List (List ℕ)). AreRead area ls (next + (5 + length line)) file) (append_assoc w.front w.back (line ∷ []))
        (read_more area file (w.front ++ w.back) next w.are line short has);
    leads = w.leads;
    refused = refused_more w.back line w.refused (λ none. refused (w.back_count ∙ none));
    kept_count = w.kept_count;
    back_count = simp length-append (omega (arith, w.back_count));
    kept_there = w.kept_there;
  }

-- ---- the end

gate_shut : (n : ℕ) → not (eqb n 165) ≡ true → n ≡ 165 → ⊥
gate_shut n is same = true≢false (sym is ∙ ap not (eq-eqb n 165 same))

gate_open : (n : ℕ) → not (eqb n 165) ≡ false → n ≡ 165
gate_open n is = grind (arith, nat_tests, is)

module _ (cap : ℕ) (area : Area) (base maps : ProjectMaps) (file : List ℕ) where
  pub replayed : (kept behind kept_to next : ℕ) → next < area.base + area.length → Walked cap area base maps kept behind kept_to next file
      → IsClosedAt next file ⊎ IsBadRecord area next file
      → IsReplayed cap area base maps (record { kept = kept; behind = behind; kept_to = kept_to; end = next; is_closed = not (eqb (get_or file next 0) 165) }) file
  replayed kept behind kept_to next inside w ends = record {
    kept = w.front;
    lost = w.back;
    leads = w.leads;
    refused = w.refused;
    kept_count = w.kept_count;
    lost_count = w.back_count;
    kept_to = w.kept_there;
    closed = λ is. read_closed area file (w.front ++ w.back) next w.are inside (shut is ends);
    broken = λ is. read_broken area file (w.front ++ w.back) next w.are (bad is ends);
  }
    where
      shut : not (eqb (get_or file next 0) 165) ≡ true → IsClosedAt next file ⊎ IsBadRecord area next file → IsClosedAt next file
      shut is (inl closed) = closed
      shut is (inr broken) = absurd (gate_shut (get_or file next 0) is (one_has next 165 [] file broken.gate))

      bad : not (eqb (get_or file next 0) 165) ≡ false → IsClosedAt next file ⊎ IsBadRecord area next file → IsBadRecord area next file
      bad is (inl closed) = absurd (closed.closed (gate_open (get_or file next 0) is))
      bad is (inr broken) = broken
