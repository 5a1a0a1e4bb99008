-- The bytes of an area of a file are read in one way.
use Rattle.std.proofs.Common.{subst, ◌≡◌, ◌⊎◌, inl, inr, ◌<◌, ◌≤◌, ◌+◌, ◌^◌, ℕ, List, [], ◌∷◌, ◌++◌, length, get_or, refl, sym, ◌∙◌, ap, arith, length-append}
use Rattle.std.proofs.lemmas.List.Elements.{All-head, All-tail}
use Rattle.std.proofs.lemmas.Nat.{from_le_bytes-to_le_bytes_4}
use Rattle.std.specs.List.{All}
use Rattle.std.specs.Int.{to_le_bytes, from_le_bytes, w32}
use Rattle.store_disk.specs.Files.{HasAt}
use Rattle.store_disk.specs.Gates.{IsClosedAt}
use Rattle.store_disk.specs.declared.area.Area.{Area}
use Rattle.store_disk.proofs.Bytes.{has_left, has_right, has_same, one_has}
use Rattle.store_journal.specs.Records.{record_bytes, records_bytes, IsJournal}
use Rattle.store_journal.specs.Damage.{IsInside, EndsBefore, HasBadRecordLength, IsBadRecord, BreaksOffAt, IsJournalDamagedAt}
use Rattle.store_journal.proofs.Lengths.{length-record}

abbrev IsShort : List ℕ → Type 0
IsShort payload = length payload ≤ 256

-- the length of the record, as it stands behind the gate
has_length : (place : ℕ) (p file : List ℕ) → HasAt place (record_bytes p) file → HasAt (place + 1) (to_le_bytes w32 (length p)) file
has_length place p file has =
    has_left (place + 1) (to_le_bytes w32 (length p)) p file (has_right place (165 ∷ []) (to_le_bytes w32 (length p) ++ p) file has)

-- a length read in two ways
length_same : (place n m : ℕ) (file : List ℕ) → n < 2 ^ 32 → m < 2 ^ 32 → HasAt place (to_le_bytes w32 n) file → HasAt place (to_le_bytes w32 m) file → n ≡ m
length_same place n m file n_fits m_fits has_n has_m =
    let sizes : to_le_bytes w32 n ≡ to_le_bytes w32 m = has_same place (to_le_bytes w32 n) (to_le_bytes w32 m) file refl has_n has_m in
    sym (from_le_bytes-to_le_bytes_4 n n_fits) ∙ ap (λ (l : List ℕ). from_le_bytes w32 l) sizes ∙ from_le_bytes-to_le_bytes_4 m m_fits

-- one record, read in two ways
record_same : (place : ℕ) (p q file : List ℕ) → HasAt place (record_bytes p) file → HasAt place (record_bytes q) file → length p ≤ 256 → length q ≤ 256 → p ≡ q
record_same place p q file has_p has_q short_p short_q =
    let size : length p ≡ length q =
    length_same (place + 1) (length p) (length q) file (omega (arith, short_p)) (omega (arith, short_q))
    (has_length place p file has_p) (has_length place q file has_q) in
    let behind_p = has_right place (165 ∷ []) (to_le_bytes w32 (length p) ++ p) file has_p in
    let behind_q = has_right place (165 ∷ []) (to_le_bytes w32 (length q) ++ q) file has_q in
    has_same (place + 1 + 4) p q file size (has_right (place + 1) (to_le_bytes w32 (length p)) p file behind_p) (has_right (place + 1) (to_le_bytes w32 (length q)) q file behind_q)

module _ (area : Area) (file : List ℕ) where
  -- a whole record, and its next gate in the file and in the area, is no bad one
  whole_record : (place : ℕ) (p : List ℕ) → HasAt place (record_bytes p) file → length p ≤ 256 → IsInside area (place + length (record_bytes p)) file → IsBadRecord area place file → ⊥
  whole_record place p has short next bad = no (bad.bad)
    where
      end : place + length (record_bytes p) ≡ place + 5 + length p
      end = omega (arith, length-record p)

      no_end : (at : ℕ) → at ≤ place + 6 + length p → EndsBefore area at file → ⊥
      no_end at le (inl short_file) = omega (arith, next.in_file, end)
      no_end at le (inr short_area) = omega (arith, next.in_area, end)

      no : EndsBefore area (place + 6) file ⊎ HasBadRecordLength area place file → ⊥
      no (inl ends) = no_end (place + 6) (omega arith) ends
      no (inr (n, has_n, fits, wrong)) = no_length n (length_same (place + 1) (length p) n file (omega (arith, short)) fits (has_length place p file has) has_n) wrong
        where
          no_length : (n : ℕ) → length p ≡ n → (256 < n) ⊎ EndsBefore area (place + 6 + n) file → ⊥
          no_length n is (inl long) = omega (arith, is, short, long)
          no_length n is (inr ends) = no_end (place + 6 + n) (omega (arith, is)) ends

  -- no record begins here: the gate is closed, or its record bad
  abbrev Stops : ℕ → Type 0
  Stops place = IsClosedAt place file ⊎ IsBadRecord area place file

  goes_on : (place : ℕ) (p : List ℕ) → HasAt place (record_bytes p) file → length p ≤ 256 → IsInside area (place + length (record_bytes p)) file → Stops place → ⊥
  goes_on place p has short next (inl shut) = shut.closed (one_has place 165 _ file has)
  goes_on place p has short next (inr bad) = whole_record place p has short next bad

  -- records that end in the file and in the area, where none begins
  record IsReading (place : ℕ) (ps : List (List ℕ)) : Type 0 where
    has : HasAt place (records_bytes ps) file
    short : All IsShort ps
    inside : IsInside area (place + length (records_bytes ps)) file
    ends : Stops (place + length (records_bytes ps))

  rest_of : (place : ℕ) (p : List ℕ) (ps : List (List ℕ)) → IsReading place (p ∷ ps) → IsReading (place + length (record_bytes p)) ps
  rest_of place p ps reading =
      let same : place + length (records_bytes (p ∷ ps)) ≡ place + length (record_bytes p) + length (records_bytes ps) = omega (arith, length-append (record_bytes p) (records_bytes ps)) in
      record {
        has = has_right place (record_bytes p) (records_bytes ps) file reading.has;
        short = All-tail IsShort p ps reading.short;
        inside = subst (λ (k : ℕ). IsInside area k file) same reading.inside;
        ends = subst (λ (k : ℕ). Stops k) same reading.ends;
      }

  -- a reading that goes on has a whole record, and the next gate
  not_here : (place : ℕ) (p : List ℕ) (ps : List (List ℕ)) → IsReading place (p ∷ ps) → Stops place → ⊥
  not_here place p ps reading stops =
      let rest = rest_of place p ps reading in
      goes_on place p (has_left place (record_bytes p) (records_bytes ps) file reading.has) (All-head IsShort p ps reading.short)
      (record { in_file = omega (arith, rest.inside.in_file); in_area = omega (arith, rest.inside.in_area) }) stops

  reading_same : (place : ℕ) (ps qs : List (List ℕ)) → IsReading place ps → IsReading place qs → ps ≡ qs
  reading_same place [] [] first second = refl
  reading_same place [] (q ∷ qs) first second =
      let here : place + 0 ≡ place = omega arith in
      absurd (not_here place q qs second (subst (λ (k : ℕ). Stops k) here first.ends))
  reading_same place (p ∷ ps) [] first second =
      let here : place + 0 ≡ place = omega arith in
      absurd (not_here place p ps first (subst (λ (k : ℕ). Stops k) here second.ends))
  reading_same place (p ∷ ps) (q ∷ qs) first second =
      let one : p ≡ q =
      record_same place p q file (has_left place (record_bytes p) (records_bytes ps) file first.has)
      (has_left place (record_bytes q) (records_bytes qs) file second.has) (All-head IsShort p ps first.short)
      (All-head IsShort q qs second.short) in
      let there : place + length (record_bytes q) ≡ place + length (record_bytes p) = ap (λ (l : List ℕ). place + length (record_bytes l)) (sym one) in
      let rest : ps ≡ qs = reading_same (place + length (record_bytes p)) ps qs (rest_of place p ps first) (subst (λ (k : ℕ). IsReading k qs) there (rest_of place q qs second)) in
      (λ i. one i ∷ rest i)

  sound_reading : (ps : List (List ℕ)) → IsJournal area ps file → IsReading area.base ps
  sound_reading ps is = record {
    has = is.records;
    short = is.short;
    inside = record { in_file = is.gate.within; in_area = omega (arith, is.room) };
    ends = inl is.gate;
  }

  bad_reading : (place : ℕ) → (breaks : BreaksOffAt area place file) → IsReading area.base breaks.payloads
  bad_reading place breaks = record {
    has = breaks.records;
    short = breaks.short;
    inside = subst (λ (k : ℕ). IsInside area k file) breaks.there breaks.bad.inside;
    ends = inr (subst (λ (k : ℕ). IsBadRecord area k file) breaks.there breaks.bad);
  }

  -- where the first gate isn't there, no place behind it is
  no_first : (place : ℕ) → area.base ≤ place → IsInside area place file → EndsBefore area (area.base + 1) file → ⊥
  no_first place le inside (inl short_file) = omega (arith, inside.in_file, le)
  no_first place le inside (inr short_area) = omega (arith, inside.in_area, le)

  pub one_journal : (ps qs : List (List ℕ)) → IsJournal area ps file → IsJournal area qs file → ps ≡ qs
  one_journal ps qs first second = reading_same area.base ps qs (sound_reading ps first) (sound_reading qs second)

  pub one_place : (p q : ℕ) → IsJournalDamagedAt area p file → IsJournalDamagedAt area q file → p ≡ q
  one_place p q (inl first) (inl second) = first.0 ∙ sym second.0
  one_place p q (inl first) (inr second) = absurd (no_first q (omega (arith, second.there)) second.bad.inside first.1)
  one_place p q (inr first) (inl second) = absurd (no_first p (omega (arith, first.there)) first.bad.inside second.1)
  one_place p q (inr first) (inr second) =
      let same = reading_same area.base first.payloads second.payloads (bad_reading p first) (bad_reading q second) in
      first.there ∙ ap (λ (ps : List (List ℕ)). area.base + length (records_bytes ps)) same ∙ sym second.there

  pub not_both : (ps : List (List ℕ)) (p : ℕ) → IsJournal area ps file → IsJournalDamagedAt area p file → ⊥
  not_both ps p sound (inl none) =
      let reading = sound_reading ps sound in
      no_first (area.base + length (records_bytes ps)) (omega arith) reading.inside none.1
  not_both ps p sound (inr breaks) =
      let same = reading_same area.base ps breaks.payloads (sound_reading ps sound) (bad_reading p breaks) in
      let there : area.base + length (records_bytes ps) ≡ p = ap (λ (l : List (List ℕ)). area.base + length (records_bytes l)) same ∙ sym breaks.there in
      sound.gate.closed (ap (λ (k : ℕ). get_or file k 0) there ∙ one_has p 165 [] file breaks.bad.gate)
