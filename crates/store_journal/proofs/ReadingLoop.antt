-- What has been read of an area, record by record.
use Rattle.std.proofs.Common.{◌≡◌, inl, inr, ◌⊎◌, ◌<◌, ◌≤◌, ◌+◌, ◌-◌, ◌^◌, ℕ, min, List, [], ◌∷◌, ◌++◌, length, take, drop, Option, None, Some, Result, Ok, Err, sym, subst, arith}
use Rattle.std.specs.Prelude.{slice_range, IfNone, IfSome, OnOk}
use Rattle.std.specs.List.{All}
use Rattle.std.specs.Int.{to_le_bytes, w32}
use Rattle.std.proofs.Math.Seq.{take-add}
use Rattle.std.proofs.lemmas.List.{length-take-le}
use Rattle.std.proofs.lemmas.Bool.{cases_lt}
use Rattle.std.proofs.lemmas.List.Elements.{All-push}
use Rattle.store_disk.specs.Files.{HasAt}
use Rattle.store_disk.specs.Stops.{Each}
use Rattle.store_disk.specs.Gates.{open_gate, IsClosedAt}
use Rattle.store_disk.specs.declared.area.Area.{Area}
use Rattle.store_disk.proofs.Bytes.{has_both, has_left, has_right}
use Rattle.store_journal.specs.Records.{record_bytes, records_bytes}
use Rattle.store_journal.specs.Reading.{ReaderState, HasRead, HasFoundGate}
use Rattle.store_journal.specs.Damage.{EndsBefore, IsBadRecord, IsJournalDamagedAt}
use Rattle.store_journal.proofs.Lengths.{records_bytes-push, length-push}

-- the same of other files, all of which are among the first
pub found_among : (place end : ℕ) (reads others : List ℕ → Type 0) (found : Option ℕ) → Each others reads → IfNone found (Each reads (IsClosedAt place))
    → IfSome found (λ _. Each reads (HasAt place (open_gate ∷ []))) → IfSome found (λ len. Each reads (HasAt (place + 1) (to_le_bytes w32 len)))
    → IfSome found (λ len. (len ≤ 256) × (place + 6 + len ≤ end)) → HasFoundGate place end others found
found_among place end reads others None among closed gate told fits = λ file is. closed file (among file is)
found_among place end reads others (Some len) among closed gate told fits =
    (λ file is. gate file (among file is), λ file is. told file (among file is), fits.0, fits.1)

-- a record from its gate, its length and its payload
pub whole_record : (place n : ℕ) (payload file : List ℕ) → length payload ≡ n → HasAt place (open_gate ∷ []) file
    → HasAt (place + 1) (to_le_bytes w32 n) file → HasAt (place + 5) payload file
    → HasAt place (record_bytes payload) file
whole_record place n payload file is_long has_gate has_len has_payload =
    let le = to_le_bytes w32 (length payload) in
    let len : HasAt (place + 1) le file = subst (λ (k : ℕ). HasAt (place + 1) (to_le_bytes w32 k) file) (sym is_long) has_len in
    let at : place + 5 ≡ place + 1 + length le = omega arith in
    let behind : HasAt (place + 1) (le ++ payload) file = has_both (place + 1) le payload file len (subst (λ (k : ℕ). HasAt k payload file) at has_payload) in
    has_both place (open_gate ∷ []) (le ++ payload) file has_gate behind

-- where more bytes were read, the first of them
pub has_front : (at len more : ℕ) (bytes file : List ℕ) → HasAt at (take (len + more) bytes) file → HasAt at (take len bytes) file
has_front at len more bytes file has =
    has_left at (take len bytes) (take more (drop len bytes)) file (subst (λ (l : List ℕ). HasAt at l file) (take-add len more bytes) has)

-- and those behind the first
pub has_rest : (at len more : ℕ) (bytes file : List ℕ) → len ≤ length bytes → HasAt at (take (len + more) bytes) file
    → HasAt (at + len) (slice_range bytes len (len + more)) file
has_rest at len more bytes file within has =
    let rest = has_right at (take len bytes) (take more (drop len bytes)) file (subst (λ (l : List ℕ). HasAt at l file) (take-add len more bytes) has) in
    let behind : HasAt (at + len) (take more (drop len bytes)) file =
    subst (λ (k : ℕ). HasAt (at + k) (take more (drop len bytes)) file) (length-take-le len bytes within) rest in
    let same : more ≡ len + more - len = omega arith in
    subst (λ (k : ℕ). HasAt (at + len) (take k (drop len bytes)) file) same behind

-- what follows of a call that ended well
pub on_ok : {T E P Q : Type 0} (result : Result T E) → (P → Q) → OnOk result P → OnOk result Q
on_ok (Ok value) f h = f h
on_ok (Err error) f h = tt

module _ (r : ReaderState) (payloads : List (List ℕ)) (files : List ℕ → Type 0) (read : HasRead r payloads files) where
  -- where the next gate is open: the payload behind it, from what a call read
  module _ (n : ℕ) (bytes : List ℕ) (is_open : r.found ≡ Some n) (room : length bytes ≡ 261) (there : Each files (HasAt (r.area.base + r.next + 5) (take n bytes))) where
    head : HasFoundGate (r.area.base + r.next) r.end files (Some n)
    head = subst (λ (f : Option ℕ). HasFoundGate (r.area.base + r.next) r.end files f) is_open read.found

    is_long : length (take n bytes) ≡ n
    is_long = length-take-le n bytes (omega (arith, room, head.2))

    size : length (records_bytes (payloads ++ take n bytes ∷ [])) ≡ r.next + (5 + n)
    size = omega (arith, length-push payloads (take n bytes), read.len, is_long)

    more_short : All (λ payload. length payload ≤ 256) (payloads ++ take n bytes ∷ [])
    more_short = All-push (λ (p : List ℕ). length p ≤ 256) payloads (take n bytes) read.short (omega (arith, is_long, head.2))

    more_bytes : Each files (HasAt r.area.base (records_bytes (payloads ++ take n bytes ∷ [])))
    more_bytes file is =
        let record_there = whole_record (r.area.base + r.next) n (take n bytes) file is_long (head.0 file is) (head.1 file is) (there file is) in
        subst (λ (l : List ℕ). HasAt r.area.base l file) (sym (records_bytes-push payloads (take n bytes)))
        (has_both r.area.base (records_bytes payloads) (record_bytes (take n bytes)) file (read.has file is)
        (subst (λ (k : ℕ). HasAt (r.area.base + k) (record_bytes (take n bytes)) file) read.len record_there))

    -- with this payload, of files that are among these
    pub has_one_more : (place : ℕ) (later : List ℕ → Type 0) (found : Option ℕ) → place ≡ r.area.base + (r.next + (5 + n)) → Each later files → HasFoundGate place r.end later found
        → HasRead (record r { next = r.next + (5 + n); found = found; last = take n bytes }) (payloads ++ take n bytes ∷ []) later
    has_one_more place later found at among is = record {
      len = sym size;
      inside = omega (arith, head.3);
      within = read.within;
      ends = λ file i. read.ends file (among file i);
      short = more_short;
      has = λ file i. more_bytes file (among file i);
      found = subst (λ (k : ℕ). HasFoundGate k r.end later found) at is;
    }

    -- a bad record behind this payload
    pub breaks_behind : (place : ℕ) → place ≡ r.area.base + (r.next + (5 + n)) → Each files (IsBadRecord r.area place) → Each files (IsJournalDamagedAt r.area place)
    breaks_behind place at bad file is = inr (record {
      payloads = payloads ++ take n bytes ∷ [];
      records = more_bytes file is;
      short = more_short;
      there = omega (arith, at, size);
      bad = bad file is;
    })

-- ---- Where a head stands

module _ (place gate : ℕ) (len head file : List ℕ) (is : head ≡ gate ∷ len) (has : HasAt place head file) where
  has_parts : HasAt place (gate ∷ len) file
  has_parts = subst (λ (l : List ℕ). HasAt place l file) is has

  pub has_gate : HasAt place (gate ∷ []) file
  has_gate = has_left place (gate ∷ []) len file has_parts

  pub has_length : HasAt (place + 1) len file
  has_length = has_right place (gate ∷ []) len file has_parts

ends_before : (area : Area) (place end : ℕ) (file : List ℕ) → end ≡ min (length file) (area.base + area.length) → end < place → EndsBefore area place file
ends_before area place end file ends lt =
    elim (cases_lt (length file) place) [ inl below ↦ inl below | inr above ↦ inr (omega (arith, ends, lt, above)) ]

-- an open gate, and a length that is too great or for which there is no room
pub is_bad : (area : Area) (place end n : ℕ) (file : List ℕ) → place < end → end ≡ min (length file) (area.base + area.length)
    → HasAt place (open_gate ∷ []) file → HasAt (place + 1) (to_le_bytes w32 n) file → n < 2 ^ 32
    → (256 < n) ⊎ (end < place + 6 + n) → IsBadRecord area place file
is_bad area place end n file inside ends gate told small bad = record {
  inside = record { in_file = omega (arith, inside, ends); in_area = omega (arith, inside, ends) };
  gate = gate;
  bad = inr (n, told, small, elim bad [ inl long ↦ inl long | inr beyond ↦ inr (ends_before area (place + 6 + n) end file ends beyond) ]);
}
