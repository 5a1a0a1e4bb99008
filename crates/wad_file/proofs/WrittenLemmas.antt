-- The lumps that are written are the lumps that are read.
use Rattle.std.proofs.Common.{◌≡◌, ◌∙◌, refl, sym, ap, subst, ℕ, zero, suc, ◌+◌, ◌*◌, ◌-◌, ◌<◌, ◌≤◌, ◌⊎◌, inl, inr, Bool, true, false, ◌&&◌, List, [], ◌∷◌, ◌++◌, length, get_or, take, drop, arith, append_assoc, length-append}
use Rattle.std.specs.Prelude.{◌/◌, ◌%◌, ◌||◌, flat_map, map, All, None, codes, nat_eq, nat_le, nat_lt}
use Rattle.std.specs.Cmp.Lexicographic.{as_long}
use Rattle.std.specs.List.{range_with_len}
use Rattle.std.proofs.Math.Seq.{drop-append_seam, take-append_seam}
use Rattle.std.proofs.lemmas.Bool.Decides.{nat_tests}
use Rattle.std.proofs.lemmas.Bool.{cases_lt}
use Rattle.std.proofs.lemmas.List.{get_or-append-add}
use Rattle.std.proofs.lemmas.List.Elements.{All-nil, All-cons, All-head, All-tail}
use Rattle.std.proofs.lemmas.List.FromFn.{fill_by_all}
use Rattle.lump_records.specs.declared.records.Name8.{Name8}
use Rattle.wad_file.specs.Directory.{are_inside, directory_at, entry, entry_place, has_directory, is_kind, is_outside, is_wad, lump, lump_count, wad_refusal}
use Rattle.wad_file.specs.Fields.{long_at, same_bytes}
use Rattle.wad_file.specs.Lumps.{IsNamed8, IsWadOf, Lump, all_bytes, entries_from, entry_bytes, long, lump_at, wad_head, wad_of, wad_size}
use Rattle.wad_file.specs.declared.entry.Entry.{Entry}
use Rattle.wad_file.proofs.DirectoryLemmas.{add_zero}

-- an entry that 16 bytes hold
record IsEntry (e : Entry) : Type 0 where
  pub at : e.at < 4294967296
  pub size : e.size < 4294967296
  pub name : length e.name.bytes ≡ 8

behind : (xs ys : List ℕ) (j i : ℕ) → i ≡ length xs + j → get_or (xs ++ ys) i 0 ≡ get_or ys j 0
behind xs ys j i e = ap (λ (k : ℕ). get_or (xs ++ ys) k 0) e ∙ get_or-append-add xs ys j 0

four : (n : ℕ) → n < 4294967296 → n % 256 + 256 * (n / 256 % 256) + 65536 * (n / 65536 % 256 + 256 * (n / 16777216 % 256)) ≡ n
four n h = omega arith

long_back : (xs rest : List ℕ) (n i : ℕ) → n < 4294967296 → i ≡ length xs → long_at i (xs ++ (long n ++ rest)) ≡ n
long_back xs rest n i h e =
    let a = behind xs (long n ++ rest) 0 i (omega (arith, e)) in
    let b = behind xs (long n ++ rest) 1 (i + 1) (omega (arith, e)) in
    let c = behind xs (long n ++ rest) 2 (i + 2) (omega (arith, e)) in
    let d = behind xs (long n ++ rest) 3 (i + 2 + 1) (omega (arith, e)) in
    rw (a, b, c, d) (four n h)

-- an entry's offset and size, after any bytes
at_back : (xs rest : List ℕ) (e : Entry) → IsEntry e → long_at (length xs) (xs ++ (entry_bytes e ++ rest)) ≡ e.at
at_back xs rest e i = long_back xs (long e.size ++ (e.name.bytes ++ rest)) e.at (length xs) i.at refl

size_back : (xs rest : List ℕ) (e : Entry) → IsEntry e → long_at (length xs + 4) (xs ++ (entry_bytes e ++ rest)) ≡ e.size
size_back xs rest e i =
    let l = length-append xs (long e.at) in
    ap (long_at (length xs + 4)) (sym (append_assoc xs (long e.at) (long e.size ++ (e.name.bytes ++ rest))))
    ∙ long_back (xs ++ long e.at) (e.name.bytes ++ rest) e.size (length xs + 4) i.size (sym l)

-- an entry's name, after any bytes
name_back : (xs rest : List ℕ) (e : Entry) → IsEntry e → take 8 (drop (length xs + 8) (xs ++ (entry_bytes e ++ rest))) ≡ e.name.bytes
name_back xs rest e i =
    let l = length-append xs (long e.at ++ long e.size) in
    let there : length xs + 8 ≡ length (xs ++ (long e.at ++ long e.size)) = omega (arith, l) in
    ap (λ (n : ℕ). take 8 (drop n (xs ++ (entry_bytes e ++ rest)))) there
    ∙ ap (λ (ws : List ℕ). take 8 (drop (length (xs ++ (long e.at ++ long e.size))) ws)) (sym (append_assoc xs (long e.at ++ long e.size) (e.name.bytes ++ rest)))
    ∙ ap (take 8) (drop-append_seam (xs ++ (long e.at ++ long e.size)) (e.name.bytes ++ rest))
    ∙ ap (λ (n : ℕ). take n (e.name.bytes ++ rest)) (sym i.name)
    ∙ take-append_seam e.name.bytes rest

-- what is read of the k-th entry, if the entries follow any bytes
record ReadsBack (ws : List ℕ) (place : ℕ) (e : Entry) : Type 0 where
  pub at : long_at place ws ≡ e.at
  pub size : long_at (place + 4) ws ≡ e.size
  pub name : take 8 (drop (place + 8) ws) ≡ e.name.bytes

entry_length : (e : Entry) → IsEntry e → length (entry_bytes e) ≡ 16
entry_length e i = let n = i.name in let l = length-append (long e.at ++ long e.size) e.name.bytes in omega (arith, n, l)

entries_back :
    (xs : List ℕ) (es : List Entry) (k place : ℕ) (d : Entry) → All IsEntry es → k < length es → place ≡ length xs + 16 * k → ReadsBack (xs ++ flat_map entry_bytes es) place (get_or es k d)
entries_back xs [] k place d a h p = absurd (omega arith)
entries_back xs (e ∷ es) zero place d a h p =
    let i = All-head IsEntry e es a in
    let here : length xs ≡ place = omega (arith, p) in
    subst (λ (n : ℕ). ReadsBack (xs ++ (entry_bytes e ++ flat_map entry_bytes es)) n e) here
    (record { at = at_back xs (flat_map entry_bytes es) e i; size = size_back xs (flat_map entry_bytes es) e i; name = name_back xs (flat_map entry_bytes es) e i })
entries_back xs (e ∷ es) (suc k) place d a h p =
    let i = All-head IsEntry e es a in
    let l = length-append xs (entry_bytes e) in
    let w = entry_length e i in
    let r = entries_back (xs ++ entry_bytes e) es k place d (All-tail IsEntry e es a) (omega arith) (omega (arith, p, l, w)) in
    subst (λ (ws : List ℕ). ReadsBack ws place (get_or es k d)) (append_assoc xs (entry_bytes e) (flat_map entry_bytes es)) r

-- ---- the lumps of a WAD

length-entries : (at : ℕ) (lumps : List Lump) → length (entries_from at lumps) ≡ length lumps
length-entries at [] = refl
length-entries at (l ∷ lumps) = ap suc (length-entries (at + length l.bytes) lumps)

-- the entry of a lump at an offset
record IsEntryOf (e : Entry) (place : ℕ) (l : Lump) : Type 0 where
  pub at : e.at ≡ place
  pub size : e.size ≡ length l.bytes
  pub name : e.name ≡ l.name

entry_at : (at k : ℕ) (lumps : List Lump) (d : Entry) (x : Lump) → k < length lumps → IsEntryOf (get_or (entries_from at lumps) k d) (at + length (all_bytes (take k lumps))) (get_or lumps k x)
entry_at at k [] d x h = absurd (omega arith)
entry_at at zero (l ∷ lumps) d x h = let z : at + 0 ≡ at = add_zero at in record { at = sym z; size = refl; name = refl }
entry_at at (suc k) (l ∷ lumps) d x h =
    let r = entry_at (at + length l.bytes) k lumps d x (omega arith) in
    let a = length-append l.bytes (all_bytes (take k lumps)) in
    let s : at + length l.bytes + length (all_bytes (take k lumps)) ≡ at + length (l.bytes ++ all_bytes (take k lumps)) = omega (arith, a) in
    record { at = r.at ∙ s; size = r.size; name = r.name }

are_entries : (at : ℕ) (lumps : List Lump) → All IsNamed8 lumps → at + length (all_bytes lumps) < 4294967296 → All IsEntry (entries_from at lumps)
are_entries at [] n h = All-nil IsEntry
are_entries at (l ∷ lumps) n h =
    let a = length-append l.bytes (all_bytes lumps) in
    let e = All-head IsNamed8 l lumps n in
    let r = are_entries (at + length l.bytes) lumps (All-tail IsNamed8 l lumps n) (omega (arith, a)) in
    All-cons IsEntry (record { at = at; size = length l.bytes; name = l.name }) (entries_from (at + length l.bytes) lumps) (record { at = omega (arith, a); size = omega (arith, a); name = e }) r

-- the bytes up to a lump, its own, and those after it
bytes_at : (k : ℕ) (lumps : List Lump) (x : Lump) → k < length lumps → all_bytes lumps ≡ all_bytes (take k lumps) ++ ((get_or lumps k x).bytes ++ all_bytes (drop (suc k) lumps))
bytes_at k [] x h = absurd (omega arith)
bytes_at zero (l ∷ lumps) x h = refl
bytes_at (suc k) (l ∷ lumps) x h =
    ap (λ (ws : List ℕ). l.bytes ++ ws) (bytes_at k lumps x (omega arith))
    ∙ sym (append_assoc l.bytes (all_bytes (take k lumps)) ((get_or lumps k x).bytes ++ all_bytes (drop (suc k) lumps)))

-- what is read of the k-th lump
pub record Holds (wad : List ℕ) (k : ℕ) (l : Lump) : Type 0 where
  pub name : (entry wad k).name ≡ l.name
  pub size : (entry wad k).size ≡ length l.bytes
  pub inside : is_outside wad (entry wad k) ≡ false
  pub bytes : lump wad k ≡ l.bytes

pub record Written (kind wad : List ℕ) (lumps : List Lump) : Type 0 where
  pub kind_is : take 4 wad ≡ kind
  pub wad_like : is_wad wad ≡ true
  pub count : lump_count wad ≡ length lumps
  pub directory : has_directory wad ≡ true
  pub each : (k : ℕ) (x : Lump) → k < length lumps → Holds wad k (get_or lumps k x)

length-directory : (es : List Entry) → All IsEntry es → length (flat_map entry_bytes es) ≡ 16 * length es
length-directory [] a = refl
length-directory (e ∷ es) a =
    let i = All-head IsEntry e es a in
    let l = length-append (entry_bytes e) (flat_map entry_bytes es) in
    let w = entry_length e i in
    let r = length-directory es (All-tail IsEntry e es a) in
    omega (arith, l, w, r)

le_true : (a b : ℕ) → a ≤ b → nat_le a b ≡ true
le_true a b h = grind (arith, nat_tests)

lt_false : (a b : ℕ) → b ≤ a → nat_lt a b ≡ false
lt_false a b h = by (cases_lt a b)
  where
    by : (a < b) ⊎ (b ≤ a) → nat_lt a b ≡ false
    by (inl q) = absurd (omega arith)
    by (inr q) = grind (arith, nat_tests)

and_false : (a b : Bool) → b ≡ false → (a && b) ≡ false
and_false true b e = e
and_false false b e = refl

cut : (pre b rest wad : List ℕ) (at size : ℕ) → wad ≡ pre ++ (b ++ rest) → at ≡ length pre → size ≡ length b → take size (drop at wad) ≡ b
cut pre b rest wad at size w a s =
    ap (λ (n : ℕ). take n (drop at wad)) s
    ∙ ap (λ (n : ℕ). take (length b) (drop n wad)) a
    ∙ ap (λ (ws : List ℕ). take (length b) (drop (length pre) ws)) w
    ∙ ap (take (length b)) (drop-append_seam pre (b ++ rest))
    ∙ take-append_seam b rest

-- the lump of an entry, at the offset that the entry has
holds_of : (wad pre rest : List ℕ) (k : ℕ) (l : Lump) → wad ≡ pre ++ (l.bytes ++ rest) → IsEntryOf (entry wad k) (length pre) l → Holds wad k l
holds_of wad pre rest k l w e =
    let n1 = ap (λ (ws : List ℕ). length ws) w in
    let n2 = length-append pre (l.bytes ++ rest) in
    let n3 = length-append l.bytes rest in
    let a = e.at in
    let s = e.size in
    record {
      name = e.name;
      size = e.size;
      inside =
          and_false (nat_lt 0 (entry wad k).size) (nat_lt (length wad) ((entry wad k).at + (entry wad k).size))
          (lt_false (length wad) ((entry wad k).at + (entry wad k).size) (omega (arith, n1, n2, n3, a, s)));
      bytes = cut pre l.bytes rest wad (entry wad k).at (entry wad k).size w a s;
    }

abbrev name8 : List ℕ → Name8
name8 bytes = record { bytes = bytes }

none8 : Name8
none8 = record { bytes = [] }

no_entry : Entry
no_entry = record { at = 0; size = 0; name = none8 }

-- ---- the header

pub kind_long : (kind : List ℕ) → is_kind kind ≡ true → length kind ≡ 4
kind_long kind h = by (same_bytes kind (codes "IWAD")) refl
  where
    by : (b : Bool) → same_bytes kind (codes "IWAD") ≡ b → length kind ≡ 4
    by true e = as_long nat_eq kind (codes "IWAD") e
    by false e = as_long nat_eq kind (codes "PWAD") (ap (λ (b : Bool). b || same_bytes kind (codes "PWAD")) (sym e) ∙ h)

pub length_head : (kind : List ℕ) (lumps : List Lump) → length kind ≡ 4 → length (wad_head kind lumps) ≡ 12
length_head kind lumps h = let n = length-append kind (long (length lumps) ++ long (12 + length (all_bytes lumps))) in omega (arith, n, h)

head_count : (kind : List ℕ) (lumps : List Lump) (rest : List ℕ) → length kind ≡ 4 → length lumps < 4294967296 → long_at 4 (wad_head kind lumps ++ rest) ≡ length lumps
head_count kind lumps rest k h =
    ap (long_at 4)
    (append_assoc kind (long (length lumps) ++ long (12 + length (all_bytes lumps))) rest ∙ ap (λ (ws : List ℕ). kind ++ ws)
    (append_assoc (long (length lumps)) (long (12 + length (all_bytes lumps))) rest))
    ∙ long_back kind (long (12 + length (all_bytes lumps)) ++ rest) (length lumps) 4 h (sym k)

head_place : (kind : List ℕ) (lumps : List Lump) (rest : List ℕ) → length kind ≡ 4 → 12 + length (all_bytes lumps) < 4294967296 → long_at 8 (wad_head kind lumps ++ rest) ≡ 12 + length (all_bytes lumps)
head_place kind lumps rest k h =
    let n : length (kind ++ long (length lumps)) ≡ 8 = length-append kind (long (length lumps)) ∙ ap (λ (m : ℕ). m + 4) k in
    ap (long_at 8)
    (ap (λ (ws : List ℕ). ws ++ rest) (sym (append_assoc kind (long (length lumps)) (long (12 + length (all_bytes lumps))))) ∙ append_assoc (kind ++ long (length lumps))
    (long (12 + length (all_bytes lumps))) rest)
    ∙ long_back (kind ++ long (length lumps)) rest (12 + length (all_bytes lumps)) 8 h (sym n)

-- ---- the whole

wad_splits :
    (kind : List ℕ) (lumps : List Lump) (k : ℕ) (x : Lump) → k < length lumps
    → wad_of kind lumps ≡ (wad_head kind lumps ++ all_bytes (take k lumps)) ++ ((get_or lumps k x).bytes ++ (all_bytes (drop (suc k) lumps) ++ flat_map entry_bytes (entries_from 12 lumps)))
wad_splits kind lumps k x h =
    ap (λ (ws : List ℕ). wad_head kind lumps ++ (ws ++ flat_map entry_bytes (entries_from 12 lumps))) (bytes_at k lumps x h)
    ∙ ap (λ (ws : List ℕ). wad_head kind lumps ++ ws)
    (append_assoc (all_bytes (take k lumps)) ((get_or lumps k x).bytes ++ all_bytes (drop (suc k) lumps)) (flat_map entry_bytes (entries_from 12 lumps))
    ∙ ap (λ (ws : List ℕ). all_bytes (take k lumps) ++ ws) (append_assoc (get_or lumps k x).bytes (all_bytes (drop (suc k) lumps)) (flat_map entry_bytes (entries_from 12 lumps)))
    )
    ∙ sym (append_assoc (wad_head kind lumps) (all_bytes (take k lumps)) ((get_or lumps k x).bytes ++ (all_bytes (drop (suc k) lumps) ++ flat_map entry_bytes (entries_from 12 lumps))))

entry_of_reads : (wad : List ℕ) (k place : ℕ) (e : Entry) (l : Lump) → ReadsBack wad (entry_place wad k) e → IsEntryOf e place l → IsEntryOf (entry wad k) place l
entry_of_reads wad k place e l r i = record { at = r.at ∙ i.at; size = r.size ∙ i.size; name = ap name8 r.name ∙ i.name }

reads :
    (kind : List ℕ) (lumps : List Lump) (k : ℕ) → length kind ≡ 4 → All IsNamed8 lumps → wad_size lumps < 4294967296 → k < length lumps
    → directory_at (wad_of kind lumps) ≡ 12 + length (all_bytes lumps)
    → ReadsBack (wad_of kind lumps) (entry_place (wad_of kind lumps) k) (get_or (entries_from 12 lumps) k no_entry)
reads kind lumps k f n h b d =
    let es = are_entries 12 lumps n (omega (arith, h)) in
    let l1 = length-entries 12 lumps in
    let l2 = length-append (wad_head kind lumps) (all_bytes lumps) in
    let l3 = length_head kind lumps f in
    let r = entries_back (wad_head kind lumps ++ all_bytes lumps) (entries_from 12 lumps) k (entry_place (wad_of kind lumps) k) no_entry es (omega (arith, l1, b)) (omega (arith, d, l2, l3)) in
    subst (λ (ws : List ℕ). ReadsBack ws (entry_place (wad_of kind lumps) k) (get_or (entries_from 12 lumps) k no_entry))
    (append_assoc (wad_head kind lumps) (all_bytes lumps) (flat_map entry_bytes (entries_from 12 lumps))) r

-- each lump is read as it was written
each_holds :
    (kind : List ℕ) (lumps : List Lump) (k : ℕ) (x : Lump) → length kind ≡ 4 → All IsNamed8 lumps → wad_size lumps < 4294967296
    → directory_at (wad_of kind lumps) ≡ 12 + length (all_bytes lumps) → k < length lumps → Holds (wad_of kind lumps) k (get_or lumps k x)
each_holds kind lumps k x f n h d b =
    let a = length-append (wad_head kind lumps) (all_bytes (take k lumps)) in
    let l5 = length_head kind lumps f in
    let p : 12 + length (all_bytes (take k lumps)) ≡ length (wad_head kind lumps ++ all_bytes (take k lumps)) = omega (arith, a, l5) in
    let i = entry_of_reads (wad_of kind lumps) k _ _ _ (reads kind lumps k f n h b d) (entry_at 12 k lumps no_entry x b) in
    holds_of (wad_of kind lumps) (wad_head kind lumps ++ all_bytes (take k lumps)) (all_bytes (drop (suc k) lumps) ++ flat_map entry_bytes (entries_from 12 lumps)) k (get_or lumps k x)
    (wad_splits kind lumps k x b)
    (subst (λ (m : ℕ). IsEntryOf (entry (wad_of kind lumps) k) m (get_or lumps k x)) p i)

directory_holds : (wad : List ℕ) (d n : ℕ) → directory_at wad ≡ d → lump_count wad ≡ n → d + 16 * n ≤ length wad → has_directory wad ≡ true
directory_holds wad d n e c h = le_true (entry_place wad (lump_count wad)) (length wad) (omega (arith, e, c, h))

begins : (kind rest wad : List ℕ) → length kind ≡ 4 → wad ≡ kind ++ rest → take 4 wad ≡ kind
begins kind rest wad f e = ap (λ (n : ℕ). take n wad) (sym f) ∙ ap (take (length kind)) e ∙ take-append_seam kind rest

wad_like : (wad kind : List ℕ) → 12 ≤ length wad → take 4 wad ≡ kind → is_kind kind ≡ true → is_wad wad ≡ true
wad_like wad kind h k i =
    let t = le_true 12 (length wad) h in
    let e : is_kind (take 4 wad) ≡ true = ap is_kind k ∙ i in
    rw (t, e) refl

pub written : (kind : List ℕ) (lumps : List Lump) → is_kind kind ≡ true → All IsNamed8 lumps → wad_size lumps < 4294967296 → Written kind (wad_of kind lumps) lumps
written kind lumps i n h =
    let wad = wad_of kind lumps in
    let rest = all_bytes lumps ++ flat_map entry_bytes (entries_from 12 lumps) in
    let f = kind_long kind i in
    let d = head_place kind lumps rest f (omega (arith, h)) in
    let c = head_count kind lumps rest f (omega (arith, h)) in
    let l1 = length-append (wad_head kind lumps) rest in
    let l2 = length-append (all_bytes lumps) (flat_map entry_bytes (entries_from 12 lumps)) in
    let l3 = length-directory (entries_from 12 lumps) (are_entries 12 lumps n (omega (arith, h))) in
    let l4 = length-entries 12 lumps in
    let l5 = length_head kind lumps f in
    let b = begins kind ((long (length lumps) ++ long (12 + length (all_bytes lumps))) ++ rest) wad f (append_assoc kind (long (length lumps) ++ long (12 + length (all_bytes lumps))) rest) in
    record {
      kind_is = b;
      wad_like = wad_like wad kind (omega (arith, l1, l5)) b i;
      count = c;
      directory = directory_holds wad (12 + length (all_bytes lumps)) (length lumps) d c (omega (arith, l1, l2, l3, l4, l5));
      each = λ k x b. each_holds kind lumps k x f n h d b;
    }

no_lump : Lump
no_lump = record { name = none8; bytes = [] }

same_lump : (l : Lump) (n : Name8) (b : List ℕ) → n ≡ l.name → b ≡ l.bytes → l ≡ record { name = n; bytes = b }
same_lump l n b e f = rw (e, f) refl

inside_all : (wad : List ℕ) (k n : ℕ) → ((j : ℕ) → k ≤ j → j < k + n → is_outside wad (entry wad j) ≡ false) → are_inside wad k n ≡ true
inside_all wad k zero h = refl
inside_all wad k (suc n) h =
    let here = h k (omega arith) (omega arith) in
    rw here (inside_all wad (k + 1) n (λ j a b. h j (omega arith) (omega arith)))

accepted : (wad : List ℕ) → is_wad wad ≡ true → has_directory wad ≡ true → wad_refusal wad ≡ None
accepted wad w d = rw (w, d) refl

-- what was written of a kind is a WAD of it with these lumps
pub is_wad_of : (kind : List ℕ) (lumps : List Lump) (wad : List ℕ) → Written kind wad lumps → IsWadOf kind lumps wad
is_wad_of kind lumps wad w =
    let c = w.count in
    let z : lump_count wad - 0 ≡ lump_count wad = omega arith in
    record {
      accepted = accepted wad w.wad_like w.directory;
      kind_is = w.kind_is;
      lumps_are =
          ap (λ (n : ℕ). map (lump_at wad) (range_with_len 0 n)) z
          ∙ sym (fill_by_all (lump_at wad) lumps (lump_count wad) no_lump (sym c)
          (λ k lt. let i = w.each k no_lump (omega (arith, c)) in same_lump (get_or lumps k no_lump) (entry wad k).name (lump wad k) i.name i.bytes));
      inside = inside_all wad 0 (lump_count wad) (λ j _ b. let i = w.each j no_lump (omega (arith, c)) in i.inside);
    }
