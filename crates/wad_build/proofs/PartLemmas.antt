-- Levels that follow one another in a WAD each read back by their names.
use Rattle.std.proofs.Common.{◌≡◌, ◌≢◌, ◌∙◌, refl, sym, ap, ℕ, zero, suc, ◌+◌, ◌*◌, ◌/◌, ◌<◌, ◌≤◌, ◌⊎◌, inl, inr, Bool, true, false, ◌||◌, List, [], ◌∷◌, ◌++◌, length, get_or, arith, length-append, Some}
use Rattle.std.specs.Prelude.{All, codes, nat_lt, ◌%◌}
use Rattle.std.specs.List.{list_any}
use Rattle.std.specs.Cmp.Lexicographic.{bytes_decides}
use Rattle.std.proofs.lemmas.List.{get_or-append-add, get_or_append_left}
use Rattle.std.proofs.lemmas.List.Elements.{All-head, All-tail, All-nil, All-cons, All-append, All-from_recursion}
use Rattle.std.proofs.lemmas.Bool.Decides.{nat_tests}
use Rattle.std.proofs.lemmas.Bool.{cases_lt}
use Rattle.lump_records.specs.Names.{name_text}
use Rattle.lump_records.specs.declared.records.Name8.{Name8}
use Rattle.wad_levels.specs.Levels.{lump_names, record_sizes, marker, marker_at, are_named, are_whole, has_lumps, is_hexen}
use Rattle.wad_file.specs.Directory.{entry, lump, lump_count, entry_has_name, last_named, are_inside, is_outside}
use Rattle.wad_file.specs.Fields.{same_bytes}
use Rattle.wad_build.specs.Wad.{Part, with_names, lumps_of, all_lumps, IsPart, AreParts, IsReadBack, wad_bytes}
use Rattle.wad_file.specs.Lumps.{Lump}
use Rattle.wad_file.proofs.WrittenLemmas.{Written, written}
use Rattle.wad_levels.proofs.ReadLemmas.{accepts}
use Rattle.wad_file.proofs.DirectoryLemmas.{add_zero}

-- ---- the lumps of the levels, by number

pub length-with : (names : List Name8) (bytes : List (List ℕ)) → length names ≡ length bytes → length (with_names names bytes) ≡ length names
length-with [] bytes e = refl
length-with (x ∷ names) [] e = absurd (omega (arith, e))
length-with (x ∷ names) (b ∷ bytes) e = ap suc (length-with names bytes (omega (arith, e)))

-- the lump's name and bytes
pub record IsLumpOf (l : Lump) (n : Name8) (b : List ℕ) : Type 0 where
  pub name : l.name ≡ n
  pub bytes : l.bytes ≡ b

pub with_at :
    (names : List Name8) (bytes : List (List ℕ)) (n : ℕ) (x : Lump) (d : Name8) → length names ≡ length bytes → n < length names
    → IsLumpOf (get_or (with_names names bytes) n x) (get_or names n d) (get_or bytes n [])
with_at [] bytes n x d e h = absurd (omega arith)
with_at (y ∷ names) [] n x d e h = absurd (omega (arith, e))
with_at (y ∷ names) (b ∷ bytes) zero x d e h = record { name = refl; bytes = refl }
with_at (y ∷ names) (b ∷ bytes) (suc n) x d e h = with_at names bytes n x d (omega (arith, e)) (omega arith)

names_ten : length lump_names ≡ 10
names_ten = refl

pub length-lumps : (p : Part) → IsPart p → length (lumps_of p) ≡ 11
length-lumps p i = let t = i.ten in let n = names_ten in let w = length-with lump_names p.lumps (n ∙ sym t) in omega (arith, w, n)

pub length-all : (parts : List Part) → All IsPart parts → length (all_lumps parts) ≡ 11 * length parts
length-all [] a = refl
length-all (p ∷ parts) a =
    let l = length-append (lumps_of p) (all_lumps parts) in
    let w = length-lumps p (All-head IsPart p parts a) in
    let r = length-all parts (All-tail IsPart p parts a) in
    omega (arith, l, w, r)

pub lump_at : (parts : List Part) (i n : ℕ) (p : Part) (x : Lump) → All IsPart parts → i < length parts → n < 11 → get_or (all_lumps parts) (11 * i + n) x ≡ get_or (lumps_of (get_or parts i p)) n x
lump_at [] i n p x a h s = absurd (omega arith)
lump_at (q ∷ parts) zero n p x a h s =
    let w = length-lumps q (All-head IsPart q parts a) in
    let z : 11 * 0 + n ≡ n = omega arith in
    ap (λ (k : ℕ). get_or (lumps_of q ++ all_lumps parts) k x) z ∙ get_or_append_left (lumps_of q) (all_lumps parts) x n (omega (arith, w, s))
lump_at (q ∷ parts) (suc i) n p x a h s =
    let w = length-lumps q (All-head IsPart q parts a) in
    let z : 11 * suc i + n ≡ length (lumps_of q) + (11 * i + n) = omega (arith, w) in
    ap (λ (k : ℕ). get_or (lumps_of q ++ all_lumps parts) k x) z ∙ get_or-append-add (lumps_of q) (all_lumps parts) (11 * i + n) x
    ∙ lump_at parts i n p x (All-tail IsPart q parts a) (omega arith) s

-- ---- tests
lt_true : (a b : ℕ) → a < b → nat_lt a b ≡ true
lt_true a b h = grind (arith, nat_tests)

same_self : (a : List ℕ) → same_bytes a a ≡ true
same_self a = (bytes_decides a a).1 refl

other : (a b : List ℕ) → a ≢ b → same_bytes a b ≡ false
other a b n = by (same_bytes a b) refl
  where
    by : (t : Bool) → same_bytes a b ≡ t → same_bytes a b ≡ false
    by true e = absurd (n ((bytes_decides a b).0 e))
    by false e = e

or_parts : (a b : Bool) → (a || b) ≡ false → (a ≡ false) × (b ≡ false)
or_parts true b e = absurd (cc)
or_parts false b e = (refl, e)

none_of : {X : Type 0} (test : X → Bool) (xs : List X) (n : ℕ) (d : X) → list_any test xs ≡ false → n < length xs → test (get_or xs n d) ≡ false
none_of test [] n d e h = absurd (omega arith)
none_of test (x ∷ xs) zero d e h = (or_parts (test x) (list_any test xs) e).0
none_of test (x ∷ xs) (suc n) d e h = none_of test xs n d (or_parts (test x) (list_any test xs) e).1 (omega arith)

-- the last one with the name is found
pub last_is : (wad name : List ℕ) (count k : ℕ) → k < count → entry_has_name wad name k ≡ true → ((j : ℕ) → k < j → j < count → entry_has_name wad name j ≡ false) → last_named wad name count ≡ Some k
last_is wad name zero k h y n = absurd (omega arith)
last_is wad name (suc c) k h y n = by (λ l. last_is wad name c k l y (λ j a b. n j a (omega (arith, b)))) (cases_lt k c)
  where
    by : (k < c → last_named wad name c ≡ Some k) → (k < c) ⊎ (c ≤ k) → last_named wad name (suc c) ≡ Some k
    by below (inl l) = let o = n c l (omega arith) in rw o (below l)
    by below (inr l) = let e : c ≡ k = omega (arith, h, l) in rw e (rw y refl)

pub all_named : (wad : List ℕ) (k : ℕ) (names : List Name8) (d : Name8) → ((n : ℕ) → n < length names → entry_has_name wad (name_text (get_or names n d)) (k + n) ≡ true) → are_named wad k names ≡ true
all_named wad k [] d h = refl
all_named wad k (x ∷ names) d h =
    let z : k + 0 ≡ k = add_zero k in
    let one = ap (entry_has_name wad (name_text x)) (sym z) ∙ h 0 (omega arith) in
    let rest = all_named wad (k + 1) names d (λ n b. let s : k + 1 + n ≡ k + suc n = omega arith in ap (entry_has_name wad (name_text (get_or names n d))) s ∙ h (suc n) (omega (arith, b))) in
    rw (one, rest) refl

pub all_inside : (wad : List ℕ) (k count : ℕ) → ((n : ℕ) → n < count → is_outside wad (entry wad (k + n)) ≡ false) → are_inside wad k count ≡ true
all_inside wad k zero h = refl
all_inside wad k (suc count) h =
    let z : k + 0 ≡ k = add_zero k in
    let one = ap (λ (j : ℕ). is_outside wad (entry wad j)) (sym z) ∙ h 0 (omega arith) in
    let rest = all_inside wad (k + 1) count (λ n b. let s : k + 1 + n ≡ k + suc n = omega arith in ap (λ (j : ℕ). is_outside wad (entry wad j)) s ∙ h (suc n) (omega (arith, b))) in
    rw (one, rest) refl

pub all_whole : (wad : List ℕ) (k : ℕ) (sizes : List ℕ) → ((n : ℕ) → n < length sizes → (entry wad (k + n)).size % get_or sizes n 1 ≡ 0) → are_whole wad k sizes ≡ true
all_whole wad k [] h = refl
all_whole wad k (x ∷ sizes) h =
    let z : k + 0 ≡ k = add_zero k in
    let one = ap (λ (j : ℕ). (entry wad j).size % x) (sym z) ∙ h 0 (omega arith) in
    let rest = all_whole wad (k + 1) sizes (λ n b. let s : k + 1 + n ≡ k + suc n = omega arith in ap (λ (j : ℕ). (entry wad j).size % get_or sizes n 1) s ∙ h (suc n) (omega (arith, b))) in
    rw (one, rest) refl

All-at : (P : Part → Type 0) (parts : List Part) (i : ℕ) (p : Part) → All P parts → i < length parts → P (get_or parts i p)
All-at P [] i p a h = absurd (omega arith)
All-at P (x ∷ parts) zero p a h = All-head P x parts a
All-at P (x ∷ parts) (suc i) p a h = All-at P parts i p (All-tail P x parts a) (omega arith)

-- ---- the entries of levels in a WAD

pub marker_named :
    (wad : List ℕ) (parts : List Part) (p : Part) (x : Lump) → Written (codes "PWAD") wad (all_lumps parts) → All IsPart parts → (text : List ℕ) (q : ℕ) → q < length parts
    → entry_has_name wad text (11 * q + 0) ≡ same_bytes (name_text (get_or parts q p).name) text
marker_named wad parts p x w a text q h =
    let l = length-all parts a in
    let e = w.each (11 * q + 0) x (omega (arith, l, h)) in
    ap (λ (m : Name8). same_bytes (name_text m) text) (e.name ∙ ap (λ (m : Lump). m.name) (lump_at parts q 0 p x a h (omega arith)))

-- what is read of the n-th lump of the q-th level
pub record IsNth (wad : List ℕ) (k : ℕ) (name : Name8) (bytes : List ℕ) : Type 0 where
  pub named : (entry wad k).name ≡ name
  pub size : (entry wad k).size ≡ length bytes
  pub inside : is_outside wad (entry wad k) ≡ false
  pub holds : lump wad k ≡ bytes

pub nth :
    (wad : List ℕ) (parts : List Part) (p : Part) (x : Lump) (d : Name8) → Written (codes "PWAD") wad (all_lumps parts) → All IsPart parts → (q n : ℕ) → q < length parts → n < 10
    → IsNth wad (11 * q + suc n) (get_or lump_names n d) (get_or (get_or parts q p).lumps n [])
nth wad parts p x d w a q n h s =
    let l = length-all parts a in
    let e = w.each (11 * q + suc n) x (omega (arith, l, h, s)) in
    let g = lump_at parts q (suc n) p x a h (omega (arith, s)) in
    let t = (All-at IsPart parts q p a h).ten in
    let v = with_at lump_names (get_or parts q p).lumps n x d (names_ten ∙ sym t) s in
    record {
      named = e.name ∙ ap (λ (m : Lump). m.name) g ∙ v.name;
      size = e.size ∙ ap (λ (m : Lump). length m.bytes) g ∙ ap (λ (bs : List ℕ). length bs) v.bytes;
      inside = e.inside;
      holds = e.bytes ∙ ap (λ (m : Lump). m.bytes) g ∙ v.bytes;
    }

pub marker_is :
    (wad : List ℕ) (parts : List Part) (p : Part) (x : Lump) (d : Name8) → Written (codes "PWAD") wad (all_lumps parts) → AreParts parts → (i : ℕ) → i < length parts
    → marker wad (name_text (get_or parts i p).name) ≡ Some (11 * i + 0)
marker_is wad parts p x d w a i h =
    ap (last_named wad text) (w.count ∙ length-all parts a.each)
    ∙ last_is wad text (11 * length parts) (11 * i + 0) (omega (arith, h)) (marker_named wad parts p x w a.each text i h ∙ same_self text)
    (λ j above below. let s : j ≡ 11 * (j / 11) + j % 11 = omega arith in rw s (by j (j % 11) (j / 11) refl (omega (arith, s)) above below))
  where
    text : List ℕ
    text = name_text (get_or parts i p).name

    by : (j r q : ℕ) → j % 11 ≡ r → j ≡ 11 * q + r → 11 * i + 0 < j → j < 11 * length parts → entry_has_name wad text (11 * q + r) ≡ false
    by j zero q m e above below =
        let b : q < length parts = omega (arith, e, below) in
        marker_named wad parts p x w a.each text q b
        ∙ other (name_text (get_or parts q p).name) text (a.differ q i p b h (λ same. omega (arith, e, above, same)))
    by j (suc n) q m e above below =
        let b : q < length parts = omega (arith, e, below) in
        let s : n < 10 = omega (arith, m) in
        let v = nth wad parts p x d w a.each q n b s in
        ap (λ (m : Name8). same_bytes (name_text m) text) v.named
        ∙ none_of (λ name. same_bytes (name_text name) text) lump_names n d (or_parts _ _ (All-at IsPart parts i p a.each h).free).0 s

no_name : Name8
no_name = record { bytes = [] }

sizes_ten : length record_sizes ≡ 10
sizes_ten = refl

not_lt : (a b : ℕ) → b ≤ a → nat_lt a b ≡ false
not_lt a b h = by (cases_lt a b)
  where
    by : (a < b) ⊎ (b ≤ a) → nat_lt a b ≡ false
    by (inl q) = absurd (omega arith)
    by (inr q) = grind (arith, nat_tests)

has_both : (wad : List ℕ) (at : ℕ) → nat_lt (at + 10) (lump_count wad) ≡ true → are_named wad (at + 1) lump_names ≡ true → has_lumps wad at ≡ true
has_both wad at r n = rw (r, n) refl

marker_unwrapped : (wad name : List ℕ) (at : ℕ) → marker wad name ≡ Some at → marker_at wad name ≡ at
marker_unwrapped wad name at m = rw m refl

names_long : All (λ (n : Name8). length n.bytes ≡ 8) lump_names
names_long = All-from_recursion (λ (n : Name8). length n.bytes ≡ 8) lump_names (refl, (refl, (refl, (refl, (refl, (refl, (refl, (refl, (refl, (refl, tt))))))))))

with_long : (names : List Name8) (bytes : List (List ℕ)) → All (λ (n : Name8). length n.bytes ≡ 8) names → All (λ (l : Lump). length l.name.bytes ≡ 8) (with_names names bytes)
with_long [] bytes a = All-nil (λ (l : Lump). length l.name.bytes ≡ 8)
with_long (x ∷ names) [] a = All-nil (λ (l : Lump). length l.name.bytes ≡ 8)
with_long (x ∷ names) (b ∷ bytes) a =
    All-cons (λ (l : Lump). length l.name.bytes ≡ 8) (record { name = x; bytes = b }) (with_names names bytes) (All-head (λ (n : Name8). length n.bytes ≡ 8) x names a)
    (with_long names bytes (All-tail (λ (n : Name8). length n.bytes ≡ 8) x names a))

pub all_long : (parts : List Part) → All IsPart parts → All (λ (l : Lump). length l.name.bytes ≡ 8) (all_lumps parts)
all_long [] a = All-nil (λ (l : Lump). length l.name.bytes ≡ 8)
all_long (p ∷ parts) a =
    All-append (λ (l : Lump). length l.name.bytes ≡ 8) (lumps_of p) (all_lumps parts)
    (All-cons (λ (l : Lump). length l.name.bytes ≡ 8) (record { name = p.name; bytes = [] }) (with_names lump_names p.lumps) (All-head IsPart p parts a).long (with_long lump_names p.lumps names_long))
    (all_long parts (All-tail IsPart p parts a))

not_hexen : (wad : List ℕ) (parts : List Part) (p : Part) (x : Lump) → Written (codes "PWAD") wad (all_lumps parts) → All IsPart parts → (i : ℕ) → i < length parts → is_hexen wad (11 * i + 0) ≡ false
not_hexen wad parts p x w a i h = by (cases_lt (11 * i + 0 + 11) (lump_count wad))
  where
    c : lump_count wad ≡ 11 * length parts
    c = w.count ∙ length-all parts a

    by : (11 * i + 0 + 11 < lump_count wad) ⊎ (lump_count wad ≤ 11 * i + 0 + 11) → is_hexen wad (11 * i + 0) ≡ false
    by (inl l) =
        let e = c in
        let b : i + 1 < length parts = omega (arith, l, e) in
        let s : 11 * i + 0 + 11 ≡ 11 * (i + 1) + 0 = omega arith in
        let o = (or_parts _ _ (All-at IsPart parts (i + 1) p a b).free).1 in
        let n = ap (entry_has_name wad (codes "BEHAVIOR")) s ∙ marker_named wad parts p x w a (codes "BEHAVIOR") (i + 1) b ∙ o in
        let t = lt_true (11 * i + 0 + 11) (lump_count wad) l in
        rw (t, n) refl
    by (inr l) = let t = not_lt (11 * i + 0 + 11) (lump_count wad) l in rw t refl

pub level_reads : (wad : List ℕ) (parts : List Part) (p : Part) (x : Lump) (d : Name8) → Written (codes "PWAD") wad (all_lumps parts) → AreParts parts → (i : ℕ) → i < length parts → IsReadBack wad (get_or parts i p)
level_reads wad parts p x d w a i h =
    let m = marker_is wad parts p x d w a i h in
    let c = w.count in
    let l = length-all parts a.each in
    let room = lt_true (11 * i + 0 + 10) (lump_count wad) (omega (arith, c, l, h)) in
    let named = all_named wad (11 * i + 0 + 1) lump_names d
    (λ n b. let s : 11 * i + 0 + 1 + n ≡ 11 * i + suc n = omega arith in let t = names_ten in let v = nth wad parts p x d w a.each i n h (omega (arith, b, t))
    in ap (entry_has_name wad (name_text (get_or lump_names n d))) s ∙ ap (λ (y : Name8). same_bytes (name_text y) (name_text (get_or lump_names n d))) v.named ∙ same_self
    (name_text (get_or lump_names n d))) in
    let inside = all_inside wad (11 * i + 0 + 1) 10
    (λ n b. let s : 11 * i + 0 + 1 + n ≡ 11 * i + suc n = omega arith in let v = nth wad parts p x d w a.each i n h b in ap (λ (j : ℕ). is_outside wad (entry wad j)) s ∙ v.inside) in
    let whole = all_whole wad (11 * i + 0 + 1) record_sizes
    (λ n b. let s : 11 * i + 0 + 1 + n ≡ 11 * i + suc n = omega arith in let t = sizes_ten in let v = nth wad parts p x d w a.each i n h (omega (arith, b, t))
    in ap (λ (j : ℕ). (entry wad j).size % get_or record_sizes n 1) s ∙ ap (λ (j : ℕ). j % get_or record_sizes n 1) v.size ∙ (All-at IsPart parts i p a.each h).whole n (omega (arith, b, t))) in
    let at = marker_unwrapped wad (name_text (get_or parts i p).name) (11 * i + 0) m in
    record {
      accepted =
          accepts wad (name_text (get_or parts i p).name) (11 * i + 0) w.wad_like w.directory m (has_both wad (11 * i + 0) room named)
          (not_hexen wad parts p x w a.each i h) inside whole;
      lumps = λ n b. let s : 11 * i + 0 + 1 + n ≡ 11 * i + suc n = omega arith in let v = nth wad parts p x d w a.each i n h b in ap (λ (j : ℕ). lump wad (j + 1 + n)) at ∙ ap (lump wad) s ∙ v.holds;
    }

-- each of the levels that one WAD holds is read by its name
pub reads_back : (parts : List Part) (i : ℕ) (p : Part) → AreParts parts → i < length parts → IsReadBack (wad_bytes (all_lumps parts)) (get_or parts i p)
reads_back parts i p a h =
    level_reads (wad_bytes (all_lumps parts)) parts p (record { name = no_name; bytes = [] }) no_name (written (codes "PWAD") (all_lumps parts) refl (all_long parts a.each) a.fits) a i h
