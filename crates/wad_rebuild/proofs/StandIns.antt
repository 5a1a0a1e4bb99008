-- A WAD in memory stands for one in a file: what becomes of the one becomes of the other.
use Rattle.std.proofs.Common.{◌≡◌, ◌∙◌, refl, sym, ap, subst, cond, ℕ, zero, suc, ◌+◌, ◌*◌, ◌/◌, ◌-◌, ◌<◌, ◌≤◌, ◌⊎◌, inl, inr, Bool, true, false, not, ◌||◌, List, [], ◌∷◌, ◌++◌, length, get_or, take, drop, map, replicate, arith, Option, None, Some, length-append, length-drop}
use Rattle.std.specs.Prelude.{◌==◌, All, find, flat_map, if◌then◌else◌, min, nat_le, nat_lt, position, unwrap_or}
use Rattle.std.specs.List.{list_all, list_any, range_with_len}
use Rattle.std.specs.Option.{option_map_or}
use Rattle.std.proofs.lemmas.Bool.{cases_lt, eqb-true, leb-true}
use Rattle.std.proofs.lemmas.Bool.Decides.{nat_tests}
use Rattle.std.proofs.lemmas.List.{length-replicate, length-take-le}
use Rattle.std.proofs.lemmas.List.Elements.{All-nil, All-cons, All-head, All-tail}
use Rattle.std.proofs.lemmas.List.FromFn.{get_or-map-range_with_len, length-map-range_with_len, map-range_with_len_more}
use Rattle.lump_records.specs.Names.{name_text}
use Rattle.lump_records.specs.declared.records.Name8.{Name8}
use Rattle.wad_file.specs.Directory.{are_inside, entry, entry_place, entry_text, first_failed, has_directory, is_kind, is_wad, lump, lump_count, standing, wad_refusal}
use Rattle.wad_file.specs.Fields.{same_bytes}
use Rattle.wad_file.specs.Lumps.{IsNamed8, IsWadOf, Lump, all_bytes, entries_from, entry_bytes, long, lump_at, wad_head, wad_of, wad_size}
use Rattle.wad_file.specs.Placed.{AreContents, AtHand, IsContent, Placed}
use Rattle.wad_file.specs.declared.entry.Entry.{Entry}
use Rattle.wad_file.specs.declared.error.WadError.TheVariants as bytes
use Rattle.wad_file.proofs.DirectoryLemmas.{and_parts}
use Rattle.wad_file.proofs.DraftLemmas.{all_bytes-length}
use Rattle.wad_file.proofs.WrittenLemmas.{kind_long, length_head}
use Rattle.wad_levels.specs.Drawn.{level_lump}
use Rattle.wad_levels.specs.Entries.{AreLevels, lump_entry, rank, rank_of_name}
use Rattle.wad_levels.specs.Levels.{lump_names}
use Rattle.wad_levels.specs.declared.entries.LevelEntries.{LevelEntries}
use Rattle.wad_build.specs.Wad.{with_names}
use Rattle.wad_rebuild.specs.Alike.{HasSameDrawn, HasSameLevel, HasSameNames}
use Rattle.wad_rebuild.specs.Held.{StandsInFor, entry_in, is_drawn_name, is_drawn_number, kept_at, kept_content, kept_lumps, part_of_entry}
use Rattle.wad_rebuild.specs.Made.{reject_of}
use Rattle.wad_rebuild.specs.Parts.{HasLumps}
use Rattle.wad_rebuild.specs.Rebuilt.{AreRebuilt, has_level, is_crowded, lumps_refusal, sizes_below, whole_refusal}
use Rattle.wad_rebuild.specs.Whole.{IsAcceptedWith}
use Rattle.wad_rebuild.specs.declared.error.RebuildError.TheVariants.{TooLong, NoSuchLevel, LumpOutside}
use Rattle.wad_rebuild.specs.declared.levels.Fate.{Fate}
use Rattle.wad_rebuild.specs.declared.levels.Fate.TheVariants.{NotAsked, Made, Left}
use Rattle.wad_rebuild.specs.declared.levels.RebuiltLevel.{RebuiltLevel}
use Rattle.wad_rebuild.proofs.AlikeFates.{rest_on_lumps}
use Rattle.wad_rebuild.proofs.AlikeLevels.{found_among, same_entry}
use Rattle.wad_rebuild.proofs.Contents.{IsBecome, contents_at, contents_long, contents_size}
use Rattle.wad_rebuild.proofs.Filled.{MakesSame}
use Rattle.wad_rebuild.proofs.Padded.{padded}
use Rattle.wad_rebuild.proofs.PartLemmas.{lump_long, lump_stands}
use Rattle.wad_rebuild.proofs.WholeLemmas.{level_of_name, of_wad}

-- ---- a WAD that stands for one in a file

-- what the header says of it
pub record IsHeaded (wad : List ℕ) : Type 0 where
  pub kind : is_kind (take 4 wad) ≡ true
  pub room : entry_place wad (lump_count wad) ≤ length wad

headed : (wad : List ℕ) → wad_refusal wad ≡ None → IsHeaded wad
headed wad r = by (is_wad wad) (has_directory wad) refl refl r
  where
    by :
        (a b : Bool) → is_wad wad ≡ a → has_directory wad ≡ b → first_failed ((a, bytes.NotAWad) ∷ (b, bytes.DirectoryOutside) ∷ []) ≡ None → IsHeaded wad
    by true true e f q =
        record {
          kind = (and_parts (nat_le 12 (length wad)) (is_kind (take 4 wad)) e).1;
          room = leb-true (entry_place wad (lump_count wad)) (length wad) f;
        }
    by true false e f q = absurd (cc)
    by false b e f q = absurd (cc)

-- a name in the directory has eight bytes
name_long : (wad : List ℕ) (k : ℕ) → IsHeaded wad → k < lump_count wad → length (entry wad k).name.bytes ≡ 8
name_long wad k h lt =
    let room = h.room in
    let at = entry_place wad k + 8 in
    let l = length-drop at wad in
    length-take-le 8 (drop at wad) (omega (arith, room, lt, l))

entry_size : (e : Entry) → length e.name.bytes ≡ 8 → length (entry_bytes e) ≡ 16
entry_size e h =
    let n = length-append (long e.at ++ long e.size) e.name.bytes in
    omega (arith, n, h)

directory_size : (at : ℕ) (lumps : List Lump) → All IsNamed8 lumps → length (flat_map entry_bytes (entries_from at lumps)) ≡ 16 * length lumps
directory_size at [] named = refl
directory_size at (l ∷ lumps) named =
    let e : Entry = record { at = at; size = length l.bytes; name = l.name } in
    let n1 = entry_size e (All-head IsNamed8 l lumps named) in
    let n2 = directory_size (at + length l.bytes) lumps (All-tail IsNamed8 l lumps named) in
    let n3 = length-append (entry_bytes e) (flat_map entry_bytes (entries_from (at + length l.bytes) lumps)) in
    omega (arith, n1, n2, n3)

wad_long : (kind : List ℕ) (lumps : List Lump) → is_kind kind ≡ true → All IsNamed8 lumps → length (wad_of kind lumps) ≡ wad_size lumps
wad_long kind lumps i named =
    let n1 = length-append (wad_head kind lumps) (all_bytes lumps ++ flat_map entry_bytes (entries_from 12 lumps)) in
    let n2 = length-append (all_bytes lumps) (flat_map entry_bytes (entries_from 12 lumps)) in
    let n3 = directory_size 12 lumps named in
    let n4 = length_head kind lumps (kind_long kind i) in
    omega (arith, n1, n2, n3, n4)

-- how long its lumps are together
sizes_are : (wad : List ℕ) (n : ℕ) → HasLumps wad → n ≤ lump_count wad → sizes_below wad n ≡ length (all_bytes (map (lump_at wad) (range_with_len 0 n)))
sizes_are wad zero h le = refl
sizes_are wad (suc n) h le =
    let r = sizes_are wad n h (omega (arith, le)) in
    let l = lump_long wad n h (omega (arith, le)) in
    let s : n + 1 ≡ suc n = omega arith in
    let z : 0 + n ≡ n = omega arith in
    let more : map (lump_at wad) (range_with_len 0 (suc n)) ≡ map (lump_at wad) (range_with_len 0 n) ++ lump_at wad n ∷ [] =
    ap (λ (k : ℕ). map (lump_at wad) (range_with_len 0 k)) (sym s) ∙ map-range_with_len_more (lump_at wad) 0 n n z in
    let b = ap (λ (ls : List Lump). length (all_bytes ls)) more ∙ all_bytes-length (map (lump_at wad) (range_with_len 0 n)) (lump_at wad n ∷ []) in
    let o = length-append (lump wad n) [] in
    omega (arith, r, l, b, o)

-- a drawn lump stands in memory
kept_drawn : (wad : List ℕ) (held : Option (List ℕ)) (k : ℕ) (b : List ℕ) → is_drawn_name (entry_text wad k) ≡ true → IsContent None (kept_content wad held k) b → b ≡ lump wad k
kept_drawn wad None k b t i = i
kept_drawn wad (Some d) k b t i = subst (λ (x : Bool). IsContent None (if x then AtHand (lump wad k) else part_of_entry (entry_in d k)) b) t i

drawn_by : (text : List ℕ) (n : ℕ) → (rank_of_name text == n) ≡ true → is_drawn_number n ≡ true → is_drawn_name text ≡ true
unfolding rank_of_name
drawn_by text n e t = by (position (λ name. same_bytes (name_text name) text) lump_names) e
  where
    by : (o : Option ℕ) → (unwrap_or o 10 == n) ≡ true → option_map_or is_drawn_number o false ≡ true
    by (Some m) q = let s : m ≡ n = eqb-true m n q in ap is_drawn_number s ∙ t
    by None q = let s : 10 ≡ n = eqb-true 10 n q in absurd (true_false (sym t ∙ ap is_drawn_number (sym s)))
      where
        true_false : true ≡ false → ⊥
        true_false w = cc

find_passes : (p : ℕ → Bool) (from n k : ℕ) → find p (range_with_len from n) ≡ Some k → p k ≡ true
find_passes p from zero k e = absurd (cc)
find_passes p from (suc n) k e = by (p from) refl (find_passes p (from + 1) n k) e
  where
    by :
        (b : Bool) → p from ≡ b → (find p (range_with_len (from + 1) n) ≡ Some k → p k ≡ true)
        → cond b (Some from) (find p (range_with_len (from + 1) n)) ≡ Some k → p k ≡ true
    by true t rest q = let s : from ≡ k = cc in subst (λ (j : ℕ). p j ≡ true) s t
    by false t rest q = rest q

any_same : {X : Type 0} (p q : X → Bool) (xs : List X) → All (λ x. p x ≡ q x) xs → list_any p xs ≡ list_any q xs
any_same p q [] same = refl
any_same p q (x ∷ xs) same =
    let here = All-head (λ y. p y ≡ q y) x xs same in
    let rest = any_same p q xs (All-tail (λ y. p y ≡ q y) x xs same) in
    (λ i. here i || rest i)

lt_false : (a b : ℕ) → b ≤ a → nat_lt a b ≡ false
lt_false a b h = by (cases_lt a b)
  where
    by : (a < b) ⊎ (b ≤ a) → nat_lt a b ≡ false
    by (inl q) = absurd (omega arith)
    by (inr q) = grind (arith, nat_tests)

-- no name that is asked for is no level's
all_found : (wad : List ℕ) (names : List (List ℕ)) → lumps_refusal wad names ≡ None → list_all (has_level wad) names ≡ true
all_found wad names r = by (are_inside wad 0 (lump_count wad)) (not (is_crowded wad)) (list_all (has_level wad) names) r
  where
    by : (a b c : Bool) → first_failed ((a, LumpOutside) ∷ (b, TooLong) ∷ (c, NoSuchLevel) ∷ []) ≡ None → c ≡ true
    by true true true q = refl
    by true true false q = absurd (cc)
    by true false c q = absurd (cc)
    by false b c q = absurd (cc)

module _ (wad : List ℕ) (held : Option (List ℕ)) (len : ℕ) (s : StandsInFor wad held len) (vs : List Lump) (are : AreContents None (kept_lumps wad held) vs) where
  -- the whole WAD, with zeros behind it
  pub whole : List ℕ
  whole = wad_of (take 4 wad) vs ++ replicate (len - wad_size vs) 0

  head : IsHeaded wad
  head = headed wad s.accepted

  count_is : length vs ≡ lump_count wad
  count_is =
      let a = contents_long (kept_lumps wad held) vs are in
      let b = length-map-range_with_len (kept_at wad held) 0 (lump_count wad - 0) in
      omega (arith, a, b)

  own : (k : ℕ) (l : Lump) → k < lump_count wad → IsBecome (kept_at wad held k) (get_or vs k l)
  own k l lt =
      let b = length-map-range_with_len (kept_at wad held) 0 (lump_count wad - 0) in
      subst (λ (p : Placed). IsBecome p (get_or vs k l))
      (get_or-map-range_with_len (kept_at wad held) 0 (lump_count wad - 0) k k (kept_at wad held k) (omega (arith, lt)) (omega arith))
      (contents_at (kept_lumps wad held) vs k (kept_at wad held k) l are (omega (arith, lt, b)))

  named : All IsNamed8 vs
  named = λ k l lt.
      let n = count_is in
      let here : k < lump_count wad = omega (arith, lt, n) in
      let i = own k l here in
      ap (λ (m : Name8). length m.bytes) i.name ∙ name_long wad k head here

  size_is : wad_size vs ≤ len
  size_is =
      let n = contents_size (kept_lumps wad held) vs are in
      let fits = s.fits in
      omega (arith, n, fits)

  pub is_of : IsWadOf (take 4 wad) vs whole
  unfolding whole
  is_of =
      let n = size_is in
      let short = s.short in
      padded (take 4 wad) vs (replicate (len - wad_size vs) 0) head.kind named (omega (arith, n, short))

  pub long_is : length whole ≡ len
  unfolding whole
  long_is =
      let n1 = size_is in
      let n2 = length-append (wad_of (take 4 wad) vs) (replicate (len - wad_size vs) 0) in
      let n3 = wad_long (take 4 wad) vs head.kind named in
      let n4 = length-replicate {A = ℕ} (len - wad_size vs) 0 in
      omega (arith, n1, n2, n3, n4)

  pub whole_count : lump_count whole ≡ lump_count wad
  whole_count =
      let a = ap (λ (ls : List Lump). length ls) is_of.lumps_are in
      let b = length-map-range_with_len (lump_at whole) 0 (lump_count whole - 0) in
      let c = count_is in
      omega (arith, a, b, c)

  lump_is : (k : ℕ) → k < lump_count wad → IsBecome (kept_at wad held k) (lump_at whole k)
  lump_is k lt =
      let c = whole_count in
      let l = lump_at whole k in
      let there : get_or vs k l ≡ l =
      ap (λ (ls : List Lump). get_or ls k l) (sym is_of.lumps_are)
      ∙ get_or-map-range_with_len (lump_at whole) 0 (lump_count whole - 0) k k l (omega (arith, lt, c)) (omega arith) in
      subst (IsBecome (kept_at wad held k)) there (own k l lt)

  same_names : HasSameNames wad whole
  same_names = record { count = whole_count; names = λ k lt. (lump_is k lt).name }

  drawn : (k : ℕ) → k < lump_count wad → is_drawn_name (entry_text wad k) ≡ true → standing whole k ≡ standing wad k
  drawn k lt t =
      let c = whole_count in
      lump_stands whole k is_of.inside (omega (arith, lt, c)) ∙ kept_drawn wad held k (lump whole k) t (lump_is k lt).content ∙ sym (lump_stands wad k s.lumps lt)

  level_same : (l : LevelEntries) (n : ℕ) → is_drawn_number n ≡ true → level_lump whole l n ≡ level_lump wad l n
  level_same l n t = by (lump_entry wad l n) refl
    where
      by : (o : Option ℕ) → lump_entry wad l n ≡ o → level_lump whole l n ≡ level_lump wad l n
      by None e =
          ap (λ (o : Option ℕ). option_map_or (standing whole) o []) (same_entry wad whole same_names l n ∙ e)
          ∙ sym (ap (λ (o : Option ℕ). option_map_or (standing wad) o []) e)
      by (Some k) e =
          let passes = find_passes (λ j. rank wad j == n) (l.marker + 1) (min l.lumps_end (lump_count wad) - (l.marker + 1)) k e in
          let lt : k < lump_count wad = found_among wad l n k e in
          ap (λ (o : Option ℕ). option_map_or (standing whole) o []) (same_entry wad whole same_names l n ∙ e)
          ∙ drawn k lt (drawn_by (entry_text wad k) n passes t)
          ∙ sym (ap (λ (o : Option ℕ). option_map_or (standing wad) o []) e)

  drawn_same : (l : LevelEntries) → HasSameDrawn wad whole l
  drawn_same l =
      let is : ℕ → Type 0 = λ n. level_lump whole l n ≡ level_lump wad l n in
      All-cons is 0 (1 ∷ 2 ∷ 3 ∷ 7 ∷ 8 ∷ []) (level_same l 0 refl)
      (All-cons is 1 (2 ∷ 3 ∷ 7 ∷ 8 ∷ []) (level_same l 1 refl)
      (All-cons is 2 (3 ∷ 7 ∷ 8 ∷ []) (level_same l 2 refl)
      (All-cons is 3 (7 ∷ 8 ∷ []) (level_same l 3 refl)
      (All-cons is 7 (8 ∷ []) (level_same l 7 refl) (All-cons is 8 [] (level_same l 8 refl) (All-nil is))))))

  pub ten_same : MakesSame wad whole
  ten_same l m =
      let e0 = level_same l 0 refl in
      let e1 = level_same l 1 refl in
      let e2 = level_same l 2 refl in
      let e7 = level_same l 7 refl in
      let e8 = level_same l 8 refl in
      λ i. with_names lump_names
      (e0 i ∷ e1 i ∷ e2 i ∷ m.vertices.items ∷ m.segs.items ∷ m.subs.items ∷ m.nodes.items ∷ e7 i ∷ reject_of (e8 i) m ∷ m.blockmap.items ∷ [])

  fate_same : (l : LevelEntries) (f : Fate) → HasSameLevel wad whole l f
  fate_same l NotAsked = tt
  fate_same l (Made m) = drawn_same l
  fate_same l (Left c) = drawn_same l

  pub rebuilt_too : (names : List (List ℕ)) (levels : List RebuiltLevel) → AreRebuilt wad names levels → AreRebuilt whole names levels
  rebuilt_too names levels r =
      rest_on_lumps wad whole names levels s.lumps is_of.inside (record { names = same_names; each = λ k d lt. fate_same (get_or levels k d).entries (get_or levels k d).fate }) r

  has_same : (levels : List LevelEntries) (name : List ℕ) → AreLevels wad levels → AreLevels whole levels → has_level whole name ≡ has_level wad name
  has_same levels name a b =
      level_of_name whole name levels b
      ∙ any_same (λ (l : LevelEntries). same_bytes (entry_text whole l.marker) name) (λ (l : LevelEntries). same_bytes (entry_text wad l.marker) name) levels
      (λ k d lt. ap (λ (n : Name8). same_bytes (name_text n) name) ((lump_is _ ((a.each k d lt).among)).name))
      ∙ sym (level_of_name wad name levels a)

  uncrowded : is_crowded whole ≡ false
  uncrowded =
      let z : lump_count whole ≡ lump_count whole - 0 = omega arith in
      let a = sizes_are whole (lump_count whole) is_of.inside (omega arith) in
      let b = ap (λ (n : ℕ). length (all_bytes (map (lump_at whole) (range_with_len 0 n)))) z ∙ ap (λ (ls : List Lump). length (all_bytes ls)) is_of.lumps_are in
      let l = long_is in
      let n = size_is in
      lt_false (length whole) (sizes_below whole (lump_count whole) / 4) (omega (arith, a, b, l, n))

  pub accepted_too : (names : List (List ℕ)) (levels : List RebuiltLevel) → IsAcceptedWith wad names levels → whole_refusal whole names ≡ None
  accepted_too names levels a =
      let es = map (λ (l : RebuiltLevel). l.entries) levels in
      let here = a.levels_are.levels_are in
      let there = (rebuilt_too names levels a.levels_are).levels_are in
      let found = all_found wad names (sym (of_wad wad names s.accepted) ∙ a.accepted) in
      let all : list_all (has_level whole) names ≡ true = ap (λ (f : List ℕ → Bool). list_all f names) (λ i name. has_same es name here there i) ∙ found in
      let inside = is_of.inside in
      let crowded = uncrowded in
      of_wad whole names is_of.accepted ∙ rw (inside, crowded, all) refl
