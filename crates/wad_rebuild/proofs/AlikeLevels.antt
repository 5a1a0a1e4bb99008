-- Two WADs with the same names in their directories have the same levels; what hinders one rests on its drawn lumps.
use Rattle.std.proofs.Common.{◌≡◌, ◌∙◌, refl, sym, ap, subst, cond, ℕ, zero, suc, ◌+◌, ◌-◌, ◌<◌, ◌≤◌, Bool, true, false, not, ◌&&◌, List, [], ◌∷◌, filter, length, take, drop, length-drop, arith, Some, None, Option}
use Rattle.std.specs.Prelude.{◌==◌, ◌%◌, ◌||◌, if◌then◌else◌, All, codes, find, flat_map, get_or, min, nat_lt, option_to_list, reverse}
use Rattle.std.specs.List.{range_with_len}
use Rattle.std.specs.Option.{option_map_or, option_or}
use Rattle.std.proofs.lemmas.Bool.{lt-ltb, ltb-false, ltb-true}
use Rattle.std.proofs.lemmas.List.{get_or-reverse, length-reverse, length-take-le}
use Rattle.std.proofs.lemmas.List.Elements.{All-head, All-tail}
use Rattle.lump_records.specs.Lumps.{records_of}
use Rattle.lump_records.specs.Names.{name_of, name_text}
use Rattle.lump_records.specs.declared.records.Name8.{Name8}
use Rattle.lump_records.specs.Records.{thing_at, line_at, side_at, vertex_at, sector_at}
use Rattle.wad_file.specs.Directory.{entry, entry_has_name, entry_text, is_outside, lump_count, standing}
use Rattle.wad_file.specs.Fields.{same_bytes}
use Rattle.wad_levels.specs.Called.{is_asked_of, is_level_asked, is_level_called, last_called}
use Rattle.wad_levels.specs.Drawn.{drawn_lists, entries_hindrance, entry_hindrance, form_hindrance, hindrance, level_lump, lists_hindrance, lump_hindrance}
use Rattle.wad_levels.specs.Entries.{AreLevels, IsLevelAt, IsRunEnd, comes_later, form_of, goes_on, is_behavior, is_gl, is_gl_marker, is_gl_name, is_level, is_udmf, level_name, lump_entry, rank, rank_of_name}
use Rattle.wad_levels.specs.Listing.{is_level_marker}
use Rattle.wad_levels.specs.declared.entries.LevelEntries.{LevelEntries}
use Rattle.wad_levels.specs.declared.entries.LevelForm.TheVariants.{Doom, Hexen, Udmf}
use Rattle.wad_levels.specs.declared.hindrance.Hindrance.{Hindrance}
use Rattle.wad_levels.specs.declared.hindrance.Hindrance.TheVariants.{LumpLength, LumpMissing}
use Rattle.wad_rebuild.specs.Alike.{HasSameDrawn, HasSameNames}

-- ---- lists

guarded : (i n : ℕ) (p q : Bool) → (i < n → p ≡ q) → (nat_lt i n && p) ≡ (nat_lt i n && q)
guarded i n p q same = by (nat_lt i n) refl
  where
    by : (b : Bool) → nat_lt i n ≡ b → (b && p) ≡ (b && q)
    by true is = same (ltb-true i n is)
    by false is = refl

within : (i n : ℕ) (p q other : Name8) → (i < n → p ≡ q) → (if nat_lt i n then p else other) ≡ (if nat_lt i n then q else other)
within i n p q other same = by (nat_lt i n) refl
  where
    by : (b : Bool) → nat_lt i n ≡ b → (if b then p else other) ≡ (if b then q else other)
    by true is = same (ltb-true i n is)
    by false is = refl

find_same :
    (p q : ℕ → Bool) (from n : ℕ) → ((k : ℕ) → from ≤ k → k < from + n → p k ≡ q k)
    → find p (range_with_len from n) ≡ find q (range_with_len from n)
find_same p q from zero same = refl
find_same p q from (suc n) same =
    ap (λ (b : Bool). cond b (Some from) (find p (range_with_len (from + 1) n))) (same from (omega arith) (omega arith))
    ∙ ap (λ (o : Option ℕ). cond (q from) (Some from) o)
    (find_same p q (from + 1) n (λ k low high. same k (omega (arith, low)) (omega (arith, high))))

pub find_below : (p : ℕ → Bool) (from n k : ℕ) → find p (range_with_len from n) ≡ Some k → k < from + n
find_below p from zero k e = absurd (cc)
find_below p from (suc n) k e = by (p from) (find_below p (from + 1) n k) e
  where
    by :
        (b : Bool) → (find p (range_with_len (from + 1) n) ≡ Some k → k < from + 1 + n)
        → cond b (Some from) (find p (range_with_len (from + 1) n)) ≡ Some k → k < from + suc n
    by true below e = let s : from ≡ k = cc in omega (arith, s)
    by false below e = let s = below e in omega (arith, s)

find_from : (p : ℕ → Bool) (from n k : ℕ) → find p (range_with_len from n) ≡ Some k → from ≤ k
find_from p from zero k e = absurd (cc)
find_from p from (suc n) k e = by (p from) (find_from p (from + 1) n k) e
  where
    by :
        (b : Bool) → (find p (range_with_len (from + 1) n) ≡ Some k → from + 1 ≤ k)
        → cond b (Some from) (find p (range_with_len (from + 1) n)) ≡ Some k → from ≤ k
    by true first e = let s : from ≡ k = cc in omega (arith, s)
    by false first e = let s = first e in omega (arith, s)

find_alike : {X : Type 0} (p q : X → Bool) (xs : List X) → All (λ x. p x ≡ q x) xs → find p xs ≡ find q xs
find_alike p q [] same = refl
find_alike p q (x ∷ xs) same =
    ap (λ b. cond b (Some x) (find p xs)) (All-head (λ y. p y ≡ q y) x xs same)
    ∙ ap (λ o. cond (q x) (Some x) o) (find_alike p q xs (All-tail (λ y. p y ≡ q y) x xs same))

all_reversed : {X : Type 0} (P : X → Type 0) (xs : List X) → All P xs → All P (reverse xs)
all_reversed P xs all k d lt =
    let long = length-reverse xs in
    let below : k < length xs = omega (arith, lt, long) in
    subst P (sym (get_or-reverse xs k d below)) (all (length xs - 1 - k) d (omega (arith, below)))

-- ---- the levels
run_same :
    (test same : ℕ → Bool) (from count other end : ℕ) → other ≡ count → ((k : ℕ) → k < count → same k ≡ test k)
    → IsRunEnd test from count end → IsRunEnd same from other end
run_same test same from count other end e each r =
    let among = r.among in
    record {
      behind = r.behind;
      among = omega (arith, among, e);
      passing = λ k low high. each k (omega (arith, among, high)) ∙ r.passing k low high;
      ended = λ below. let b : end < count = omega (arith, below, e) in each end b ∙ r.ended b;
    }

module _ (wad other : List ℕ) (h : HasSameNames wad other) where
  text : (k : ℕ) → k < lump_count wad → entry_text other k ≡ entry_text wad k
  text k lt = ap name_text (h.names k lt)

  named : (name : List ℕ) (k : ℕ) → k < lump_count wad → entry_has_name other name k ≡ entry_has_name wad name k
  named name k lt = ap (λ (t : List ℕ). same_bytes t name) (text k lt)

  named_within :
      (name : List ℕ) (k : ℕ)
      → (nat_lt k (lump_count other) && entry_has_name other name k) ≡ (nat_lt k (lump_count wad) && entry_has_name wad name k)
  named_within name k =
      ap (λ (n : ℕ). nat_lt k n && entry_has_name other name k) h.count
      ∙ guarded k (lump_count wad) (entry_has_name other name k) (entry_has_name wad name k) (named name k)

  same_marker : (k : ℕ) → is_level_marker other k ≡ is_level_marker wad k
  same_marker k = named_within (codes "THINGS") (k + 1)

  same_udmf : (k : ℕ) → is_udmf other k ≡ is_udmf wad k
  unfolding is_udmf
  same_udmf k = named_within (codes "TEXTMAP") (k + 1)

  same_behavior : (end : ℕ) → is_behavior other end ≡ is_behavior wad end
  unfolding is_behavior
  same_behavior end = named_within (codes "BEHAVIOR") end

  same_level : (k : ℕ) → is_level other k ≡ is_level wad k
  unfolding is_level
  same_level k =
      ap (λ (b : Bool). b || is_udmf other k) (same_marker k) ∙ ap (λ (b : Bool). is_level_marker wad k || b) (same_udmf k)

  ranked : (k : ℕ) → k < lump_count wad → rank other k ≡ rank wad k
  ranked k lt = ap rank_of_name (text k lt)

  later : (m k : ℕ) → k < lump_count wad → comes_later other m k ≡ comes_later wad m k
  unfolding comes_later
  later m k lt =
      ap (λ (n : ℕ). (k == (m + 1)) || nat_lt n (rank other k)) (ranked (k - 1) (omega (arith, lt)))
      ∙ ap (λ (n : ℕ). (k == (m + 1)) || nat_lt (rank wad (k - 1)) n) (ranked k lt)

  going : (m k : ℕ) → k < lump_count wad → goes_on other m k ≡ goes_on wad m k
  unfolding goes_on
  going m k lt =
      ap (λ (b : Bool). not b && nat_lt (rank other k) 10 && comes_later other m k) (same_level k)
      ∙ ap (λ (n : ℕ). not (is_level wad k) && nat_lt n 10 && comes_later other m k) (ranked k lt)
      ∙ ap (λ (b : Bool). not (is_level wad k) && nat_lt (rank wad k) 10 && b) (later m k lt)

  same_gl : (m k : ℕ) → m < lump_count wad → k < lump_count wad → is_gl other m k ≡ is_gl wad m k
  unfolding is_gl
  same_gl m k first lt =
      ap (λ (b : Bool). not b && (is_gl_name (entry_text other k) || is_gl_marker (entry_text other m) (entry_text other k))) (same_level k)
      ∙ ap (λ (t : List ℕ). not (is_level wad k) && (is_gl_name t || is_gl_marker (entry_text other m) t)) (text k lt)
      ∙ ap (λ (t : List ℕ). not (is_level wad k) && (is_gl_name (entry_text wad k) || is_gl_marker t (entry_text wad k))) (text m first)

  same_form : (m end : ℕ) → form_of other m end ≡ form_of wad m end
  same_form m end =
      ap (λ (b : Bool). if b then Udmf else (if is_behavior other end then Hexen else Doom)) (same_udmf m)
      ∙ ap (λ (b : Bool). if is_udmf wad m then Udmf else (if b then Hexen else Doom)) (same_behavior end)

  pub same_at : (l : LevelEntries) → IsLevelAt wad l → IsLevelAt other l
  same_at l i =
      record {
        among = subst (λ (n : ℕ). l.marker < n) (sym h.count) i.among;
        marker = same_level l.marker ∙ i.marker;
        lumps = run_same (goes_on wad l.marker) (goes_on other l.marker) (l.marker + 1) (lump_count wad) (lump_count other) l.lumps_end h.count (going l.marker) i.lumps;
        gl =
            run_same (is_gl wad l.marker) (is_gl other l.marker) l.lumps_end (lump_count wad) (lump_count other) l.gl_end h.count (λ k lt. same_gl l.marker k i.among lt)
            i.gl;
        form = i.form ∙ sym (same_form l.marker l.lumps_end);
      }

  pub same_levels : (levels : List LevelEntries) → AreLevels wad levels → AreLevels other levels
  same_levels levels are =
      record {
        markers =
            are.markers ∙ ap (λ (n : ℕ). filter (is_level wad) (range_with_len 0 n)) (sym h.count)
            ∙ ap (λ (p : ℕ → Bool). filter p (range_with_len 0 (lump_count other))) (λ i k. sym (same_level k) i);
        each = λ k d lt. same_at _ (are.each k d lt);
      }

  -- ---- the names that ask for them
  pub same_name : (l : LevelEntries) → level_name other l ≡ level_name wad l
  same_name l =
      ap (λ (n : ℕ). if nat_lt l.marker n then (entry other l.marker).name else name_of []) h.count
      ∙ within l.marker (lump_count wad) (entry other l.marker).name (entry wad l.marker).name (name_of []) (h.names l.marker)

  same_last : (levels : List LevelEntries) (name : List ℕ) → last_called other levels name ≡ last_called wad levels name
  same_last levels name =
      find_alike (is_level_called other name) (is_level_called wad name) (reverse levels)
      (all_reversed (λ (l : LevelEntries). is_level_called other name l ≡ is_level_called wad name l) levels
      (λ k d lt. ap (λ (n : Name8). same_bytes (name_text n) name) (same_name (get_or levels k d))))

  pub same_asked :
      (levels : List LevelEntries) (names : List (List ℕ)) (l : LevelEntries)
      → is_level_asked other levels names l ≡ is_level_asked wad levels names l
  same_asked levels names l =
      ap (λ (f : List ℕ → List LevelEntries). is_asked_of names (flat_map f names) l)
      (λ i name. option_to_list (same_last levels name i))

  -- ---- their lumps
  pub same_entry : (l : LevelEntries) (n : ℕ) → lump_entry other l n ≡ lump_entry wad l n
  same_entry l n =
      ap (λ (c : ℕ). find (λ k. rank other k == n) (range_with_len (l.marker + 1) (min l.lumps_end c - (l.marker + 1)))) h.count
      ∙ find_same (λ k. rank other k == n) (λ k. rank wad k == n) (l.marker + 1) (min l.lumps_end (lump_count wad) - (l.marker + 1))
      (λ k low high. ap (λ (r : ℕ). r == n) (ranked k (omega (arith, low, high))))

-- the entry that was found of a level's lump is one of the directory
pub found_among : (wad : List ℕ) (l : LevelEntries) (n k : ℕ) → lump_entry wad l n ≡ Some k → k < lump_count wad
found_among wad l n k e =
    let first = find_from (λ j. rank wad j == n) (l.marker + 1) (min l.lumps_end (lump_count wad) - (l.marker + 1)) k e in
    let below = find_below (λ j. rank wad j == n) (l.marker + 1) (min l.lumps_end (lump_count wad) - (l.marker + 1)) k e in
    omega (arith, below, first)

-- what was drawn of a level
pub same_drawn : (wad other : List ℕ) (l : LevelEntries) → HasSameDrawn wad other l → drawn_lists other l ≡ drawn_lists wad l
same_drawn wad other l d =
    λ i. record {
      things = records_of thing_at 10 (d 0 0 (omega arith) i);
      lines = records_of line_at 14 (d 1 0 (omega arith) i);
      sides = records_of side_at 30 (d 2 0 (omega arith) i);
      vertices = records_of vertex_at 4 (d 3 0 (omega arith) i);
      sectors = records_of sector_at 26 (d 4 0 (omega arith) i);
      reject = d 5 0 (omega arith) i;
    }

taken_long : (w : List ℕ) (at size : ℕ) → (nat_lt 0 size && nat_lt (length w) (at + size)) ≡ false → length (take size (drop at w)) ≡ size
taken_long w at zero e = refl
taken_long w at (suc n) e =
    let some : nat_lt 0 (suc n) ≡ true = lt-ltb 0 (suc n) (omega arith) in
    let le : at + suc n ≤ length w = ltb-false (length w) (at + suc n) (sym (ap (λ (b : Bool). b && nat_lt (length w) (at + suc n)) some) ∙ e) in
    let rest = length-drop at w in
    length-take-le (suc n) (drop at w) (omega (arith, le, rest))

standing_long : (w : List ℕ) (k : ℕ) → is_outside w (entry w k) ≡ false → length (standing w k) ≡ (entry w k).size
standing_long w k e =
    let t = taken_long w (entry w k).at (entry w k).size e in
    rw e t

-- each lump of a WAD stands in it
abbrev pub AreInside : List ℕ → Type 0
AreInside w = (k : ℕ) → k < lump_count w → is_outside w (entry w k) ≡ false

entry_alike :
    (wad other : List ℕ) (n size k : ℕ) → is_outside wad (entry wad k) ≡ false → is_outside other (entry other k) ≡ false
    → standing other k ≡ standing wad k → entry_hindrance other n size k ≡ entry_hindrance wad n size k
entry_alike wad other n size k inside outside e =
    let s : (entry other k).size ≡ (entry wad k).size = sym (standing_long other k outside) ∙ ap (λ (b : List ℕ). length b) e ∙ standing_long wad k inside in
    rw (inside, outside) (ap (λ (m : ℕ). if (m % size) == 0 then None else Some (LumpLength n)) s)

module _ (wad other : List ℕ) (h : HasSameNames wad other) (inside : AreInside wad) (outside : AreInside other) where
  lump_alike :
      (l : LevelEntries) (n size : ℕ) → level_lump other l n ≡ level_lump wad l n
      → lump_hindrance other l n size ≡ lump_hindrance wad l n size
  lump_alike l n size same = by (lump_entry wad l n) refl
    where
      missing : Option Hindrance
      missing = Some (LumpMissing n)

      by : (o : Option ℕ) → lump_entry wad l n ≡ o → lump_hindrance other l n size ≡ lump_hindrance wad l n size
      by None e =
          ap (λ (o : Option ℕ). option_map_or (entry_hindrance other n size) o missing) (same_entry wad other h l n ∙ e)
          ∙ sym (ap (λ (o : Option ℕ). option_map_or (entry_hindrance wad n size) o missing) e)
      by (Some k) e =
          let lt : k < lump_count wad = found_among wad l n k e in
          let o = same_entry wad other h l n ∙ e in
          let bytes : standing other k ≡ standing wad k =
          sym (ap (λ (x : Option ℕ). option_map_or (standing other) x []) o) ∙ same ∙ ap (λ (x : Option ℕ). option_map_or (standing wad) x []) e in
          ap (λ (x : Option ℕ). option_map_or (entry_hindrance other n size) x missing) o
          ∙ entry_alike wad other n size k (inside k lt) (outside k (subst (λ (m : ℕ). k < m) (sym h.count) lt)) bytes
          ∙ sym (ap (λ (x : Option ℕ). option_map_or (entry_hindrance wad n size) x missing) e)

  entries_alike : (l : LevelEntries) → HasSameDrawn wad other l → entries_hindrance other l ≡ entries_hindrance wad l
  entries_alike l d =
      let e0 = lump_alike l 0 10 (d 0 0 (omega arith)) in
      let e1 = lump_alike l 1 14 (d 1 0 (omega arith)) in
      let e2 = lump_alike l 2 30 (d 2 0 (omega arith)) in
      let e3 = lump_alike l 3 4 (d 3 0 (omega arith)) in
      let e7 = lump_alike l 7 26 (d 4 0 (omega arith)) in
      λ i. option_or (form_hindrance l.form) (option_or (e0 i) (option_or (e1 i) (option_or (e2 i) (option_or (e3 i) (e7 i)))))

  pub same_hindrance : (l : LevelEntries) → HasSameDrawn wad other l → hindrance other l ≡ hindrance wad l
  same_hindrance l d =
      let e = entries_alike l d in
      let s = same_drawn wad other l d in
      λ i. option_or (e i) (lists_hindrance (s i))
