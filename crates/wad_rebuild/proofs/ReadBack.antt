-- A level that was built anew is read back by its name.
use Rattle.std.proofs.Common.{◌≡◌, ◌≢◌, ◌∙◌, refl, sym, ap, subst, cond, ℕ, zero, suc, ◌+◌, ◌-◌, ◌<◌, ◌≤◌, ◌⊎◌, inl, inr, Bool, true, false, List, [], ◌∷◌, ◌++◌, length, get_or, take, drop, map, arith, length-append, Option, Some, None}
use Rattle.std.specs.Prelude.{All, ◌%◌, ◌==◌, if◌then◌else◌, nat_lt, codes, slice_get}
use Rattle.std.specs.Option.{option_map_or, option_or}
use Rattle.std.proofs.lemmas.Bool.{cases_lt, lt-ltb}
use Rattle.std.proofs.lemmas.Bool.Decides.{eqb_tells}
use Rattle.std.proofs.lemmas.List.{get_or-append-add, get_or_append_left, length-drop, length-take-le}
use Rattle.std.proofs.lemmas.List.Elements.{All-head, All-tail}
use Rattle.lump_records.specs.Lumps.{records_of}
use Rattle.lump_records.specs.Names.{name_of, name_text}
use Rattle.lump_records.specs.Records.{thing_at, line_at, side_at, vertex_at, seg_at, sub_at, node_at, sector_at}
use Rattle.lump_records.specs.declared.records.Name8.{Name8}
use Rattle.wad_file.specs.Directory.{entry, entry_has_name, first_failed, has_directory, is_outside, is_wad, last_named, lump, lump_count, standing, wad_refusal}
use Rattle.wad_file.specs.Fields.{same_bytes}
use Rattle.wad_file.specs.Lumps.{IsWadOf, Lump, lump_at, lumps_in}
use Rattle.wad_file.specs.declared.error.WadError.TheVariants as bytes
use Rattle.wad_file.proofs.DirectoryLemmas.{inside_at}
use Rattle.wad_levels.specs.Drawn.{drawn_lists, entries_hindrance, entry_hindrance, form_hindrance, hindrance, level_lump, lists_hindrance, lump_hindrance}
use Rattle.wad_levels.specs.Entries.{IsLevelAt, is_behavior, level_name, lump_entry}
use Rattle.wad_levels.specs.Levels.{are_named, has_lumps, is_hexen, lump_names, lumps_behind, marker, marker_at, record_sizes, refusal}
use Rattle.wad_levels.specs.declared.entries.LevelEntries.{LevelEntries}
use Rattle.wad_levels.specs.declared.hindrance.Hindrance.TheVariants as hindering
use Rattle.wad_levels.proofs.ReadLemmas.{accepts}
use Rattle.wad_build.specs.Wad.{is_lump_name, with_names}
use Rattle.wad_build.proofs.PartLemmas.{IsNth, all_inside, all_named, all_whole, last_is, length-with, with_at}
use Rattle.wad_rebuild.specs.ReadBack.{RebuiltLevelsReadBack}
use Rattle.wad_rebuild.specs.Rebuilt.{IsFate, IsRebuilt, lumps_from, ten_bytes}
use Rattle.wad_rebuild.specs.Made.{reject_of}
use Rattle.wad_rebuild.specs.Remade.{IsRemade, remade_level}
use Rattle.wad_rebuild.specs.declared.levels.Fate.{Fate}
use Rattle.wad_rebuild.specs.declared.levels.Fate.TheVariants.{Made}
use Rattle.wad_rebuild.specs.declared.levels.RebuiltLevel.{RebuiltLevel}
use Rattle.wad_rebuild.specs.declared.made.MadeLumps.{MadeLumps}
use Rattle.wad_rebuild.proofs.PartLemmas.{between_at, between_long}
use Rattle.wad_rebuild.proofs.Following.{Follow, IsOther, first_from, free_of, hexen_by, last_of_all, levels_follow, lt_fails, lt_holds, none_is, others_from, same_self, second, stands_among, true_or_not}

-- ---- what was drawn of a level is whole records

option_parts : {X : Type 0} (a b : Option X) → option_or a b ≡ None → (a ≡ None) × (b ≡ None)
option_parts None b e = (refl, e)
option_parts (Some x) b e = absurd (cc)

lump_long : (wad : List ℕ) (k : ℕ) → is_outside wad (entry wad k) ≡ false → length (lump wad k) ≡ (entry wad k).size
lump_long wad k inside = by (cases_lt 0 (entry wad k).size)
  where
    at : ℕ
    at = (entry wad k).at

    size : ℕ
    size = (entry wad k).size

    fits : 0 < size → (length wad < at + size) ⊎ (at + size ≤ length wad) → length (take size (drop at wad)) ≡ size
    fits some (inl h) =
        let a = lt_holds 0 size some in
        let b = lt_holds (length wad) (at + size) h in
        let both : is_outside wad (entry wad k) ≡ true = rw (a, b) refl in
        absurd (true_or_not (is_outside wad (entry wad k)) both inside)
    fits some (inr h) = let d = length-drop at wad in length-take-le size (drop at wad) (omega (arith, d))

    by : (0 < size) ⊎ (size ≤ 0) → length (lump wad k) ≡ size
    by (inl some) = fits some (cases_lt (length wad) (at + size))
    by (inr none) = let z : size ≡ 0 = omega arith in length-take-le size (drop at wad) (omega arith)

zero_is : (n : ℕ) → (n == 0) ≡ true → n ≡ 0
zero_is n e = by (eqb_tells n 0)
  where
    by : (((n == 0) ≡ true) × (n ≡ 0)) ⊎ (((n == 0) ≡ false) × (n ≢ 0)) → n ≡ 0
    by (inl h) = h.1
    by (inr h) = absurd (true_or_not (n == 0) e h.0)

both_pass : (outside whole : Bool) (n : ℕ) → cond outside (Some (hindering.LumpOutside n)) (cond whole None (Some (hindering.LumpLength n))) ≡ None → (outside ≡ false) × (whole ≡ true)
both_pass true whole n e = absurd (cc)
both_pass false true n e = (refl, refl)
both_pass false false n e = absurd (cc)

standing_whole : (wad : List ℕ) (n size k : ℕ) → entry_hindrance wad n size k ≡ None → length (standing wad k) % size ≡ 0
standing_whole wad n size k e =
    let passed = both_pass (is_outside wad (entry wad k)) (((entry wad k).size % size) == 0) n e in
    let stands : standing wad k ≡ lump wad k = ap (λ (b : Bool). cond b [] (lump wad k)) passed.0 in
    ap (λ (b : List ℕ). length b % size) stands ∙ ap (λ (i : ℕ). i % size) (lump_long wad k passed.0) ∙ zero_is ((entry wad k).size % size) passed.1

-- a level has the name of its marker
marker_name : (wad : List ℕ) (l : LevelEntries) → IsLevelAt wad l → level_name wad l ≡ (entry wad l.marker).name
marker_name wad l at =
    let among = lt-ltb l.marker (lump_count wad) at.among in
    ap (λ (b : Bool). if b then (entry wad l.marker).name else name_of []) among

-- the level's lump of the number n is whole records of this size
drawn_whole : (wad : List ℕ) (l : LevelEntries) (n size : ℕ) → lump_hindrance wad l n size ≡ None → length (level_lump wad l n) % size ≡ 0
drawn_whole wad l n size none = by (lump_entry wad l n) none
  where
    by : (o : Option ℕ) → option_map_or (entry_hindrance wad n size) o (Some (hindering.LumpMissing n)) ≡ None → length (option_map_or (standing wad) o []) % size ≡ 0
    by None e = absurd (cc)
    by (Some k) e = standing_whole wad n size k e

pub record DrawnWhole (wad : List ℕ) (l : LevelEntries) : Type 0 where
  pub things : length (level_lump wad l 0) % 10 ≡ 0
  pub lines : length (level_lump wad l 1) % 14 ≡ 0
  pub sides : length (level_lump wad l 2) % 30 ≡ 0
  pub sectors : length (level_lump wad l 7) % 26 ≡ 0

pub drawn_are_whole : (wad : List ℕ) (l : LevelEntries) → hindrance wad l ≡ None → DrawnWhole wad l
drawn_are_whole wad l none =
    let entries = (option_parts (entries_hindrance wad l) (lists_hindrance (drawn_lists wad l)) none).0 in
    let from_0 = (option_parts (form_hindrance l.form) _ entries).1 in
    let from_1 = option_parts (lump_hindrance wad l 0 10) _ from_0 in
    let from_2 = option_parts (lump_hindrance wad l 1 14) _ from_1.1 in
    let from_3 = option_parts (lump_hindrance wad l 2 30) _ from_2.1 in
    let from_7 = option_parts (lump_hindrance wad l 3 4) (lump_hindrance wad l 7 26) from_3.1 in
    record {
      things = drawn_whole wad l 0 10 from_1.0;
      lines = drawn_whole wad l 1 14 from_2.0;
      sides = drawn_whole wad l 2 30 from_3.0;
      sectors = drawn_whole wad l 7 26 from_7.1;
    }

-- the ten lumps are whole records
ten_whole : (wad : List ℕ) (l : LevelEntries) (m : MadeLumps) → IsRemade wad l m → (n : ℕ) → n < 10 → length (get_or (ten_bytes wad l m) n []) % get_or record_sizes n 1 ≡ 0
ten_whole wad l m made zero h = (drawn_are_whole wad l made.unhindered).things
ten_whole wad l m made (suc zero) h = (drawn_are_whole wad l made.unhindered).lines
ten_whole wad l m made (suc (suc zero)) h = (drawn_are_whole wad l made.unhindered).sides
ten_whole wad l m made (suc (suc (suc zero))) h = made.made.whole.vertices
ten_whole wad l m made (suc (suc (suc (suc zero)))) h = made.made.whole.segs
ten_whole wad l m made (suc (suc (suc (suc (suc zero))))) h = made.made.whole.subs
ten_whole wad l m made (suc (suc (suc (suc (suc (suc zero)))))) h = made.made.whole.nodes
ten_whole wad l m made (suc (suc (suc (suc (suc (suc (suc zero))))))) h = (drawn_are_whole wad l made.unhindered).sectors
ten_whole wad l m made (suc (suc (suc (suc (suc (suc (suc (suc zero)))))))) h = omega arith
ten_whole wad l m made (suc (suc (suc (suc (suc (suc (suc (suc (suc zero))))))))) h = made.made.whole.blockmap
ten_whole wad l m made (suc (suc (suc (suc (suc (suc (suc (suc (suc (suc n)))))))))) h = absurd (omega arith)

-- ---- what is read of a WAD with these lumps

count_is : (kind out : List ℕ) (lumps : List Lump) → IsWadOf kind lumps out → lump_count out ≡ length lumps
count_is kind out lumps w = let n = between_long out 0 (lump_count out) in let e = ap (λ (xs : List Lump). length xs) w.lumps_are in omega (arith, n, e)

lump_is : (kind out : List ℕ) (lumps : List Lump) (k : ℕ) (d : Lump) → IsWadOf kind lumps out → k < length lumps → lump_at out k ≡ get_or lumps k d
lump_is kind out lumps k d w h =
    let c = count_is kind out lumps w in
    let z : k - 0 ≡ k = omega arith in
    sym (between_at out 0 (lump_count out) k d (omega arith) (omega (arith, c, h))) ∙ ap (λ (n : ℕ). get_or (lumps_in out) n d) z
    ∙ ap (λ (xs : List Lump). get_or xs k d) w.lumps_are

stands_in : (kind out : List ℕ) (lumps : List Lump) (k : ℕ) → IsWadOf kind lumps out → k < length lumps → is_outside out (entry out k) ≡ false
stands_in kind out lumps k w h =
    let c = count_is kind out lumps w in
    let z : 0 + k ≡ k = omega arith in
    subst (λ (n : ℕ). is_outside out (entry out n) ≡ false) z (inside_at out 0 (lump_count out) k w.inside (omega (arith, c, h)))

is_wad_like : (wad : List ℕ) → wad_refusal wad ≡ None → (is_wad wad ≡ true) × (has_directory wad ≡ true)
is_wad_like wad none = by (is_wad wad) (has_directory wad) none
  where
    by : (a b : Bool) → first_failed ((a, bytes.NotAWad) ∷ (b, bytes.DirectoryOutside) ∷ []) ≡ None → (a ≡ true) × (b ≡ true)
    by true true e = (refl, refl)
    by true false e = absurd (cc)
    by false b e = absurd (cc)

above_step :
    (wad name : List ℕ) (c k j : ℕ) (t : Bool) → entry_has_name wad name c ≡ t → cond t (Some c) (last_named wad name c) ≡ Some k → k < j → j < suc c
    → (last_named wad name c ≡ Some k → j < c → entry_has_name wad name j ≡ false) → entry_has_name wad name j ≡ false
above_step wad name c k j true t e above below behind = let h : c ≡ k = cc in absurd (omega (arith, h))
above_step wad name c k j false t e above below behind = by (cases_lt j c)
  where
    by : (j < c) ⊎ (c ≤ j) → entry_has_name wad name j ≡ false
    by (inl q) = behind e q
    by (inr q) = let h : j ≡ c = omega arith in ap (entry_has_name wad name) h ∙ t

above_last : (wad name : List ℕ) (count k : ℕ) → last_named wad name count ≡ Some k → (j : ℕ) → k < j → j < count → entry_has_name wad name j ≡ false
above_last wad name zero k e j above below = absurd (omega arith)
above_last wad name (suc c) k e j above below =
    above_step wad name c k j (entry_has_name wad name c) refl e above below (λ f q. above_last wad name c k f j above q)

has_both : (wad : List ℕ) (at : ℕ) → nat_lt (at + 10) (lump_count wad) ≡ true → are_named wad (at + 1) lump_names ≡ true → has_lumps wad at ≡ true
has_both wad at r n = rw (r, n) refl

-- ---- a level between other lumps

-- a WAD has these lumps: those before, a marker, ten with the names of a level's, and those behind
record HasLevel (kind out : List ℕ) (before after : List Lump) (marker_lump : Lump) (ten : List (List ℕ)) : Type 0 where
  pub wad : IsWadOf kind (before ++ ((marker_lump ∷ with_names lump_names ten) ++ after)) out
  pub many : length ten ≡ 10

level_long : (kind out : List ℕ) (before after : List Lump) (x : Lump) (ten : List (List ℕ)) → HasLevel kind out before after x ten → lump_count out ≡ length before + 11 + length after
level_long kind out before after x ten h =
    let c = count_is kind out _ h.wad in
    let t : length lump_names ≡ 10 = refl in
    let w = length-with lump_names ten (t ∙ sym h.many) in
    let a = length-append before ((x ∷ with_names lump_names ten) ++ after) in
    let b = length-append (x ∷ with_names lump_names ten) after in
    omega (arith, c, w, t, a, b)

-- its lump of the number n, of all that stand from its marker on
level_lump_is :
    (kind out : List ℕ) (before after : List Lump) (x : Lump) (ten : List (List ℕ)) (n : ℕ) (d : Lump) → HasLevel kind out before after x ten → n < 11 + length after
    → lump_at out (length before + n) ≡ get_or ((x ∷ with_names lump_names ten) ++ after) n d
level_lump_is kind out before after x ten n d h low =
    let c = count_is kind out _ h.wad in
    let l = level_long kind out before after x ten h in
    lump_is kind out _ (length before + n) d h.wad (omega (arith, c, l, low)) ∙ get_or-append-add before ((x ∷ with_names lump_names ten) ++ after) n d

level_inside :
    (kind out : List ℕ) (before after : List Lump) (x : Lump) (ten : List (List ℕ)) (n : ℕ) → HasLevel kind out before after x ten → n < 11 + length after
    → is_outside out (entry out (length before + n)) ≡ false
level_inside kind out before after x ten n h low =
    let c = count_is kind out _ h.wad in
    let l = level_long kind out before after x ten h in
    stands_in kind out _ (length before + n) h.wad (omega (arith, c, l, low))

no_name : Name8
no_name = record { bytes = [] }

no_lump : Lump
no_lump = record { name = no_name; bytes = [] }

-- the n-th of the ten
tenth :
    (kind out : List ℕ) (before after : List Lump) (x : Lump) (ten : List (List ℕ)) (n : ℕ) → HasLevel kind out before after x ten → n < 10
    → IsNth out (length before + 1 + n) (get_or lump_names n no_name) (get_or ten n [])
tenth kind out before after x ten n h low =
    let k : length before + suc n ≡ length before + 1 + n = omega arith in
    let t : length lump_names ≡ 10 = refl in
    let w = length-with lump_names ten (t ∙ sym h.many) in
    let v = with_at lump_names ten n no_lump no_name (t ∙ sym h.many) (omega (arith, t, low)) in
    let is : lump_at out (length before + 1 + n) ≡ get_or (with_names lump_names ten) n no_lump =
    ap (lump_at out) (sym k) ∙ level_lump_is kind out before after x ten (suc n) no_lump h (omega arith)
    ∙ get_or_append_left (with_names lump_names ten) after no_lump n (omega (arith, w, t, low)) in
    let inside : is_outside out (entry out (length before + 1 + n)) ≡ false =
    subst (λ (j : ℕ). is_outside out (entry out j) ≡ false) k (level_inside kind out before after x ten (suc n) h (omega arith)) in
    let holds = ap (λ (y : Lump). y.bytes) is ∙ v.bytes in
    record {
      named = ap (λ (y : Lump). y.name) is ∙ v.name;
      size = sym (lump_long out (length before + 1 + n) inside) ∙ ap (λ (b : List ℕ). length b) holds;
      inside = inside;
      holds = holds;
    }

-- ---- the law

-- an entry behind the marker has another name
behind_other :
    (kind out name : List ℕ) (before after : List Lump) (x : Lump) (ten : List (List ℕ)) → HasLevel kind out before after x ten → is_lump_name name ≡ false → All (IsOther name) after
    → (j n : ℕ) → j ≡ length before + suc n → n < 10 + length after → entry_has_name out name j ≡ false
behind_other kind out name before after x ten h free others j n is low = by (cases_lt n 10)
  where
    by : (n < 10) ⊎ (10 ≤ n) → entry_has_name out name j ≡ false
    by (inl q) =
        let k : length before + suc n ≡ length before + 1 + n = omega arith in
        let t : length lump_names ≡ 10 = refl in
        ap (λ (i : ℕ). entry_has_name out name i) (is ∙ k) ∙ ap (λ (y : Name8). same_bytes (name_text y) name) (tenth kind out before after x ten n h q).named
        ∙ none_is (λ (y : Name8). same_bytes (name_text y) name) lump_names (free_of name free) n no_name (omega (arith, t, q))
    by (inr q) =
        let t : length lump_names ≡ 10 = refl in
        let w = length-with lump_names ten (t ∙ sym h.many) in
        let r : length (x ∷ with_names lump_names ten) + (n - 10) ≡ suc n = omega (arith, w, t, q) in
        ap (λ (i : ℕ). entry_has_name out name i) is
        ∙ ap (λ (y : Lump). same_bytes (name_text y.name) name)
        (level_lump_is kind out before after x ten (suc n) no_lump h (omega arith) ∙ ap (λ (i : ℕ). get_or ((x ∷ with_names lump_names ten) ++ after) i no_lump) (sym r)
        ∙ get_or-append-add (x ∷ with_names lump_names ten) after (n - 10) no_lump)
        ∙ others (n - 10) no_lump (omega (arith, q, low))

-- the marker and the ten lumps are found by the name
reads :
    (kind out name : List ℕ) (before after : List Lump) (x : Lump) (ten : List (List ℕ)) → HasLevel kind out before after x ten → name_text x.name ≡ name
    → is_lump_name name ≡ false → All (IsOther name) after → is_hexen out (length before) ≡ false → ((n : ℕ) → n < 10 → length (get_or ten n []) % get_or record_sizes n 1 ≡ 0)
    → (marker out name ≡ Some (length before)) × (refusal out name ≡ None)
reads kind out name before after x ten h own free others doom whole =
    let l = level_long kind out before after x ten h in
    let at = length before in
    let t : length lump_names ≡ 10 = refl in
    let s : length record_sizes ≡ 10 = refl in
    let z : at + 0 ≡ at = omega arith in
    let here : entry_has_name out name at ≡ true =
    ap (λ (k : ℕ). entry_has_name out name k) (sym z)
    ∙ ap (λ (y : Lump). same_bytes (name_text y.name) name) (level_lump_is kind out before after x ten 0 no_lump h (omega arith))
    ∙ ap (λ (w : List ℕ). same_bytes w name) own ∙ same_self name in
    let last = last_is out name (lump_count out) at (omega (arith, l)) here
    (λ j above below. behind_other kind out name before after x ten h free others j (j - at - 1) (omega (arith, above)) (omega (arith, l, above, below))) in
    let ok = is_wad_like out h.wad.accepted in
    let room : nat_lt (at + 10) (lump_count out) ≡ true = lt_holds (at + 10) (lump_count out) (omega (arith, l)) in
    let named = all_named out (at + 1) lump_names no_name
    (λ n b. ap (λ (y : Name8). same_bytes (name_text y) (name_text (get_or lump_names n no_name))) (tenth kind out before after x ten n h (omega (arith, b, t))).named
    ∙ same_self (name_text (get_or lump_names n no_name))) in
    let inside = all_inside out (at + 1) 10 (λ n b. (tenth kind out before after x ten n h b).inside) in
    let sizes = all_whole out (at + 1) record_sizes
    (λ n b. ap (λ (i : ℕ). i % get_or record_sizes n 1) (tenth kind out before after x ten n h (omega (arith, b, s))).size ∙ whole n (omega (arith, b, s))) in
    (last, accepts out name at ok.0 ok.1 last (has_both out at room named) doom inside sizes)

behind_doom : (wad : List ℕ) (k : ℕ) → is_behavior wad k ≡ false → k < lump_count wad → entry_has_name wad (codes "BEHAVIOR") k ≡ false
unfolding is_behavior
behind_doom wad k doom inside = second (nat_lt k (lump_count wad)) (entry_has_name wad (codes "BEHAVIOR") k) (lt_holds k (lump_count wad) inside) doom

-- no BEHAVIOR stands behind the ten lumps
not_hexen :
    (kind out wad : List ℕ) (before : List Lump) (k : ℕ) (ls : List RebuiltLevel) (x : Lump) (ten : List (List ℕ)) → HasLevel kind out before (lumps_from wad k ls) x ten → Follow wad k ls
    → is_behavior wad k ≡ false → is_hexen out (length before) ≡ false
not_hexen kind out wad before k ls x ten h follow doom = by (cases_lt (length before + 11) (lump_count out)) (cases_lt k (lump_count wad))
  where
    by : (length before + 11 < lump_count out) ⊎ (lump_count out ≤ length before + 11) → (k < lump_count wad) ⊎ (lump_count wad ≤ k) → is_hexen out (length before) ≡ false
    by (inr q) r = hexen_by (nat_lt (length before + 11) (lump_count out)) (entry_has_name out (codes "BEHAVIOR") (length before + 11)) (inl (lt_fails (length before + 11) (lump_count out) q))
    by (inl q) (inr r) =
        let e = ap (λ (xs : List Lump). length xs) (last_of_all wad k ls follow r) in
        let c = level_long kind out before (lumps_from wad k ls) x ten h in
        absurd (omega (arith, c, e, q))
    by (inl q) (inl r) =
        let after = lumps_from wad k ls in
        let c = level_long kind out before after x ten h in
        let t : length lump_names ≡ 10 = refl in
        let v = length-with lump_names ten (t ∙ sym h.many) in
        let z : length (x ∷ with_names lump_names ten) + 0 ≡ 11 = omega (arith, v, t) in
        let is : lump_at out (length before + 11) ≡ lump_at wad k =
        level_lump_is kind out before after x ten 11 no_lump h (omega (arith, c, q)) ∙ ap (λ (i : ℕ). get_or ((x ∷ with_names lump_names ten) ++ after) i no_lump) (sym z)
        ∙ get_or-append-add (x ∷ with_names lump_names ten) after 0 no_lump
        ∙ first_from wad k ls no_lump follow r in
        let n : entry_has_name out (codes "BEHAVIOR") (length before + 11) ≡ false =
        ap (λ (y : Lump). same_bytes (name_text y.name) (codes "BEHAVIOR")) is ∙ behind_doom wad k doom r in
        hexen_by (nat_lt (length before + 11) (lump_count out)) (entry_has_name out (codes "BEHAVIOR") (length before + 11)) (inr n)

marker_unwrapped : (wad name : List ℕ) (at : ℕ) → marker wad name ≡ Some at → marker_at wad name ≡ at
marker_unwrapped wad name at m = rw m refl

each_is : (P : RebuiltLevel → Type 0) (xs : List RebuiltLevel) (k : ℕ) (y : RebuiltLevel) → slice_get xs k ≡ Some y → All P xs → P y
each_is P [] zero y e all = absurd (cc)
each_is P [] (suc k) y e all = absurd (cc)
each_is P (x ∷ xs) zero y e all = let same : x ≡ y = cc in subst P same (All-head P x xs all)
each_is P (x ∷ xs) (suc k) y e all = each_is P xs k y e (All-tail P x xs all)

is_remade : (w : List ℕ) (asked : Bool) (e : LevelEntries) (fate : Fate) (y : MadeLumps) → fate ≡ Made y → IsFate w asked e fate → IsRemade w e y
is_remade w asked e fate y same fine = (subst (IsFate w asked e) same fine).1

same_lists : (w : List ℕ) (e : LevelEntries) (y : MadeLumps) (o : List ℕ) (at : ℕ) → ((k : ℕ) → k < 10 → get_or (ten_bytes w e y) k [] ≡ lump o (at + 1 + k))
    → remade_level (drawn_lists w e) y ≡ lumps_behind o at
same_lists w e y o at p =
    let p0 : level_lump w e 0 ≡ lump o (at + 1 + 0) = p 0 (omega arith) in
    let p1 : level_lump w e 1 ≡ lump o (at + 1 + 1) = p 1 (omega arith) in
    let p2 : level_lump w e 2 ≡ lump o (at + 1 + 2) = p 2 (omega arith) in
    let p3 : y.vertices.items ≡ lump o (at + 1 + 3) = p 3 (omega arith) in
    let p4 : y.segs.items ≡ lump o (at + 1 + 4) = p 4 (omega arith) in
    let p5 : y.subs.items ≡ lump o (at + 1 + 5) = p 5 (omega arith) in
    let p6 : y.nodes.items ≡ lump o (at + 1 + 6) = p 6 (omega arith) in
    let p7 : level_lump w e 7 ≡ lump o (at + 1 + 7) = p 7 (omega arith) in
    let p8 : reject_of (level_lump w e 8) y ≡ lump o (at + 1 + 8) = p 8 (omega arith) in
    let p9 : y.blockmap.items ≡ lump o (at + 1 + 9) = p 9 (omega arith) in
    λ i.
    record {
      things = records_of thing_at 10 (p0 i);
      lines = records_of line_at 14 (p1 i);
      sides = records_of side_at 30 (p2 i);
      vertices = records_of vertex_at 4 (p3 i);
      segs = records_of seg_at 12 (p4 i);
      subs = records_of sub_at 4 (p5 i);
      nodes = records_of node_at 28 (p6 i);
      sectors = records_of sector_at 26 (p7 i);
      reject = p8 i;
      blockmap = p9 i;
    }

pub read_back : RebuiltLevelsReadBack
read_back wad names r n l m rebuilt is made found =
    let follow = levels_follow wad names r.levels.items rebuilt.levels_are in
    let s = stands_among wad 0 r.levels.items n l m follow is made in
    let e = l.entries in
    let out = r.bytes.items in
    let name = name_text l.name in
    let one : IsRebuilt wad (map (λ (x : RebuiltLevel). x.entries) r.levels.items) names l = each_is (IsRebuilt wad (map (λ (x : RebuiltLevel). x.entries) r.levels.items) names) r.levels.items n l is rebuilt.levels_are.each in
    let remade = is_remade wad _ e l.fate m made one.fate_is in
    let after = lumps_from wad e.gl_end s.rest in
    let marked : e.marker + 1 ≤ e.gl_end = omega (arith, s.at.lumps.behind, s.at.gl.behind) in
    let level : HasLevel (take 4 wad) out s.before after (lump_at wad e.marker) (ten_bytes wad e m) =
    record { wad = subst (λ (xs : List Lump). IsWadOf (take 4 wad) xs out) s.whole rebuilt.bytes_are; many = refl } in
    let others = others_from wad name e.gl_end s.rest s.follow found.free (λ j low high. above_last wad name (lump_count wad) e.marker found.last j (omega arith) high) in
    let doom = not_hexen (take 4 wad) out wad s.before e.gl_end s.rest (lump_at wad e.marker) (ten_bytes wad e m) level s.follow found.doom in
    let own : name_text (entry wad e.marker).name ≡ name = ap name_text (sym (marker_name wad e s.at) ∙ sym one.name_is) in
    let ok = reads (take 4 wad) out name s.before after (lump_at wad e.marker) (ten_bytes wad e m) level own found.free others doom (ten_whole wad e m remade) in
    let at = marker_unwrapped out name (length s.before) ok.0 in
    let holds : (k : ℕ) → k < 10 → get_or (ten_bytes wad e m) k [] ≡ lump out (marker_at out name + 1 + k) =
    (λ k b. sym (tenth (take 4 wad) out s.before after (lump_at wad e.marker) (ten_bytes wad e m) k level b).holds ∙ ap (λ (j : ℕ). lump out (j + 1 + k)) (sym at)) in
    record { accepted = ok.1; holds = same_lists wad e m out (marker_at out name) holds }
