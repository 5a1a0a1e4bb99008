-- The levels of a WAD follow one another, and what stands behind the marker of each.
use Rattle.std.proofs.Common.{◌≡◌, ◌∙◌, refl, sym, ap, subst, cond, ℕ, zero, suc, ◌+◌, ◌-◌, ◌<◌, ◌≤◌, ◌⊎◌, inl, inr, Bool, true, false, not, ◌&&◌, ◌||◌, List, [], ◌∷◌, ◌++◌, length, get_or, map, filter, arith, append_assoc, append-nil, Some}
use Rattle.std.specs.Prelude.{All, nat_lt, slice_get}
use Rattle.std.specs.List.{list_any, range_with_len}
use Rattle.std.specs.Cmp.Lexicographic.{bytes_decides}
use Rattle.std.proofs.lemmas.Bool.{cases_lt}
use Rattle.std.proofs.lemmas.Bool.Decides.{nat_tests}
use Rattle.std.proofs.lemmas.List.{get_or_append_left}
use Rattle.std.proofs.lemmas.List.Elements.{All-append, All-cons, All-head, All-nil, All-tail}
use Rattle.lump_records.specs.Names.{name_text}
use Rattle.lump_records.specs.declared.records.Name8.{Name8}
use Rattle.wad_file.specs.Directory.{entry_has_name, entry_text, lump_count}
use Rattle.wad_file.specs.Fields.{same_bytes}
use Rattle.wad_file.specs.Lumps.{Lump, lump_at, lumps_between}
use Rattle.wad_levels.specs.Entries.{IsLevelAt, comes_later, goes_on, is_gl, is_gl_marker, is_gl_name, is_level, rank}
use Rattle.wad_levels.specs.Levels.{lump_names}
use Rattle.wad_levels.specs.declared.entries.LevelEntries.{LevelEntries}
use Rattle.wad_build.specs.Wad.{is_lump_name, with_names}
use Rattle.wad_rebuild.specs.Rebuilt.{AreRebuilt, lumps_after, lumps_from, made_lumps, ten_bytes, ten_lumps}
use Rattle.wad_rebuild.specs.declared.levels.Fate.{Fate}
use Rattle.wad_rebuild.specs.declared.levels.Fate.TheVariants.{NotAsked, Made, Left}
use Rattle.wad_rebuild.specs.declared.levels.RebuiltLevel.{RebuiltLevel}
use Rattle.wad_rebuild.specs.declared.made.MadeLumps.{MadeLumps}
use Rattle.wad_rebuild.proofs.PartLemmas.{between_at, between_long}
use Rattle.wad_rebuild.proofs.WholeLemmas.{levels_all}

-- ---- tests

pub true_or_not : (b : Bool) → b ≡ true → b ≡ false → ⊥
true_or_not b t f = cc

and_first : (a b : Bool) → (a && b) ≡ true → a ≡ true
and_first true b e = refl
and_first false b e = absurd (cc)

not_so : (b : Bool) → not b ≡ true → b ≡ false
not_so true e = absurd (cc)
not_so false e = refl

or_neither : (a b : Bool) → (a || b) ≡ false → (a ≡ false) × (b ≡ false)
or_neither true b e = absurd (cc)
or_neither false b e = (refl, e)

pub second : (a b : Bool) → a ≡ true → (a && b) ≡ false → b ≡ false
second true b t e = e
second false b t e = absurd (cc)

pub hexen_by : (a b : Bool) → (a ≡ false) ⊎ (b ≡ false) → (a && b) ≡ false
hexen_by true b (inl e) = absurd (cc)
hexen_by true b (inr e) = e
hexen_by false b e = refl

pub lt_holds : (a b : ℕ) → a < b → nat_lt a b ≡ true
lt_holds a b h = grind (arith, nat_tests)

pub lt_fails : (a b : ℕ) → b ≤ a → nat_lt a b ≡ false
lt_fails a b h = by (cases_lt a b)
  where
    by : (a < b) ⊎ (b ≤ a) → nat_lt a b ≡ false
    by (inl q) = absurd (omega arith)
    by (inr q) = grind (arith, nat_tests)

pub same_self : (a : List ℕ) → same_bytes a a ≡ true
same_self a = (bytes_decides a a).1 refl

pub none_is : {X : Type 0} (test : X → Bool) (xs : List X) → list_any test xs ≡ false → (n : ℕ) (d : X) → n < length xs → test (get_or xs n d) ≡ false
none_is test [] e n d h = absurd (omega arith)
none_is test (x ∷ xs) e zero d h = (or_neither (test x) (list_any test xs) e).0
none_is test (x ∷ xs) e (suc n) d h = none_is test xs (or_neither (test x) (list_any test xs) e).1 n d (omega arith)

-- ---- the levels of a WAD follow one another

-- from the k-th entry on
abbrev pub Follow : List ℕ → ℕ → List RebuiltLevel → Type 0
Follow wad k [] = k ≤ lump_count wad
Follow wad k (l ∷ ls) = (k ≤ l.entries.marker) × IsLevelAt wad l.entries × Follow wad l.entries.gl_end ls

goes_no_level : (wad : List ℕ) (m j : ℕ) → goes_on wad m j ≡ true → is_level wad j ≡ false
unfolding goes_on
goes_no_level wad m j e =
    let level = is_level wad j in
    let later = nat_lt (rank wad j) 10 in
    not_so level (and_first (not level) later (and_first (not level && later) (comes_later wad m j) e))

gl_no_level : (wad : List ℕ) (m j : ℕ) → is_gl wad m j ≡ true → is_level wad j ≡ false
unfolding is_gl
gl_no_level wad m j e =
    let named = is_gl_name (entry_text wad j) || is_gl_marker (entry_text wad m) (entry_text wad j) in
    not_so (is_level wad j) (and_first (not (is_level wad j)) named e)

-- no entry of a level but its marker is the marker of a level
none_inside : (wad : List ℕ) (l : LevelEntries) → IsLevelAt wad l → (j : ℕ) → l.marker + 1 ≤ j → j < l.gl_end → is_level wad j ≡ false
none_inside wad l at j low high = by (cases_lt j l.lumps_end)
  where
    by : (j < l.lumps_end) ⊎ (l.lumps_end ≤ j) → is_level wad j ≡ false
    by (inl h) = goes_no_level wad l.marker j (at.lumps.passing j low h)
    by (inr h) = gl_no_level wad l.marker j (at.gl.passing j h high)

abbrev markers : List RebuiltLevel → List ℕ
markers ls = map (λ (l : RebuiltLevel). l.entries.marker) ls

-- what holds of the levels whose markers are those of `len` entries from the k-th on, none of them before `low`
abbrev FollowFrom : List ℕ → ℕ → ℕ → Type 0
FollowFrom wad len k =
    (low : ℕ) (ls : List RebuiltLevel) → markers ls ≡ filter (is_level wad) (range_with_len k len) → All (λ (l : RebuiltLevel). IsLevelAt wad l.entries) ls → k + len ≡ lump_count wad
    → low ≤ lump_count wad → ((j : ℕ) → k ≤ j → j < low → is_level wad j ≡ false) → Follow wad low ls

low_is : (wad : List ℕ) (k low : ℕ) → ((j : ℕ) → k ≤ j → j < low → is_level wad j ≡ false) → is_level wad k ≡ true → low ≤ k
low_is wad k low none t = by (cases_lt k low)
  where
    by : (k < low) ⊎ (low ≤ k) → low ≤ k
    by (inl h) = absurd (true_or_not (is_level wad k) t (none k (omega arith) h))
    by (inr h) = h

-- the k-th entry is a marker
follow_marker :
    (wad : List ℕ) (len k low : ℕ) (ls : List RebuiltLevel) → FollowFrom wad len (k + 1) → markers ls ≡ k ∷ filter (is_level wad) (range_with_len (k + 1) len)
    → All (λ (l : RebuiltLevel). IsLevelAt wad l.entries) ls → k + suc len ≡ lump_count wad → low ≤ k → Follow wad low ls
follow_marker wad len k low [] behind e each all low_here = absurd (cc)
follow_marker wad len k low (x ∷ xs) behind e each all low_here =
    let level = All-head (λ (l : RebuiltLevel). IsLevelAt wad l.entries) x xs each in
    let at : x.entries.marker ≡ k = cc in
    let rest : markers xs ≡ filter (is_level wad) (range_with_len (k + 1) len) = cc in (
      omega (arith, at, low_here),
      level,
      behind x.entries.gl_end xs rest (All-tail (λ (l : RebuiltLevel). IsLevelAt wad l.entries) x xs each) (omega (arith, all)) level.gl.among
          (λ j above below. none_inside wad x.entries level j (omega (arith, at, above)) below),
    )

follow_step : (wad : List ℕ) (len k : ℕ) → FollowFrom wad len (k + 1) → (t : Bool) → is_level wad k ≡ t → FollowFrom wad (suc len) k
follow_step wad len k behind true t low ls same each all end none =
    let rest = filter (is_level wad) (range_with_len (k + 1) len) in
    follow_marker wad len k low ls behind (same ∙ ap (λ (b : Bool). cond b (k ∷ rest) rest) t) each all (low_is wad k low none t)
follow_step wad len k behind false t low ls same each all end none =
    let rest = filter (is_level wad) (range_with_len (k + 1) len) in
    behind low ls (same ∙ ap (λ (b : Bool). cond b (k ∷ rest) rest) t) each (omega (arith, all)) end (λ j above below. none j (omega arith) below)

follow_none : (wad : List ℕ) (low : ℕ) (ls : List RebuiltLevel) → markers ls ≡ [] → low ≤ lump_count wad → Follow wad low ls
follow_none wad low [] e end = end
follow_none wad low (l ∷ ls) e end = absurd (cc)

follow_from : (wad : List ℕ) (len k : ℕ) → FollowFrom wad len k
follow_from wad zero k = λ low ls same each all end none. follow_none wad low ls same end
follow_from wad (suc len) k = follow_step wad len k (follow_from wad len (k + 1)) (is_level wad k) refl

map_twice : (xs : List RebuiltLevel) → markers xs ≡ map (λ (l : LevelEntries). l.marker) (map (λ (x : RebuiltLevel). x.entries) xs)
map_twice [] = refl
map_twice (x ∷ xs) = ap (λ (ns : List ℕ). x.entries.marker ∷ ns) (map_twice xs)

pub levels_follow : (wad : List ℕ) (names : List (List ℕ)) (ls : List RebuiltLevel) → AreRebuilt wad names ls → Follow wad 0 ls
levels_follow wad names ls are =
    follow_from wad (lump_count wad) 0 0 ls (map_twice ls ∙ are.levels_are.markers) (levels_all wad ls are.levels_are.each) (omega arith) (omega arith)
    (λ j above below. absurd (omega arith))

-- ---- the names of the lumps behind a level

abbrev pub IsOther : List ℕ → Lump → Type 0
IsOther text x = same_bytes (name_text x.name) text ≡ false

others_between : (wad text : List ℕ) (from end : ℕ) → ((j : ℕ) → from ≤ j → j < end → entry_has_name wad text j ≡ false) → All (IsOther text) (lumps_between wad from end)
others_between wad text from end none = λ i d h.
    let n = between_long wad from end in
    let k : from + i - from ≡ i = omega arith in
    let is = ap (λ (m : ℕ). get_or (lumps_between wad from end) m d) (sym k) ∙ between_at wad from end (from + i) d (omega arith) (omega (arith, n, h)) in
    subst (IsOther text) (sym is) (none (from + i) (omega arith) (omega (arith, n, h)))

others_named :
    (text : List ℕ) (names : List Name8) (bs : List (List ℕ)) → list_any (λ name. same_bytes (name_text name) text) names ≡ false → All (IsOther text) (with_names names bs)
others_named text [] bs e = All-nil (IsOther text)
others_named text (x ∷ names) [] e = All-nil (IsOther text)
others_named text (x ∷ names) (b ∷ bs) e =
    let parts = or_neither (same_bytes (name_text x) text) (list_any (λ name. same_bytes (name_text name) text) names) e in
    All-cons (IsOther text) (record { name = x; bytes = b }) (with_names names bs) parts.0 (others_named text names bs parts.1)

-- the text is none of the names of a level's lumps
pub free_of : (text : List ℕ) → is_lump_name text ≡ false → list_any (λ name. same_bytes (name_text name) text) lump_names ≡ false
free_of text free = (or_neither _ _ free).0

others_after :
    (wad text : List ℕ) (l : LevelEntries) (fate : Fate) → IsLevelAt wad l → is_lump_name text ≡ false → ((j : ℕ) → l.marker ≤ j → j < lump_count wad → entry_has_name wad text j ≡ false)
    → All (IsOther text) (lumps_after wad l fate)
others_after wad text l NotAsked at free none = others_between wad text l.marker l.gl_end (λ j low high. none j low (omega (arith, at.gl.among, high)))
others_after wad text l (Left c) at free none = others_between wad text l.marker l.gl_end (λ j low high. none j low (omega (arith, at.gl.among, high)))
others_after wad text l (Made m) at free none =
    All-cons (IsOther text) (lump_at wad l.marker) (ten_lumps wad l m) (none l.marker (omega arith) at.among) (others_named text lump_names (ten_bytes wad l m) (free_of text free))

pub others_from :
    (wad text : List ℕ) (k : ℕ) (ls : List RebuiltLevel) → Follow wad k ls → is_lump_name text ≡ false → ((j : ℕ) → k ≤ j → j < lump_count wad → entry_has_name wad text j ≡ false)
    → All (IsOther text) (lumps_from wad k ls)
others_from wad text k [] follow free none = others_between wad text k (lump_count wad) none
others_from wad text k (l ∷ ls) (low, at, more) free none =
    let e = l.entries in
    let marker_in : e.marker < lump_count wad = at.among in
    let behind : e.marker + 1 ≤ e.gl_end = omega (arith, at.lumps.behind, at.gl.behind) in
    All-append (IsOther text) (lumps_between wad k e.marker) (lumps_after wad e l.fate ++ lumps_from wad e.gl_end ls)
    (others_between wad text k e.marker (λ j above below. none j above (omega arith)))
    (All-append (IsOther text) (lumps_after wad e l.fate) (lumps_from wad e.gl_end ls) (others_after wad text e l.fate at free (λ j above below. none j (omega arith) below))
    (others_from wad text e.gl_end ls more free (λ j above below. none j (omega arith) below)))

-- ---- the first of the lumps behind a level

first_between : (wad : List ℕ) (k end : ℕ) (rest : List Lump) (d : Lump) → k < end → get_or (lumps_between wad k end ++ rest) 0 d ≡ lump_at wad k
first_between wad k end rest d h =
    let n = between_long wad k end in
    let z : k - k ≡ 0 = omega arith in
    get_or_append_left (lumps_between wad k end) rest d 0 (omega (arith, n)) ∙ ap (λ (m : ℕ). get_or (lumps_between wad k end) m d) (sym z)
    ∙ between_at wad k end k d (omega arith) h

none_between : (wad : List ℕ) (k end : ℕ) → end ≤ k → lumps_between wad k end ≡ []
none_between wad k end h = let z : end - k ≡ 0 = omega arith in rw z refl

first_after : (wad : List ℕ) (l : LevelEntries) (fate : Fate) (rest : List Lump) (d : Lump) → IsLevelAt wad l → get_or (lumps_after wad l fate ++ rest) 0 d ≡ lump_at wad l.marker
first_after wad l NotAsked rest d at = first_between wad l.marker l.gl_end rest d (omega (arith, at.lumps.behind, at.gl.behind))
first_after wad l (Left c) rest d at = first_between wad l.marker l.gl_end rest d (omega (arith, at.lumps.behind, at.gl.behind))
first_after wad l (Made m) rest d at = refl

pub first_from : (wad : List ℕ) (k : ℕ) (ls : List RebuiltLevel) (d : Lump) → Follow wad k ls → k < lump_count wad → get_or (lumps_from wad k ls) 0 d ≡ lump_at wad k
first_from wad k [] d follow h =
    ap (λ (xs : List Lump). get_or xs 0 d) (sym (append-nil (lumps_between wad k (lump_count wad)))) ∙ first_between wad k (lump_count wad) [] d h
first_from wad k (l ∷ ls) d (low, at, more) h = by (cases_lt k l.entries.marker)
  where
    rest : List Lump
    rest = lumps_after wad l.entries l.fate ++ lumps_from wad l.entries.gl_end ls

    by : (k < l.entries.marker) ⊎ (l.entries.marker ≤ k) → get_or (lumps_from wad k (l ∷ ls)) 0 d ≡ lump_at wad k
    by (inl q) = first_between wad k l.entries.marker rest d q
    by (inr q) =
        let e : l.entries.marker ≡ k = omega (arith, low) in
        ap (λ (xs : List Lump). get_or (xs ++ rest) 0 d) (none_between wad k l.entries.marker q)
        ∙ first_after wad l.entries l.fate (lumps_from wad l.entries.gl_end ls) d at
        ∙ ap (lump_at wad) e

pub last_of_all : (wad : List ℕ) (k : ℕ) (ls : List RebuiltLevel) → Follow wad k ls → lump_count wad ≤ k → lumps_from wad k ls ≡ []
last_of_all wad k [] follow h = none_between wad k (lump_count wad) h
last_of_all wad k (l ∷ ls) (low, at, more) h = let in_wad : l.entries.marker < lump_count wad = at.among in absurd (omega arith)

-- ---- where the level stands

-- its lumps stand between those before it and those behind it
pub record Stands (wad : List ℕ) (k : ℕ) (ls : List RebuiltLevel) (x : RebuiltLevel) (m : MadeLumps) : Type 0 where
  pub before : List Lump
  pub rest : List RebuiltLevel
  pub whole : lumps_from wad k ls ≡ before ++ (made_lumps wad x.entries m ++ lumps_from wad x.entries.gl_end rest)
  pub follow : Follow wad x.entries.gl_end rest
  pub at : IsLevelAt wad x.entries

regroup : (a b c d : List Lump) → a ++ (b ++ (c ++ d)) ≡ (a ++ (b ++ c)) ++ d
regroup a b c d = simp append_assoc

stands_here :
    (wad : List ℕ) (k : ℕ) (l : RebuiltLevel) (ls : List RebuiltLevel) (m : MadeLumps) → IsLevelAt wad l.entries → Follow wad l.entries.gl_end ls → l.fate ≡ Made m → Stands wad k (l ∷ ls) l m
stands_here wad k l ls m at more made =
    record {
      before = lumps_between wad k l.entries.marker;
      rest = ls;
      whole = ap (λ (f : Fate). lumps_between wad k l.entries.marker ++ (lumps_after wad l.entries f ++ lumps_from wad l.entries.gl_end ls)) made;
      follow = more;
      at = at;
    }

pub stands_among :
    (wad : List ℕ) (k : ℕ) (ls : List RebuiltLevel) (n : ℕ) (x : RebuiltLevel) (m : MadeLumps) → Follow wad k ls → slice_get ls n ≡ Some x → x.fate ≡ Made m → Stands wad k ls x m
stands_among wad k [] zero x m follow is made = absurd (cc)
stands_among wad k [] (suc n) x m follow is made = absurd (cc)
stands_among wad k (l ∷ ls) zero x m (low, at, more) is made =
    let same : l ≡ x = cc in
    subst (λ (y : RebuiltLevel). Stands wad k (l ∷ ls) y m) same (stands_here wad k l ls m at more (ap (λ (y : RebuiltLevel). y.fate) same ∙ made))
stands_among wad k (l ∷ ls) (suc n) x m (low, at, more) is made =
    let s = stands_among wad l.entries.gl_end ls n x m more is made in
    let front = lumps_between wad k l.entries.marker in
    let own = lumps_after wad l.entries l.fate in
    record {
      before = front ++ (own ++ s.before);
      rest = s.rest;
      whole = ap (λ (xs : List Lump). front ++ (own ++ xs)) s.whole ∙ regroup front own s.before (made_lumps wad x.entries m ++ lumps_from wad x.entries.gl_end s.rest);
      follow = s.follow;
      at = s.at;
    }
