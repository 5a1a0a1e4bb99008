-- One WAD can hold the levels of a project's maps.
use Rattle.std.proofs.Common.{◌≡◌, ◌≢◌, ◌∙◌, refl, sym, ap, subst, ℕ, zero, suc, ◌+◌, ◌*◌, ◌<◌, ◌≤◌, ◌⊎◌, inl, inr, List, [], ◌∷◌, ◌++◌, length, get_or, take, arith, length-append}
use Rattle.std.specs.Prelude.{◌↔◌, All, AllPairs, Option, None, Some, MatchOption, Result, Err, slice_get}
use Rattle.std.proofs.lemmas.List.Elements.{All-head, All-tail, All-nil, All-cons}
use Rattle.std.proofs.lemmas.Grind.{flat_map-append}
use Rattle.lump_records.specs.Names.{name_of, name_text, is_marker, IsNamed}
use Rattle.lump_records.specs.declared.records.Name8.{Name8}
use Rattle.map_tables.specs.Tables.{Tables}
use Rattle.map_tables.specs.Projects.{ProjectMaps, WellFormedProject}
use Rattle.wad_levels.specs.Levels.{IsLevel, Lumps}
use Rattle.wad_build.specs.Wad.{Part, AreParts, IsPart, all_lumps, lumps_of, level_part, wad_bytes}
use Rattle.wad_file.specs.Lumps.{all_bytes}
use Rattle.wad_build.specs.Views.{built_view, level_parts}
use Rattle.wad_build.specs.Sound.{CanBeBuilt, IsBuildRefusal, IsSoundBuild}
use Rattle.wad_build.specs.Projects.{IsLevelOf, AreLevelsOf, AreBuiltLevels, AreSoundLevels, HoldsOnly, IsSoundBuildOfAll, IsRefusalOfAll, Blames, parts_under}
use Rattle.wad_build.specs.Errors.{blamed}
use Rattle.wad_build.specs.declared.levels.NamedLevel.{NamedLevel}
use Rattle.wad_build.specs.declared.error.Unbuilt.{Unbuilt}
use Rattle.wad_build.specs.declared.error.BuildError.{BuildError}
use Rattle.wad_build.specs.declared.error.BuildError.TheVariants.{NothingToBuild, TooManyVertices, TooManySegs, TooManySubsectors, TooDeep, BlockmapTooLarge, OutOfMemory}
use Rattle.wad_build.proofs.CopyLemmas.{item_more}
use Rattle.wad_build.proofs.LengthLemmas.{lengths, one_long}
use Rattle.wad_build.proofs.LevelLemmas.{IsSizedLevel}
use Rattle.wad_build.proofs.SoundLemmas.{part_of_level, level_sound, sound_build, buildable, level_writable}

-- if a number names no item, it is past the last one
pub none_there : {X : Type 0} (P : Type 0) (Q : X → Type 0) (r : Option X) → MatchOption r P Q → ((x : X) → r ≡ Some x → ⊥) → P
none_there P Q None h never = h
none_there P Q (Some x) h never = absurd (never x refl)

-- ---- one more level

snoc : (ms : List Tables) (xs : List NamedLevel) (m : Tables) (x : NamedLevel) → AreLevelsOf ms xs → IsLevelOf m x → AreLevelsOf (ms ++ m ∷ []) (xs ++ x ∷ [])
snoc [] [] m x a h = (h, tt)
snoc [] (y ∷ xs) m x a h = absurd a
snoc (k ∷ ms) [] m x a h = absurd a
snoc (k ∷ ms) (y ∷ xs) m x a h = (a.0, snoc ms xs m x a.1 h)

pub levels_more :
    (ms : List Tables) (n : ℕ) (m : Tables) (xs : List NamedLevel) (x : NamedLevel) → slice_get ms n ≡ Some m → AreLevelsOf (take n ms) xs → IsLevelOf m x
    → AreLevelsOf (take (n + 1) ms) (xs ++ x ∷ [])
levels_more ms n m xs x at a h =
    subst (λ (ks : List Tables). AreLevelsOf ks (xs ++ x ∷ [])) (item_more ms (take n ms) n m at refl) (snoc (take n ms) xs m x a h)

-- ---- a first map without a line

abbrev refusal_in : (X : Type 0) → BuildError → Result X BuildError
refusal_in X e = Err e

-- the error of one call is that of another
pub err_too : {X Y : Type 0} (a b : BuildError) → refusal_in X a ≡ refusal_in X b → refusal_in Y a ≡ refusal_in Y b
err_too {X} {Y} a b same = let is : a ≡ b = cc in ap (refusal_in Y) is

pub same_refusal : {X Y : Type 0} {P : Type 0} (a b : BuildError) → (refusal_in X a ≡ refusal_in X b ↔ P) → (refusal_in Y a ≡ refusal_in Y b ↔ P)
same_refusal {X} {Y} {P} a b h = (λ q. h.0 (err_too {X = Y} {Y = X} a b q), λ z. err_too {X = X} {Y = Y} a b (h.1 z))

-- if the first map has no line, no level has been made yet
abbrev pub NoneYet : List Tables → ℕ → Type 0
NoneYet ms n = (m : Tables) → slice_get ms 0 ≡ Some m → length m.lines ≡ 0 → n ≡ 0

-- then the map whose level is to be made is that one
pub first_is : (ms : List Tables) (n : ℕ) (k m : Tables) → NoneYet ms n → slice_get ms n ≡ Some k → slice_get ms 0 ≡ Some m → length m.lines ≡ 0 → length k.lines ≡ 0
first_is ms n k m none here first empty =
    let zero_is : n ≡ 0 = none m first empty in
    let at : slice_get ms 0 ≡ Some k = subst (λ (i : ℕ). slice_get ms i ≡ Some k) zero_is here in
    let same : m ≡ k = cc in
    subst (λ (t : Tables). length t.lines ≡ 0) same empty

pub first_map : (ms : List Tables) (n : ℕ) (k m : Tables) → NoneYet ms n → slice_get ms n ≡ Some k → slice_get ms 0 ≡ Some m → length m.lines ≡ 0 → k ≡ m
first_map ms n k m none here first empty =
    let zero_is : n ≡ 0 = none m first empty in
    let at : slice_get ms 0 ≡ Some k = subst (λ (i : ℕ). slice_get ms i ≡ Some k) zero_is here in
    cc

abbrev unbuilt_in : (X : Type 0) → Unbuilt → Result X Unbuilt
unbuilt_in X u = Err u

-- the map is named
pub first_blamed : {X Y : Type 0} (e : BuildError) (k m : Tables) (u : Unbuilt) → u ≡ blamed e k.name → k ≡ m → refusal_in X e ≡ refusal_in X NothingToBuild
    → unbuilt_in Y u ≡ unbuilt_in Y (blamed NothingToBuild m.name)
first_blamed {X} {Y} e k m u is first none =
    let error : e ≡ NothingToBuild = cc in
    ap (unbuilt_in Y) (is ∙ ap (λ (x : BuildError). blamed x k.name) error ∙ ap (λ (t : Tables). blamed NothingToBuild t.name) first)

-- so it is after a call that passes the refusal on
pub unbuilt_too : {X Y : Type 0} (u v : Unbuilt) → unbuilt_in X u ≡ unbuilt_in X v → unbuilt_in Y u ≡ unbuilt_in Y v
unbuilt_too {X} {Y} u v same = let is : u ≡ v = cc in ap (unbuilt_in Y) is

pub error_too : {X Y : Type 0} (u : Unbuilt) (name : Name8) → unbuilt_in X u ≡ unbuilt_in X (blamed NothingToBuild name) → refusal_in Y u.error ≡ refusal_in Y NothingToBuild
error_too {X} {Y} u name same = let is : u ≡ blamed NothingToBuild name = cc in ap (λ (v : Unbuilt). refusal_in Y v.error) is

-- ---- what the levels show about the maps

pub all_buildable : (ms : List Tables) (xs : List NamedLevel) → AreLevelsOf ms xs → All CanBeBuilt ms
all_buildable [] [] a = All-nil CanBeBuilt
all_buildable [] (x ∷ xs) a = absurd a
all_buildable (m ∷ ms) [] a = absurd a
all_buildable (m ∷ ms) (x ∷ xs) a = All-cons CanBeBuilt m ms (buildable m (built_view x.level) a.0.level) (all_buildable ms xs a.1)

pub first_refused : (ms : List Tables) (n : ℕ) (m : Tables) (xs : List NamedLevel) (e : BuildError) → slice_get ms n ≡ Some m → AreLevelsOf (take n ms) xs → IsBuildRefusal m e
    → Blames ms (blamed e m.name).error (blamed e m.name).map
first_refused ms n m xs OutOfMemory at a h = refl
first_refused ms n m xs NothingToBuild at a h = (record { number = n; refused = m; is_refused = at; before = all_buildable (take n ms) xs a; cause = h }, refl)
first_refused ms n m xs TooManyVertices at a h = (record { number = n; refused = m; is_refused = at; before = all_buildable (take n ms) xs a; cause = h }, refl)
first_refused ms n m xs TooManySegs at a h = (record { number = n; refused = m; is_refused = at; before = all_buildable (take n ms) xs a; cause = h }, refl)
first_refused ms n m xs TooManySubsectors at a h = (record { number = n; refused = m; is_refused = at; before = all_buildable (take n ms) xs a; cause = h }, refl)
first_refused ms n m xs TooDeep at a h = (record { number = n; refused = m; is_refused = at; before = all_buildable (take n ms) xs a; cause = h }, refl)
first_refused ms n m xs BlockmapTooLarge at a h = (record { number = n; refused = m; is_refused = at; before = all_buildable (take n ms) xs a; cause = h }, refl)

-- the refusal that names a map is that of all maps
pub of_all : (ms : List Tables) (e : BuildError) (name : Option Name8) → Blames ms e name → IsRefusalOfAll ms e
of_all ms OutOfMemory name h = tt
of_all ms NothingToBuild name h = h.0
of_all ms TooManyVertices name h = h.0
of_all ms TooManySegs name h = h.0
of_all ms TooManySubsectors name h = h.0
of_all ms TooDeep name h = h.0
of_all ms BlockmapTooLarge name h = h.0

pub all_sound : (wad : List ℕ) (ms : List Tables) (xs : List NamedLevel) → AreLevelsOf ms xs → All (λ (l : NamedLevel). IsLevel wad (name_text l.name) (built_view l.level)) xs → IsSoundBuildOfAll ms wad
all_sound wad [] [] a r = All-nil (λ (m : Tables). IsSoundBuild m wad)
all_sound wad [] (x ∷ xs) a r = absurd a
all_sound wad (m ∷ ms) [] a r = absurd a
all_sound wad (m ∷ ms) (x ∷ xs) a r =
    let P = λ (l : NamedLevel). IsLevel wad (name_text l.name) (built_view l.level) in
    All-cons (λ (k : Tables). IsSoundBuild k wad) m ms (sound_build m (built_view x.level) wad x.name a.0.named a.0.level (All-head P x xs r)) (all_sound wad ms xs a.1 (All-tail P x xs r))

abbrev levels_in : List NamedLevel → List Lumps
levels_in [] = []
levels_in (x ∷ xs) = built_view x.level ∷ levels_in xs

same_parts : (ms : List Tables) (xs : List NamedLevel) → AreLevelsOf ms xs → level_parts xs ≡ parts_under ms (levels_in xs)
same_parts [] [] a = refl
same_parts [] (x ∷ xs) a = absurd a
same_parts (m ∷ ms) [] a = absurd a
same_parts (m ∷ ms) (x ∷ xs) a =
    ap (λ (n : Name8). level_part n (built_view x.level) ∷ level_parts xs) a.0.named
    ∙ ap (λ (ps : List Part). level_part m.name (built_view x.level) ∷ ps) (same_parts ms xs a.1)

sound_levels : (ms : List Tables) (xs : List NamedLevel) → AreLevelsOf ms xs → AreSoundLevels ms (levels_in xs)
sound_levels [] [] a = tt
sound_levels [] (x ∷ xs) a = absurd a
sound_levels (m ∷ ms) [] a = absurd a
sound_levels (m ∷ ms) (x ∷ xs) a = (level_sound m (built_view x.level) a.0.level, sound_levels ms xs a.1)

built_levels : (ms : List Tables) (xs : List NamedLevel) → AreLevelsOf ms xs → AreBuiltLevels ms (levels_in xs)
built_levels [] [] a = tt
built_levels [] (x ∷ xs) a = absurd a
built_levels (m ∷ ms) [] a = absurd a
built_levels (m ∷ ms) (x ∷ xs) a = (a.0.level, built_levels ms xs a.1)

pub holds_only : (wad : List ℕ) (ms : List Tables) (xs : List NamedLevel) → AreLevelsOf ms xs → wad ≡ wad_bytes (all_lumps (level_parts xs)) → HoldsOnly ms wad
holds_only wad ms xs a w =
    record {
      levels = levels_in xs;
      sound = sound_levels ms xs a;
      built = built_levels ms xs a;
      bytes = w ∙ ap (λ (ps : List Part). wad_bytes (all_lumps ps)) (same_parts ms xs a);
    }

-- the records of each level have the bytes of their kinds
pub levels_sized : (ms : List Tables) (xs : List NamedLevel) → AreLevelsOf ms xs → All IsSizedLevel xs
levels_sized [] [] a = All-nil IsSizedLevel
levels_sized [] (x ∷ xs) a = absurd a
levels_sized (m ∷ ms) [] a = absurd a
levels_sized (m ∷ ms) (x ∷ xs) a = All-cons IsSizedLevel x xs (lengths (built_view x.level) (level_writable m (built_view x.level) a.0.level)) (levels_sized ms xs a.1)

-- ---- one WAD can hold them

same_count : (ms : List Tables) (xs : List NamedLevel) → AreLevelsOf ms xs → length (level_parts xs) ≡ length ms
same_count [] [] a = refl
same_count [] (x ∷ xs) a = absurd a
same_count (m ∷ ms) [] a = absurd a
same_count (m ∷ ms) (x ∷ xs) a = ap suc (same_count ms xs a.1)

all_parts : (ms : List Tables) (xs : List NamedLevel) → AreLevelsOf ms xs → All IsPart (level_parts xs)
all_parts [] [] a = All-nil IsPart
all_parts [] (x ∷ xs) a = absurd a
all_parts (m ∷ ms) [] a = absurd a
all_parts (m ∷ ms) (x ∷ xs) a = All-cons IsPart (level_part x.name (built_view x.level)) (level_parts xs) (part_of_level m (built_view x.level) x.name a.0.named a.0.level) (all_parts ms xs a.1)

-- the name of a level is its map's
pub record HasMapName (name : Name8) (m : Tables) : Type 0 where
  pub is : name ≡ m.name
  pub marker : IsNamed is_marker m.name

name_at : (ms : List Tables) (xs : List NamedLevel) (i : ℕ) (p : Part) (d : Tables) → AreLevelsOf ms xs → i < length (level_parts xs) → HasMapName (get_or (level_parts xs) i p).name (get_or ms i d)
name_at [] [] i p d a h = absurd (omega arith)
name_at [] (x ∷ xs) i p d a h = absurd a
name_at (m ∷ ms) [] i p d a h = absurd a
name_at (m ∷ ms) (x ∷ xs) zero p d a h = record { is = a.0.named; marker = a.0.level.well_formed.name }
name_at (m ∷ ms) (x ∷ xs) (suc i) p d a h = name_at ms xs i p d a.1 (omega (arith, h))

same_text : (a b : Name8) (m n : Tables) → HasMapName a m → HasMapName b n → name_text a ≡ name_text b → m.name ≡ n.name
same_text a b m n h k e =
    let texts : name_text m.name ≡ name_text n.name = ap name_text (sym h.is) ∙ e ∙ ap name_text k.is in
    h.marker.padded ∙ ap name_of texts ∙ sym k.marker.padded

apart : (i j : ℕ) → i ≢ j → (i < j) ⊎ (j < i)
apart zero zero d = absurd (d refl)
apart zero (suc j) d = inl (omega arith)
apart (suc i) zero d = inr (omega arith)
apart (suc i) (suc j) d = up (apart i j (λ e. d (ap suc e)))
  where
    up : (i < j) ⊎ (j < i) → (suc i < suc j) ⊎ (suc j < suc i)
    up (inl h) = inl (omega (arith, h))
    up (inr h) = inr (omega (arith, h))

names_differ :
    (ms : List Tables) (xs : List NamedLevel) (d : Tables) → AreLevelsOf ms xs → AllPairs (λ m n. m.name ≢ n.name) ms → (i j : ℕ) (p : Part) → i < length (level_parts xs) → j < length (level_parts xs)
    → i ≢ j → name_text (get_or (level_parts xs) i p).name ≢ name_text (get_or (level_parts xs) j p).name
names_differ ms xs d a names i j p h k ne e = by (apart i j ne)
  where
    count : length (level_parts xs) ≡ length ms
    count = same_count ms xs a

    same : (get_or ms i d).name ≡ (get_or ms j d).name
    same = same_text (get_or (level_parts xs) i p).name (get_or (level_parts xs) j p).name (get_or ms i d) (get_or ms j d) (name_at ms xs i p d a h) (name_at ms xs j p d a k) e

    by : (i < j) ⊎ (j < i) → ⊥
    by (inl l) = names i j d l (let c = count in omega (arith, k, c)) same
    by (inr l) = names j i d l (let c = count in omega (arith, h, c)) (sym same)

-- the lengths of the levels
all_long : (ms : List Tables) (xs : List NamedLevel) → AreLevelsOf ms xs → length (all_bytes (all_lumps (level_parts xs))) ≤ 6000000 * length ms
all_long [] [] a = omega arith
all_long [] (x ∷ xs) a = absurd a
all_long (m ∷ ms) [] a = absurd a
all_long (m ∷ ms) (x ∷ xs) a =
    let rest = all_long ms xs a.1 in
    let here = one_long x.name (built_view x.level) (level_writable m (built_view x.level) a.0.level) in
    let both : length (all_bytes (all_lumps (level_parts (x ∷ xs)))) ≡ length (all_bytes (lumps_of (level_part x.name (built_view x.level)))) + length (all_bytes (all_lumps (level_parts xs))) =
    ap length (flat_map-append (λ l. l.bytes) (lumps_of (level_part x.name (built_view x.level))) (all_lumps (level_parts xs))) ∙ length-append (all_bytes (lumps_of (level_part x.name (built_view x.level))))
    (all_bytes (all_lumps (level_parts xs))) in
    omega (arith, rest, here, both)

all_count : (ms : List Tables) (xs : List NamedLevel) → AreLevelsOf ms xs → length (all_lumps (level_parts xs)) ≡ 11 * length ms
all_count [] [] a = refl
all_count [] (x ∷ xs) a = absurd a
all_count (m ∷ ms) [] a = absurd a
all_count (m ∷ ms) (x ∷ xs) a =
    let rest = all_count ms xs a.1 in
    let both : length (all_lumps (level_parts (x ∷ xs))) ≡ 11 + length (all_lumps (level_parts xs)) = length-append (lumps_of (level_part x.name (built_view x.level))) (all_lumps (level_parts xs)) in
    omega (arith, rest, both)

pub one_wad : (p : ProjectMaps) (xs : List NamedLevel) (d : Tables) → WellFormedProject p → AreLevelsOf p.maps xs → AreParts (level_parts xs)
one_wad p xs d w a =
    let long = all_long p.maps xs a in
    let lumps = all_count p.maps xs a in
    let count = w.count in
    record {
      each = all_parts p.maps xs a;
      differ = names_differ p.maps xs d a w.names;
      fits = omega (arith, long, lumps, count);
    }
