-- What refuses a WAD, and what it has after its levels are built anew.
use Rattle.std.proofs.Common.{◌≡◌, ◌∙◌, refl, sym, ap, subst, ℕ, zero, suc, ◌<◌, ◌≤◌, Bool, true, false, ◌&&◌, List, [], ◌∷◌, ◌++◌, length, get_or, drop, map, arith, Option, None}
use Rattle.std.specs.Prelude.{All}
use Rattle.std.specs.List.{list_all, list_any}
use Rattle.std.proofs.lemmas.List.Elements.{All-nil, All-cons, All-head, All-tail}
use Rattle.wad_file.specs.Directory.{entry_text, wad_refusal}
use Rattle.wad_file.specs.Fields.{same_bytes}
use Rattle.wad_file.specs.Placed.{Placed, placed_size}
use Rattle.wad_file.proofs.NameLemmas.{any_map}
use Rattle.wad_levels.specs.Called.{is_asked_of, is_level_asked, last_of_each}
use Rattle.wad_levels.specs.Entries.{AreLevels, IsLevelAt, level_name}
use Rattle.wad_levels.specs.declared.entries.LevelEntries.{LevelEntries}
use Rattle.wad_rebuild.specs.Rebuilt.{IsFate, IsRebuilt, has_level, lumps_refusal, size_limit, whole_refusal}
use Rattle.wad_rebuild.specs.Held.{placed_lumps}
use Rattle.wad_rebuild.specs.Parts.{AddsPlaced, RefusesPut}
use Rattle.wad_rebuild.specs.Whole.{IsListOf, RefusesBytes}
use Rattle.wad_rebuild.specs.declared.error.RebuildError.{RebuildError}
use Rattle.wad_rebuild.specs.declared.error.RebuildError.TheVariants.{TooLong, NotAWad, DirectoryOutside, NoSuchLevel, LumpOutside, OutOfMemory}
use Rattle.wad_rebuild.specs.declared.levels.RebuiltLevel.{RebuiltLevel}
use Rattle.wad_rebuild.specs.declared.parts.BoundedWad.{BoundedWad}

-- ---- lists
pub any_here : {X : Type 0} (p : X → Bool) (xs : List X) (i : ℕ) (d : X) → i < length xs → p (get_or xs i d) ≡ true → list_any p (drop i xs) ≡ true
any_here p [] i d h t = absurd (omega arith)
any_here p (y ∷ xs) zero d h t = rw t refl
any_here p (y ∷ xs) (suc i) d h t = any_here p xs i d (omega arith) t

pub any_none : {X : Type 0} (p : X → Bool) (xs : List X) (i : ℕ) → length xs ≤ i → list_any p (drop i xs) ≡ false
any_none p [] zero h = refl
any_none p [] (suc i) h = refl
any_none p (y ∷ xs) zero h = absurd (omega arith)
any_none p (y ∷ xs) (suc i) h = any_none p xs i (omega arith)

pub all_here : {X : Type 0} (p : X → Bool) (xs : List X) (i : ℕ) (x : X) → i < length xs → get_or xs i x ≡ x → p x ≡ false → list_all p (drop i xs) ≡ false
all_here p [] i x h e t = absurd (omega arith)
all_here p (y ∷ xs) zero x h e t = let u : p y ≡ false = ap p e ∙ t in rw u refl
all_here p (y ∷ xs) (suc i) x h e t = all_here p xs i x (omega arith) e t

pub all_none : {X : Type 0} (p : X → Bool) (xs : List X) (i : ℕ) → length xs ≤ i → list_all p (drop i xs) ≡ true
all_none p [] zero h = refl
all_none p [] (suc i) h = refl
all_none p (y ∷ xs) zero h = absurd (omega arith)
all_none p (y ∷ xs) (suc i) h = all_none p xs i (omega arith)

pub all_map : {X Y : Type 0} (f : X → Y) (p : Y → Bool) (xs : List X) → list_all p (map f xs) ≡ list_all (λ (x : X). p (f x)) xs
all_map f p [] = refl
all_map f p (x ∷ xs) = ap (λ (b : Bool). p (f x) && b) (all_map f p xs)

pub levels_all : (wad : List ℕ) (levels : List RebuiltLevel) → All (IsLevelAt wad) (map (λ (l : RebuiltLevel). l.entries) levels) → All (λ (l : RebuiltLevel). IsLevelAt wad l.entries) levels
levels_all wad [] a = All-nil (λ (l : RebuiltLevel). IsLevelAt wad l.entries)
levels_all wad (l ∷ levels) a =
    let rest = map (λ (x : RebuiltLevel). x.entries) levels in
    All-cons (λ (x : RebuiltLevel). IsLevelAt wad x.entries) l levels (All-head (IsLevelAt wad) l.entries rest a)
    (levels_all wad levels (All-tail (IsLevelAt wad) l.entries rest a))

-- a level has the name where a marker has
pub level_of_name :
    (wad name : List ℕ) (levels : List LevelEntries) → AreLevels wad levels
    → has_level wad name ≡ list_any (λ (l : LevelEntries). same_bytes (entry_text wad l.marker) name) levels
level_of_name wad name levels a =
    ap (list_any (λ (k : ℕ). same_bytes (entry_text wad k) name)) (sym a.markers)
    ∙ any_map (λ (l : LevelEntries). l.marker) (λ (k : ℕ). same_bytes (entry_text wad k) name) levels

-- ---- what refuses it

-- of a WAD the first refusal is that of its lumps
pub of_wad : (wad : List ℕ) (names : List (List ℕ)) → wad_refusal wad ≡ None → whole_refusal wad names ≡ lumps_refusal wad names
of_wad wad names w = rw w refl

-- ---- a level with what becomes of it
pub is_rebuilt :
    (wad : List ℕ) (levels last : List LevelEntries) (names : List (List ℕ)) (x : RebuiltLevel) (l : LevelEntries) (asked : Bool) → x.entries ≡ l
    → x.name ≡ level_name wad l → IsFate wad asked l x.fate → asked ≡ is_asked_of names last l → last ≡ last_of_each wad levels names → IsRebuilt wad levels names x
is_rebuilt wad levels last names x l asked e n f a o =
    let same = a ∙ ap (λ (ms : List LevelEntries). is_asked_of names ms l) o in
    record {
      name_is = subst (λ (k : LevelEntries). x.name ≡ level_name wad k) (sym e) n;
      fate_is =
          subst (λ (k : LevelEntries). IsFate wad (is_level_asked wad levels names k) k x.fate) (sym e)
          (subst (λ (b : Bool). IsFate wad b l x.fate) same f);
    }

-- ---- what is written

-- the lumps that were listed of a WAD, and what refuses them
pub listed_all :
    (wad : List ℕ) (held : Option (List ℕ)) (len : ℕ) (levels : List RebuiltLevel) (a b : BoundedWad) → a.lumps ≡ [] → a.most ≡ size_limit len → AddsPlaced a b (placed_lumps wad held levels)
    → IsListOf wad held len levels b.lumps
listed_all wad held len levels a b none most p =
    let m = p.most_stays in
    let fits = p.fits.fits in
    let short = p.fits.short in
    record {
      lumps_are = p.lumps_are ∙ ap (λ (ps : List Placed). ps ++ placed_lumps wad held levels) none;
      fits = omega (arith, fits, m, most);
      short = omega (arith, fits, short);
    }

pub list_refused : (a : BoundedWad) (len : ℕ) (list : List Placed) (e : RebuildError) → a.lumps ≡ [] → a.most ≡ size_limit len → RefusesPut a list e → RefusesBytes (size_limit len) (placed_size list) e
list_refused a len list TooLong none most r = let size : placed_size a.lumps ≡ 12 = ap placed_size none in omega (arith, size, most, r)
list_refused a len list NotAWad none most r = r
list_refused a len list DirectoryOutside none most r = r
list_refused a len list NoSuchLevel none most r = r
list_refused a len list LumpOutside none most r = r
list_refused a len list OutOfMemory none most r = tt
