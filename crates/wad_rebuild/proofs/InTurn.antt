-- Levels that are built one after another in any order, each at its own place.
use Rattle.std.proofs.Common.{◌≡◌, ◌∙◌, refl, sym, ap, subst, ℕ, zero, suc, ◌+◌, Bool, ◌<◌, ◌≤◌, List, [], ◌∷◌, ◌++◌, length, get_or, take, map, set, arith}
use Rattle.std.specs.Prelude.{All}
use Rattle.std.specs.List.{range_with_len}
use Rattle.std.specs.List.Sorted.{IsPermutation}
use Rattle.std.proofs.Math.Seq.{map-set_same, take-suc}
use Rattle.std.proofs.lemmas.List.{get_or-set_same, length-map, map-append, map-id, take_all}
use Rattle.std.proofs.lemmas.List.Elements.{All-get_or, All-more, All-nil, All-push, All-set}
use Rattle.std.proofs.lemmas.List.FromFn.{get_or-range_with_len, length-range_with_len, map-range_with_len_more}
use Rattle.std.proofs.lemmas.List.Sorted.{All-permutation, IsPermutation-sym}
use Rattle.wad_levels.specs.Called.{is_asked_of, last_of_each}
use Rattle.wad_levels.specs.Entries.{AreLevels, level_name}
use Rattle.wad_levels.specs.declared.entries.LevelEntries.{LevelEntries}
use Rattle.wad_rebuild.specs.Rebuilt.{AreRebuilt, IsFate, IsRebuilt}
use Rattle.wad_rebuild.specs.declared.levels.Fate.{Fate}
use Rattle.wad_rebuild.specs.declared.levels.RebuiltLevel.{RebuiltLevel}
use Rattle.wad_rebuild.proofs.WholeLemmas.{is_rebuilt}

-- ---- numbers in any order

-- one number more
pub one_number_more : (n : ℕ) → range_with_len 0 (n + 1) ≡ range_with_len 0 n ++ n ∷ []
one_number_more n =
    let z : 0 + n ≡ n = omega arith in
    sym (map-id (range_with_len 0 (n + 1))) ∙ map-range_with_len_more (λ (k : ℕ). k) 0 n n z
    ∙ ap (λ (ks : List ℕ). ks ++ n ∷ []) (map-id (range_with_len 0 n))

-- they are numbers of the list's elements
pub all_among : (n : ℕ) (order : List ℕ) → IsPermutation (range_with_len 0 n) order → All (λ k. k < n) order
all_among n order p =
    All-permutation (λ k. k < n) (range_with_len 0 n) order p
    (λ k d lt.
    let l = length-range_with_len 0 n in
    let e = get_or-range_with_len 0 n k d (omega (arith, lt, l)) in
    omega (arith, e, l, lt))

-- what holds at each of them holds at each number
at_each : (P : ℕ → Type 0) (n : ℕ) (order : List ℕ) → IsPermutation (range_with_len 0 n) order → All P order → (k : ℕ) → k < n → P k
at_each P n order p a k lt =
    let all = All-permutation P order (range_with_len 0 n) (IsPermutation-sym (range_with_len 0 n) order p) a in
    let l = length-range_with_len 0 n in
    let e : 0 + k ≡ k = omega arith in
    subst P (get_or-range_with_len 0 n k k lt ∙ e) (all k k (omega (arith, l, lt)))

-- what holds of an element, and of a new one, holds where the new one has replaced one
set_keeps : {X : Type 0} (P : X → Type 0) (xs : List X) (n m : ℕ) (y d : X) → P y → (m < length xs → P (get_or xs m d)) → m < length (set xs n y) → P (get_or (set xs n y) m d)
set_keeps P [] n m y d py old h = absurd (omega arith)
set_keeps P (x ∷ xs) zero zero y d py old h = py
set_keeps P (x ∷ xs) zero (suc m) y d py old h = old h
set_keeps P (x ∷ xs) (suc n) zero y d py old h = old (omega arith)
set_keeps P (x ∷ xs) (suc n) (suc m) y d py old h = set_keeps P xs n m y d py (λ q. old (omega (arith, q))) (omega (arith, h))

-- within a list the default doesn't matter
get_or_any : {X : Type 0} (xs : List X) (k : ℕ) (d e : X) → k < length xs → get_or xs k d ≡ get_or xs k e
get_or_any [] k d e h = absurd (omega arith)
get_or_any (x ∷ xs) zero d e h = refl
get_or_any (x ∷ xs) (suc k) d e h = get_or_any xs k d e (omega (arith, h))

-- ---- levels in any order

abbrev entries_of : List RebuiltLevel → List LevelEntries
entries_of xs = map (λ (l : RebuiltLevel). l.entries) xs

-- each has the name of its level
abbrev AreNamed : List ℕ → List RebuiltLevel → Type 0
AreNamed wad xs = All (λ (l : RebuiltLevel). l.name ≡ level_name wad l.entries) xs

-- one more stands at its place under its name
pub one_unbuilt :
    (wad : List ℕ) (levels : List LevelEntries) (n : ℕ) (so_far new : List RebuiltLevel) (x : RebuiltLevel) (d : LevelEntries) → entries_of so_far ≡ take n levels → AreNamed wad so_far
    → new ≡ so_far ++ x ∷ [] → n < length levels → x.entries ≡ get_or levels n d → x.name ≡ level_name wad x.entries → (entries_of new ≡ take (n + 1) levels) × AreNamed wad new
one_unbuilt wad levels n so_far new x d s named e h i name =
    let f : RebuiltLevel → LevelEntries = λ (l : RebuiltLevel). l.entries in
    let k : suc n ≡ n + 1 = omega arith in (
      ap (map f) e ∙ map-append f so_far (x ∷ []) ∙ ap (λ (ls : List LevelEntries). ls ++ x.entries ∷ []) s
          ∙ ap (λ (l : LevelEntries). take n levels ++ l ∷ []) i
          ∙ sym (take-suc levels n d h)
          ∙ ap (λ (m : ℕ). take m levels) k,
      subst (AreNamed wad) (sym e) (All-push (λ (l : RebuiltLevel). l.name ≡ level_name wad l.entries) so_far x named name),
    )

-- the level of this number has what becomes of it
abbrev IsBuilt : List ℕ → List (List ℕ) → List LevelEntries → List RebuiltLevel → ℕ → Type 0
IsBuilt wad names levels rebuilt k = (d : RebuiltLevel) → k < length rebuilt → IsRebuilt wad levels names (get_or rebuilt k d)

-- all stand at their places under their names, and the first n of the order have what becomes of them
pub record AreInTurn (wad : List ℕ) (names : List (List ℕ)) (levels : List LevelEntries) (order : List ℕ) (n : ℕ) (rebuilt : List RebuiltLevel) : Type 0 where
  pub entries : entries_of rebuilt ≡ levels
  pub named : AreNamed wad rebuilt
  pub built : All (IsBuilt wad names levels rebuilt) (take n order)

pub none_in_turn :
    (wad : List ℕ) (names : List (List ℕ)) (levels : List LevelEntries) (order : List ℕ) (rebuilt : List RebuiltLevel) → entries_of rebuilt ≡ levels
    → AreNamed wad rebuilt → AreInTurn wad names levels order 0 rebuilt
none_in_turn wad names levels order rebuilt e n = record { entries = e; named = n; built = All-nil (IsBuilt wad names levels rebuilt) }

-- so many as there are levels
as_many : (levels : List LevelEntries) (rebuilt : List RebuiltLevel) → entries_of rebuilt ≡ levels → length rebuilt ≡ length levels
as_many levels rebuilt e = sym (length-map rebuilt (λ (l : RebuiltLevel). l.entries)) ∙ ap (λ (ls : List LevelEntries). length ls) e

-- the next of the order is the number of one
pub next_among :
    (wad : List ℕ) (names : List (List ℕ)) (levels : List LevelEntries) (order : List ℕ) (n d : ℕ) (rebuilt : List RebuiltLevel) → AreInTurn wad names levels order n rebuilt
    → IsPermutation (range_with_len 0 (length levels)) order → n < length order → get_or order n d < length rebuilt
next_among wad names levels order n d rebuilt s p lt =
    let many = as_many levels rebuilt s.entries in
    let here = all_among (length levels) order p n d lt in
    omega (arith, many, here)

-- one more has what becomes of it
pub next_in_turn :
    (wad : List ℕ) (names : List (List ℕ)) (levels last : List LevelEntries) (order : List ℕ) (n d : ℕ) (old : List RebuiltLevel) (e r : RebuiltLevel) (fate : Fate) (asked : Bool)
    → AreInTurn wad names levels order n old → IsPermutation (range_with_len 0 (length levels)) order → n < length order → e ≡ get_or old (get_or order n d) e
    → r ≡ get_or old (get_or order n d) r → IsFate wad asked r.entries fate → asked ≡ is_asked_of names last r.entries → last ≡ last_of_each wad levels names
    → AreInTurn wad names levels order (n + 1) (set old (get_or order n d) (record { name = e.name; entries = e.entries; fate = fate }))
next_in_turn wad names levels last order n d old e r fate asked s p lt is read f a o =
    let k = get_or order n d in
    let x : RebuiltLevel = record { name = e.name; entries = e.entries; fate = fate } in
    let among = next_among wad names levels order n d old s p lt in
    let name : e.name ≡ level_name wad e.entries =
    subst (λ (l : RebuiltLevel). l.name ≡ level_name wad l.entries) (sym is) (All-get_or (λ (l : RebuiltLevel). l.name ≡ level_name wad l.entries) old k e among s.named) in
    let there : e ≡ r = is ∙ get_or_any old k e r among ∙ sym read in
    let entries : e.entries ≡ r.entries = ap (λ (l : RebuiltLevel). l.entries) there in
    let built = is_rebuilt wad levels last names x r.entries asked entries (name ∙ ap (level_name wad) entries) f a o in
    let new = set old k x in
    let same : x.entries ≡ (get_or old k e).entries = ap (λ (l : RebuiltLevel). l.entries) is in
    record {
      entries = map-set_same (λ (l : RebuiltLevel). l.entries) old k x e same ∙ s.entries;
      named = All-set (λ (l : RebuiltLevel). l.name ≡ level_name wad l.entries) old k x name s.named;
      built =
          All-more (IsBuilt wad names levels new) order n d lt
          (λ j c h b i. set_keeps (IsRebuilt wad levels names) old k (get_or (take n order) j c) x b built (s.built j c h b) i)
          (λ b i. subst (IsRebuilt wad levels names) (sym (get_or-set_same old k x b among)) built);
    }

-- all of them have
pub all_in_turn :
    (wad : List ℕ) (names : List (List ℕ)) (levels : List LevelEntries) (order : List ℕ) (n : ℕ) (rebuilt : List RebuiltLevel) → AreLevels wad levels
    → IsPermutation (range_with_len 0 (length levels)) order → AreInTurn wad names levels order n rebuilt → length order ≤ n → AreRebuilt wad names rebuilt
all_in_turn wad names levels order n rebuilt are p s h =
    let many = as_many levels rebuilt s.entries in
    let built = subst (All (IsBuilt wad names levels rebuilt)) (take_all n order h) s.built in
    let each : All (IsRebuilt wad levels names) rebuilt =
    λ k d lt. at_each (IsBuilt wad names levels rebuilt) (length levels) order p built k (omega (arith, many, lt)) d lt in
    record {
      levels_are = subst (AreLevels wad) (sym s.entries) are;
      each = subst (λ (ls : List LevelEntries). All (IsRebuilt wad ls names) rebuilt) (sym s.entries) each;
    }
