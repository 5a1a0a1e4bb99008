-- Numbers that all pass a test, one more at a time.
use Rattle.std.proofs.Common.{◌≡◌, ◌∙◌, sym, ap, refl, cond, ℕ, Bool, true, false, ◌&&◌, ◌||◌, List, [], ◌∷◌, ◌++◌, ◌+◌, ◌<◌, ◌≤◌, length, filter, map, not, sum_by, zero-add, arith, Some}
use Rattle.std.specs.List.{list_all, range_with_len}
use Rattle.std.specs.Prelude.{◌==◌, ◌*◌, nat_le, nat_lt}
use Rattle.wad_file.specs.Directory.{entry}
use Rattle.wad_file.specs.declared.entry.Entry.{Entry}
use Rattle.std.proofs.lemmas.Bool.Decides.{nat_tests}
use Rattle.wad_levels.specs.Graphics.{are_all_inside, are_flats_open, are_textures, is_overfull, is_flat, graphics_refusal, is_texture_inside, texture_at, texture_count}
use Rattle.wad_levels.specs.Listing.{listing_refusal}
use Rattle.wad_levels.specs.declared.error.ReadError.{ReadError}
use Rattle.wad_levels.proofs.RunLemmas.{passing_more}
use Rattle.std.proofs.lemmas.List.{map-append, map-id, append_assoc}
use Rattle.std.proofs.lemmas.List.Folds.{list_all-append, list_all_at}
use Rattle.std.proofs.lemmas.List.Sums.{sum_by_push}
use Rattle.std.proofs.lemmas.List.FromFn.{get_or-range_with_len, length-range_with_len, map-range_with_len_more}

-- what one number more adds to the list of those that pass
pub listed_more : {Y : Type 0} (f : ℕ → Y) (p : ℕ → Bool) (n : ℕ) (found : List Y) → found ≡ map f (filter p (range_with_len 0 n))
    → (b : Bool) → p n ≡ b → found ++ map f (cond b (n ∷ []) []) ≡ map f (filter p (range_with_len 0 (n + 1)))
listed_more f p n found so_far b is =
    ap (λ l. l ++ map f (cond b (n ∷ []) [])) so_far
    ∙ sym
    (ap (map f) (passing_more p n ∙ ap (λ t. filter p (range_with_len 0 n) ++ cond t (n ∷ []) []) is)
    ∙ map-append f (filter p (range_with_len 0 n)) (cond b (n ∷ []) []))

-- one number more
range_more : (n : ℕ) → range_with_len 0 (n + 1) ≡ range_with_len 0 n ++ n ∷ []
range_more n = sym (map-id _) ∙ map-range_with_len_more (λ x. x) 0 n n (zero-add n) ∙ ap (λ l. l ++ n ∷ []) (map-id _)

-- so far all pass, and so does one number more
pub all_more : (p : ℕ → Bool) (n : ℕ) → list_all p (range_with_len 0 n) ≡ true → p n ≡ true → list_all p (range_with_len 0 (n + 1)) ≡ true
all_more p n so_far here =
    ap (list_all p) (range_more n) ∙ list_all-append p (range_with_len 0 n) (n ∷ []) ∙ ap (λ b. b && (p n && true)) so_far ∙ ap (λ b. b && true) here

-- one of the numbers doesn't pass
pub one_fails : (p : ℕ → Bool) (count k : ℕ) → k < count → p k ≡ false → list_all p (range_with_len 0 count) ≡ false
one_fails p count k among fails =
    list_all_at p (range_with_len 0 count) k 0 (omega (arith, among, length-range_with_len 0 count))
    (ap p (get_or-range_with_len 0 count k 0 among ∙ zero-add k) ∙ fails)

-- each of the numbers passes where all do
pub each_passes : (p : ℕ → Bool) (count k : ℕ) → list_all p (range_with_len 0 count) ≡ true → k < count → p k ≡ true
each_passes p count k all among = by (p k) refl
  where
    by : (b : Bool) → p k ≡ b → p k ≡ true
    by true is = is
    by false is = let none = one_fails p count k among is in absurd (cc)

-- the names of one number more
pub named_more : {Y : Type 0} (f : ℕ → Y) (n : ℕ) (before names : List Y) → names ≡ before ++ map f (range_with_len 0 n) → names ++ f n ∷ [] ≡ before ++ map f (range_with_len 0 (n + 1))
named_more f n before names so_far =
    ap (λ l. l ++ f n ∷ []) so_far ∙ append_assoc before (map f (range_with_len 0 n)) (f n ∷ [])
    ∙ ap (λ l. before ++ l) (sym (map-range_with_len_more f 0 n n (zero-add n)))

or_right : (a b : Bool) → (a || b) ≡ true → a ≡ false → b ≡ true
or_right false b or not-a = or
or_right true b or not-a = absurd (cc)

middle : (a b c : Bool) → (a && (b && c)) ≡ true → b ≡ true
middle true true c all = refl
middle true false c all = absurd (cc)
middle false b c all = absurd (cc)

-- what a list of textures promises that isn't empty: each stands in the lump
parts : (lump : List ℕ) → are_textures lump ≡ true → (length lump == 0) ≡ false → are_all_inside lump ≡ true
parts lump are some =
    let counted = nat_le 4 (length lump) && nat_le (4 * texture_count lump + 4) (length lump) in
    let few = not (is_overfull lump) in
    middle counted (are_all_inside lump) few (or_right (length lump == 0) (counted && (are_all_inside lump && few)) are some)

-- each texture stands in the lump
pub texture_stands : (lump : List ℕ) (n : ℕ) → are_textures lump ≡ true → (length lump == 0) ≡ false → n < texture_count lump → texture_at lump n + 22 ≤ length lump
texture_stands lump n are some among =
    let inside : nat_le (texture_at lump n + 22) (length lump) ≡ true =
    each_passes (is_texture_inside lump) (texture_count lump) n (parts lump are some) among in
    grind (arith, nat_tests)

-- what one number more has, the numbers have more together
pub of_more : (f : ℕ → ℕ) (n : ℕ) → sum_by f (range_with_len 0 (n + 1)) ≡ sum_by f (range_with_len 0 n) + f n
of_more f n = ap (sum_by f) (range_more n) ∙ sum_by_push f (range_with_len 0 n) n

-- whether the k-th entry is of a flat, by what is known of those before it
pub flat_at : (wad : List ℕ) (k : ℕ) (before : Bool) (e : Entry) → before ≡ are_flats_open wad k → e ≡ entry wad k → (size : Bool) → nat_lt 0 e.size ≡ size
    → is_flat wad k ≡ (before && size)
flat_at wad k before e so is size tells = (λ i. sym so i && nat_lt 0 (sym is i).size) ∙ ap (λ b. before && b) tells

-- what refuses the bytes refuses their names
pub refused : (wad : List ℕ) (e : ReadError) → listing_refusal wad ≡ Some e → graphics_refusal wad ≡ Some e
refused wad e q = rw q refl
