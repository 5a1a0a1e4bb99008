-- The parts of a line between bytes, and what stands behind each `$`.
use Rattle.std.proofs.Common.{◌≡◌, ◌∙◌, ℕ, zero, suc, ◌+◌, ◌-◌, ◌<◌, ◌≤◌, ◌==◌, Bool, true, false, List, [], ◌∷◌, length, get_or, take, drop, refl, sym, ap, arith, add-one, cond}
use Rattle.std.specs.List.{onto_first, slice_split}
use Rattle.std.proofs.lemmas.List.{take_rest}
use Rattle.std.proofs.lemmas.List.Splits.{slice_split-cons_yes, slice_split-cons_no}
use Rattle.std.specs.List.{list_all}
use Rattle.std.specs.Prelude.{◌||◌, ◌&&◌, not, slice_get, Some}
use Rattle.std.proofs.lemmas.List.Sums.{position_or_len_is}
use Rattle.std.proofs.lemmas.List.{at_drop_all, at_drop_more, get_or-take, length-take, take_all}
use Rattle.std.proofs.lemmas.Option.{get_or_from_slice_get, slice_get_read, slice_get_within}
use Rattle.map_script.specs.Names.{is_script_name_byte}
use Rattle.map_blocks.specs.Naming.{behind_dollars, front_name, parts_names}

-- ---- What stands behind a `$`

dollar-first : (t : Bool) (b : ℕ) (bs : List ℕ) → (b == 36) ≡ t → behind_dollars (b ∷ bs) ≡ cond t (bs ∷ behind_dollars bs) (behind_dollars bs)
dollar-first t b bs is = ap (λ (u : Bool). cond u (bs ∷ behind_dollars bs) (behind_dollars bs)) is

dollar-suc : (bs : List ℕ) (i : ℕ) → ((k : ℕ) → k < i → (get_or bs k 0 == 36) ≡ false) → i < length bs → (get_or bs i 0 == 36) ≡ true
    → behind_dollars bs ≡ drop (suc i) bs ∷ behind_dollars (drop (suc i) bs)
dollar-suc [] i before lt here = absurd (omega arith)
dollar-suc (b ∷ bs) zero before lt here = dollar-first true b bs here
dollar-suc (b ∷ bs) (suc i) before lt here =
    dollar-first false b bs (before 0 (omega arith))
    ∙ dollar-suc bs i (λ k h. before (suc k) (omega arith)) (omega arith) here

-- the first one, as the code states it
pub dollar_at : (bs : List ℕ) (i : ℕ) → ((k : ℕ) → k < i → (get_or bs k 0 == 36) ≡ false) → i < length bs → (get_or bs i 0 == 36) ≡ true
    → behind_dollars bs ≡ take (length bs - (i + 1)) (drop (i + 1) bs) ∷ behind_dollars (take (length bs - (i + 1)) (drop (i + 1) bs))
dollar_at bs i before lt here = rw (take_rest bs (i + 1), add-one) (dollar-suc bs i before lt here)

-- there is none
pub no_dollar : (bs : List ℕ) → ((k : ℕ) → k < length bs → (get_or bs k 0 == 36) ≡ false) → behind_dollars bs ≡ []
no_dollar [] before = refl
no_dollar (b ∷ bs) before = dollar-first false b bs (before 0 (omega arith)) ∙ no_dollar bs (λ k h. before (suc k) (omega arith))

-- ---- Parts

parts-suc : (bs : List ℕ) (i : ℕ) → ((k : ℕ) → k < i → parts_names (get_or bs k 0) ≡ false) → i < length bs
    → parts_names (get_or bs i 0) ≡ true → slice_split parts_names bs ≡ take i bs ∷ slice_split parts_names (drop (suc i) bs)
parts-suc [] i before lt here = absurd (omega arith)
parts-suc (b ∷ bs) zero before lt here = slice_split-cons_yes parts_names b bs here
parts-suc (b ∷ bs) (suc i) before lt here =
    slice_split-cons_no parts_names b bs (before 0 (omega arith))
    ∙ ap (onto_first b) (parts-suc bs i (λ k h. before (suc k) (omega arith)) (omega arith) here)

-- the first part, as the code states it
pub part_at : (bs : List ℕ) (i : ℕ) → ((k : ℕ) → k < i → parts_names (get_or bs k 0) ≡ false) → i < length bs
    → parts_names (get_or bs i 0) ≡ true → slice_split parts_names bs ≡ take i bs
    ∷ slice_split parts_names (take (length bs - (i + 1)) (drop (i + 1) bs))
part_at bs i before lt here = rw (take_rest bs (i + 1), add-one) (parts-suc bs i before lt here)

-- the only one
pub one_part : (bs : List ℕ) → ((k : ℕ) → k < length bs → parts_names (get_or bs k 0) ≡ false) → slice_split parts_names bs ≡ bs ∷ []
one_part [] before = refl
one_part (b ∷ bs) before =
    slice_split-cons_no parts_names b bs (before 0 (omega arith))
    ∙ ap (onto_first b) (one_part bs (λ k h. before (suc k) (omega arith)))

-- ---- The name in front

-- the bytes before the first one that stands in no name
pub front_at : (bs : List ℕ) (i : ℕ) → ((k : ℕ) → k < i → is_script_name_byte (get_or bs k 0) ≡ true) → i < length bs → is_script_name_byte (get_or bs i 0) ≡ false
    → front_name bs ≡ take i bs
front_at bs i before lt here =
    ap (λ n. take n bs) (position_or_len_is (λ b. not (is_script_name_byte b)) bs i 0 (omega arith) (λ k h. ap not (before k h)) (λ h. ap not here))

-- all bytes
pub front_all : (bs : List ℕ) → ((k : ℕ) → k < length bs → is_script_name_byte (get_or bs k 0) ≡ true) → front_name bs ≡ bs
front_all bs before =
    ap (λ n. take n bs) (position_or_len_is (λ b. not (is_script_name_byte b)) bs (length bs) 0 (omega arith) (λ k h. ap not (before k h)) (λ h. absurd (omega (arith, h))))
    ∙ take_all (length bs) bs (omega arith)

-- ---- Tests of each line

-- what stands at a place stands there among the first ones too
pub in_front : {X : Type 0} (xs : List X) (n i : ℕ) (x : X) → i < n → slice_get xs i ≡ Some x → slice_get (take n xs) i ≡ Some x
in_front xs n i x lt is =
    slice_get_read (take n xs) (length (take n xs)) i x refl (omega (arith, lt, slice_get_within xs i x is, length-take n xs))
    (sym (get_or-take n xs i x lt ∙ get_or_from_slice_get xs i x x is))

all_at : {X : Type 0} (f : X → Bool) (xs : List X) (i : ℕ) (x : X) → slice_get xs i ≡ Some x → list_all f (drop i xs) ≡ f x && list_all f (drop (i + 1) xs)
all_at f xs i x is =
    at_drop_more (list_all f) xs i x (slice_get_within xs i x is)
    ∙ ap (λ y. f y && list_all f (drop (i + 1) xs)) (get_or_from_slice_get xs i x x is)

pub all_more : {X : Type 0} (f : X → Bool) (xs : List X) (i : ℕ) (x : X) → slice_get xs i ≡ Some x → f x ≡ true → list_all f (drop (i + 1) xs) ≡ list_all f (drop i xs)
all_more f xs i x is here = sym (all_at f xs i x is ∙ ap (λ (t : Bool). t && list_all f (drop (i + 1) xs)) here)

pub all_but : {X : Type 0} (f : X → Bool) (xs : List X) (i : ℕ) (x : X) → slice_get xs i ≡ Some x → f x ≡ false → list_all f (drop i xs) ≡ false
all_but f xs i x is not_here = all_at f xs i x is ∙ ap (λ (t : Bool). t && list_all f (drop (i + 1) xs)) not_here

pub all_none : {X : Type 0} (f : X → Bool) (xs : List X) (i : ℕ) → length xs ≤ i → list_all f (drop i xs) ≡ true
all_none f xs i past = at_drop_all (list_all f) xs i past

-- a test that is turned round
pub not_both : (a b : Bool) → (not a || b) ≡ not (a && not b)
not_both true true = refl
not_both true false = refl
not_both false b = refl
