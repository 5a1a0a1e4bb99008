-- Texts and folds that grow by one item.
use Rattle.std.proofs.Common.{◌≡◌, ◌∙◌, ◌+◌, ◌<◌, ℕ, zero, suc, List, [], ◌∷◌, ◌++◌, length, get_or, take, sym, ap, arith, append-nil}
use Rattle.std.specs.Prelude.{Option, flat_map, fold, slice_get}
use Rattle.std.specs.List.{range_with_len}
use Rattle.std.specs.Option.{option_map_or}
use Rattle.std.proofs.lemmas.Grind.{flat_map-append}
use Rattle.std.proofs.lemmas.List.Sums.{fold_more}
use Rattle.std.proofs.lemmas.Option.{slice_get-get_or}

range_more : (a n : ℕ) → range_with_len a (suc n) ≡ range_with_len a n ++ (a + n) ∷ []
range_more a zero = let same : a ≡ a + 0 = omega arith in ap (λ (k : ℕ). k ∷ []) same
range_more a (suc n) =
    let same : (a + 1) + n ≡ a + suc n = omega arith in
    ap (λ (ks : List ℕ). a ∷ ks) (range_more (a + 1) n ∙ ap (λ (k : ℕ). range_with_len (a + 1) n ++ k ∷ []) same)

-- the texts of the numbers below n, followed by that of n
pub numbered_more : (f : ℕ → List ℕ) (n : ℕ) → flat_map f (range_with_len 0 (n + 1)) ≡ flat_map f (range_with_len 0 n) ++ f n
numbered_more f n =
    let next : n + 1 ≡ suc n = omega arith in
    let same : 0 + n ≡ n = omega arith in
    ap (λ (k : ℕ). flat_map f (range_with_len 0 k)) next ∙ ap (flat_map f) (range_more 0 n)
    ∙ flat_map-append f (range_with_len 0 n) ((0 + n) ∷ [])
    ∙ ap (λ (t : List ℕ). flat_map f (range_with_len 0 n) ++ t) (append-nil (f (0 + n)) ∙ ap f same)

-- the texts of the numbers from a on, followed by that of one more
pub counted_more : (f : ℕ → List ℕ) (a n : ℕ) → flat_map f (range_with_len a (n + 1)) ≡ flat_map f (range_with_len a n) ++ f (a + n)
counted_more f a n =
    let next : n + 1 ≡ suc n = omega arith in
    ap (λ (k : ℕ). flat_map f (range_with_len a k)) next ∙ ap (flat_map f) (range_more a n)
    ∙ flat_map-append f (range_with_len a n) ((a + n) ∷ [])
    ∙ ap (λ (t : List ℕ). flat_map f (range_with_len a n) ++ t) (append-nil (f (a + n)))

-- a fold over the first items, and over one more
pub folded_more : {X Y : Type 0} (f : Y → X → Y) (a : Y) (xs : List X) (i : ℕ) (d : X) → i < length xs → (y : Y) → y ≡ fold f a (take i xs)
    → option_map_or (f y) (slice_get xs i) y ≡ fold f a (take (i + 1) xs)
folded_more {X = X} f a xs i d within y so_far =
    ap (λ (o : Option X). option_map_or (f y) o y) (slice_get-get_or xs i d within)
    ∙ ap (λ z. f z (get_or xs i d)) so_far ∙ sym (fold_more f a xs i d within)
