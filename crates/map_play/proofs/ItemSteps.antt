-- The items of a map, and what is kept of them, one more item at a time.
use Rattle.std.proofs.Common.{◌≡◌, ℕ, ◌+◌, Bool, cond, List, [], ◌∷◌, ◌++◌, filter, get_or, map, take, zero-add, Option, Some, sym, ap, ◌∙◌, arith}
use Rattle.std.specs.List.{cons_option, enumerate_from, filter_map, range_with_len, slice_get}
use Rattle.std.proofs.lemmas.List.{map-append, map-id, take_more}
use Rattle.std.proofs.lemmas.List.Elements.{filter_map-append}
use Rattle.std.proofs.lemmas.List.FromFn.{length-enumerate_from, get_or-enumerate_from, map-range_with_len_more}
use Rattle.std.proofs.lemmas.Option.{slice_get_within, get_or_from_slice_get}
use Rattle.map_checks.proofs.MarkSteps.{filter_range_more}

-- one more item
pub items_more : {X : Type 0} (xs : List X) (n : ℕ) (x : X) → slice_get xs n ≡ Some x → take n xs ++ x ∷ [] ≡ take (n + 1) xs
items_more xs n x is =
    sym (take_more xs n x (slice_get_within xs n x is) ∙ ap (λ y. take n xs ++ y ∷ []) (get_or_from_slice_get xs n x x is))

-- one more item, with its number
pub numbered_more : {X Y : Type 0} (f : ℕ × X → Y) (xs : List X) (n : ℕ) (x : X) → slice_get xs n ≡ Some x
    → map f (take n (enumerate_from 0 xs)) ++ f (n, x) ∷ [] ≡ map f (take (n + 1) (enumerate_from 0 xs))
numbered_more f xs n x is =
    let es = enumerate_from 0 xs in
    let within = slice_get_within xs n x is in
    let at : get_or es n (n, x) ≡ (n, x) =
    get_or-enumerate_from 0 xs n (n, x) within ∙ (λ i. (zero-add n i, get_or_from_slice_get xs n x x is i)) in
    sym
    (ap (map f) (take_more es n (n, x) (omega (arith, within, length-enumerate_from 0 xs)))
    ∙ map-append f (take n es) (get_or es n (n, x) ∷ [])
    ∙ ap (λ e. map f (take n es) ++ f e ∷ []) at)

-- the numbers up to n that pass a test
pub passing_more : (p : ℕ → Bool) (n : ℕ) (found : List ℕ) → found ≡ filter p (range_with_len 0 n) → (b : Bool) → p n ≡ b
    → found ++ cond b (n ∷ []) [] ≡ filter p (range_with_len 0 (n + 1))
passing_more p n found so_far b is =
    ap (λ l. l ++ cond b (n ∷ []) []) so_far
    ∙ sym (filter_range_more p n ∙ ap (λ t. filter p (range_with_len 0 n) ++ cond t (n ∷ []) []) is)

range_more : (n : ℕ) → range_with_len 0 (n + 1) ≡ range_with_len 0 n ++ n ∷ []
range_more n = sym (map-id _) ∙ map-range_with_len_more (λ k. k) 0 n n (zero-add n) ∙ ap (λ l. l ++ n ∷ []) (map-id _)

-- what the numbers up to n give
pub given_more : (f : ℕ → Option ℕ) (n : ℕ) (found : List ℕ) → found ≡ filter_map f (range_with_len 0 n) → (o : Option ℕ) → f n ≡ o
    → found ++ cons_option o [] ≡ filter_map f (range_with_len 0 (n + 1))
given_more f n found so_far o is =
    ap (λ l. l ++ cons_option o []) so_far
    ∙ sym
    (ap (filter_map f) (range_more n) ∙ filter_map-append f (range_with_len 0 n) (n ∷ [])
    ∙ ap (λ (r : Option ℕ). filter_map f (range_with_len 0 n) ++ cons_option r []) is)
