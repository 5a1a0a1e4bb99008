-- A map's items added to an empty table, one at a time.
use Rattle.std.proofs.Common.{◌≡◌, ℕ, ◌+◌, ◌<◌, List, [], ◌∷◌, ◌++◌, get_or, length, map, take, Option, Some, refl, sym, ap, ◌∙◌, subst, arith, zero-add}
use Rattle.std.specs.List.{enumerate_from, slice_get}
use Rattle.std.specs.Option.{IsSome}
use Rattle.std.proofs.lemmas.List.{take_more, take_all, map-append}
use Rattle.std.proofs.lemmas.List.FromFn.{length-enumerate_from, get_or-enumerate_from}
use Rattle.std.proofs.lemmas.Option.{slice_get-get_or, slice_get_within, get_or_from_slice_get}

-- an item whose number is below the count is there
pub is_there : {A : Type 0} (xs : List A) (n : ℕ) (o : Option A) → o ≡ slice_get xs n → n < length xs → IsSome o
is_there [] n o e h = absurd (omega arith)
is_there (x ∷ xs) n o e h = subst IsSome (sym (e ∙ slice_get-get_or (x ∷ xs) n x h)) refl

-- one more item
pub one_more : {X : Type 0} (xs : List X) (n : ℕ) (x : X) → slice_get xs n ≡ Some x → take n xs ++ x ∷ [] ≡ take (n + 1) xs
one_more xs n x is =
    ap (λ y. take n xs ++ y ∷ []) (sym (get_or_from_slice_get xs n x x is)) ∙ sym (take_more xs n x (slice_get_within xs n x is))

-- all items
pub all_there : {X : Type 0} (xs : List X) (n : ℕ) → length xs ≡ n → take n xs ≡ xs
all_there xs n same = take_all n xs (omega arith)

-- one more item of a list whose items are numbered
pub numbered_more : {X Y : Type 0} (f : ℕ × X → Y) (xs : List X) (n : ℕ) (x : X) → slice_get xs n ≡ Some x
    → map f (take n (enumerate_from 0 xs)) ++ f (n, x) ∷ [] ≡ map f (take (n + 1) (enumerate_from 0 xs))
numbered_more f xs n x is =
    let es = enumerate_from 0 xs in
    let within = slice_get_within xs n x is in
    let at : get_or es n (n, x) ≡ (n, x) =
    get_or-enumerate_from 0 xs n (n, x) within ∙ (λ i. (zero-add n i, get_or_from_slice_get xs n x x is i)) in
    sym
    (ap (map f) (take_more es n (n, x) (omega (arith, within, length-enumerate_from 0 xs)))
    ∙ map-append f (take n es) (get_or es n (n, x) ∷ [])
    ∙ ap (λ e. map f (take n es) ++ f e ∷ []) at)
