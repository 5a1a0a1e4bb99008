-- Items of a list by their numbers.
use Rattle.std.proofs.Common.{◌≡◌, ℕ, ◌+◌, ◌<◌, Bool, true, false, List, [], ◌∷◌, ◌++◌, length, get_or, take, drop, refl, sym, ◌∙◌, ap, subst, arith, Option, Some, IfSome, cond}
use Rattle.std.specs.Prelude.{◌||◌, sum_by}
use Rattle.std.specs.Bool.{⊤}
use Rattle.std.specs.List.{list_any, slice_get}
use Rattle.std.specs.Option.{IsSome}
use Rattle.std.proofs.lemmas.List.{take_more, at_drop_more}
use Rattle.std.proofs.lemmas.List.Folds.{list_any_at, list_any_more}
use Rattle.std.proofs.lemmas.List.Sums.{sum_by-append}
use Rattle.std.proofs.lemmas.Option.{MatchOption-at_some, slice_get-get_or, slice_get_within, get_or_from_slice_get}

-- what a clause says of the item that was read
pub at_some : {A : Type 0} {o : Option A} (P : A → Type 0) (x : A) → o ≡ Some x → IfSome o P → P x
at_some P x is h = MatchOption-at_some ⊤ P x is h

-- there is an item of each number below the count
pub is_there : {A : Type 0} (xs : List A) (n : ℕ) (o : Option A) → o ≡ slice_get xs n → n < length xs → IsSome o
is_there [] n o e h = absurd (omega arith)
is_there (x ∷ xs) n o e h = subst IsSome (sym (e ∙ slice_get-get_or (x ∷ xs) n x h)) refl

-- the items up to one, and that one
pub front_more : {A : Type 0} (xs : List A) (n : ℕ) (x : A) → slice_get xs n ≡ Some x → take (n + 1) xs ≡ take n xs ++ x ∷ []
front_more xs n x is =
    take_more xs n x (slice_get_within xs n x is) ∙ ap (λ y. take n xs ++ y ∷ []) (get_or_from_slice_get xs n x x is)

-- an item, and those behind it
pub back_is : {A : Type 0} (xs : List A) (n : ℕ) (x : A) → slice_get xs n ≡ Some x → drop n xs ≡ x ∷ drop (n + 1) xs
back_is xs n x is =
    at_drop_more (λ ys. ys) xs n x (slice_get_within xs n x is) ∙ ap (λ y. y ∷ drop (n + 1) xs) (get_or_from_slice_get xs n x x is)

-- one item more in a sum
pub sum_more : {A : Type 0} (f : A → ℕ) (xs : List A) (n : ℕ) (x : A) → slice_get xs n ≡ Some x → sum_by f (take (n + 1) xs) ≡ sum_by f (take n xs) + f x
sum_more f xs n x is = ap (sum_by f) (front_more xs n x is) ∙ sum_by-append f (take n xs) (x ∷ []) ∙ omega arith

-- an item that passes
pub any_at : {A : Type 0} (p : A → Bool) (xs : List A) (n : ℕ) (x : A) → slice_get xs n ≡ Some x → p x ≡ true → list_any p xs ≡ true
any_at p xs n x is passes = list_any_at p xs n x (slice_get_within xs n x is) (ap p (get_or_from_slice_get xs n x x is) ∙ passes)

-- one item more, and none passes
pub none_more : {A : Type 0} (p : A → Bool) (xs : List A) (n : ℕ) (x : A) → slice_get xs n ≡ Some x → list_any p (take n xs) ≡ false → p x ≡ false
    → list_any p (take (n + 1) xs) ≡ false
none_more p xs n x is none fails =
    list_any_more p xs n x (slice_get_within xs n x is)
    ∙ ap (λ a. a || p (get_or xs n x)) none ∙ ap p (get_or_from_slice_get xs n x x is) ∙ fails
