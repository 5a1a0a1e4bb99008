-- What reading an item of a list by its number gives, and the items before it.
use Rattle.std.proofs.Common.{◌≡◌, ℕ, zero, suc, ◌+◌, ◌<◌, ◌≤◌, List, [], ◌∷◌, ◌++◌, length, map, take, drop, get_or, append_assoc, Option, Some, IfSome, refl, sym, ap, ◌∙◌, subst, add-one, arith}
use Rattle.std.proofs.lemmas.List.{append-nil, at_drop_more, at_drop_all}
use Rattle.std.specs.Bool.{⊤}
use Rattle.std.specs.List.{slice_get}
use Rattle.std.specs.Option.{IsSome}
use Rattle.std.proofs.lemmas.Option.{MatchOption-at_some, slice_get-get_or}

-- what a clause says of the item that was read
pub at_some : {A : Type 0} {o : Option A} (P : A → Type 0) (x : A) → o ≡ Some x → IfSome o P → P x
at_some P x is h = MatchOption-at_some ⊤ P x is h

-- there is an item of each number below the count
pub is_there : {A : Type 0} (xs : List A) (n : ℕ) (o : Option A) → o ≡ slice_get xs n → n < length xs → IsSome o
is_there [] n o e h = absurd (omega arith)
is_there (x ∷ xs) n o e h = subst IsSome (sym (e ∙ slice_get-get_or (x ∷ xs) n x h)) refl

-- the item behind the first n
pub taken : {A : Type 0} (xs : List A) (n : ℕ) (x : A) → slice_get xs n ≡ Some x → take n xs ++ x ∷ [] ≡ take (suc n) xs
taken [] n x e = cc
taken (y ∷ xs) zero x e = let s : y ≡ x = cc in ap (λ z. z ∷ []) (sym s)
taken (y ∷ xs) (suc n) x e = ap (λ zs. y ∷ zs) (taken xs n x e)

pub one_more : {A : Type 0} (xs : List A) (n : ℕ) (x : A) → slice_get xs n ≡ Some x → take n xs ++ x ∷ [] ≡ take (n + 1) xs
one_more xs n x e = taken xs n x e ∙ ap (λ (i : ℕ). take i xs) (sym (add-one n))

pub mapped : {A B : Type 0} (f : A → B) (xs : List A) (n : ℕ) (x : A) → slice_get xs n ≡ Some x → map f (take n xs) ++ f x ∷ [] ≡ map f (take (suc n) xs)
mapped f [] n x e = cc
mapped f (y ∷ xs) zero x e = let s : y ≡ x = cc in ap (λ z. f z ∷ []) (sym s)
mapped f (y ∷ xs) (suc n) x e = ap (λ zs. f y ∷ zs) (mapped f xs n x e)

-- what is made of the first items, and of the others, is made of all
pub map_more : {A B : Type 0} (f : A → B) (xs : List A) (ys : List B) (n : ℕ) (d : A) → n < length xs → ys
    ++ map f (drop n xs) ≡ map f xs → (ys ++ f (get_or xs n d) ∷ []) ++ map f (drop (n + 1) xs) ≡ map f xs
map_more f xs ys n d h e = append_assoc ys (f (get_or xs n d) ∷ []) (map f (drop (n + 1) xs)) ∙ ap (λ zs. ys ++ zs) (sym (at_drop_more (map f) xs n d h)) ∙ e

pub map_all : {A B : Type 0} (f : A → B) (xs : List A) (ys : List B) (n : ℕ) → length xs ≤ n → ys ++ map f (drop n xs) ≡ map f xs → ys ≡ map f xs
map_all f xs ys n h e = sym (append-nil ys) ∙ ap (λ zs. ys ++ zs) (sym (at_drop_all (map f) xs n h)) ∙ e

pub mapped_at : {A B : Type 0} (f : A → B) (xs : List A) (n : ℕ) (x : A) → slice_get xs n ≡ Some x → slice_get (map f xs) n ≡ Some (f x)
mapped_at f [] n x e = cc
mapped_at f (y ∷ xs) zero x e = let s : y ≡ x = cc in ap (λ z. Some (f z)) s
mapped_at f (y ∷ xs) (suc n) x e = mapped_at f xs n x e
