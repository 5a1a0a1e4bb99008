-- Items of lists that are changed or get longer.
use Rattle.std.proofs.Common.{◌≡◌, ℕ, zero, suc, ◌<◌, ◌≤◌, List, [], ◌∷◌, ◌++◌, length, Some, None, refl, sym, ap, ◌∙◌, ⊎_elim, arith}
use Rattle.std.specs.List.{slice_get, slice_set}
use Rattle.std.proofs.lemmas.Option.{slice_get_cases}

-- an item stays where something was added at the end
pub in_longer : {X : Type 0} (xs ys : List X) (k : ℕ) (x : X) → slice_get xs k ≡ Some x → slice_get (xs ++ ys) k ≡ Some x
in_longer [] ys k x is = cc
in_longer (y ∷ xs) ys zero x is = is
in_longer (y ∷ xs) ys (suc k) x is = in_longer xs ys k x is

-- an item stays where another one was changed
pub beside_set : {X : Type 0} (xs : List X) (n : ℕ) (y : X) (k : ℕ) → (k ≡ n → ⊥) → slice_get (slice_set xs n y) k ≡ slice_get xs k
beside_set [] n y k apart = refl
beside_set (z ∷ xs) zero y zero apart = absurd (apart refl)
beside_set (z ∷ xs) zero y (suc k) apart = refl
beside_set (z ∷ xs) (suc n) y zero apart = refl
beside_set (z ∷ xs) (suc n) y (suc k) apart = beside_set xs n y k (λ e. apart (ap suc e))

-- an item that was changed
pub at_set : {X : Type 0} (xs : List X) (n : ℕ) (y : X) → n < length xs → slice_get (slice_set xs n y) n ≡ Some y
at_set [] n y lt = absurd (omega arith)
at_set (z ∷ xs) zero y lt = refl
at_set (z ∷ xs) (suc n) y lt = at_set xs n y (omega arith)

-- what was added at the end
pub at_end : {X : Type 0} (xs : List X) (n : ℕ) (x : X) → n ≡ length xs → slice_get (xs ++ x ∷ []) n ≡ Some x
at_end [] zero x e = refl
at_end [] (suc n) x e = absurd (omega arith)
at_end (y ∷ xs) zero x e = absurd (omega arith)
at_end (y ∷ xs) (suc n) x e = at_end xs n x (omega arith)

-- an item within a list
pub within_longer : {X : Type 0} (xs ys : List X) (k : ℕ) → k < length xs → slice_get (xs ++ ys) k ≡ slice_get xs k
within_longer xs ys k lt =
    ⊎_elim
    (λ there. in_longer xs ys k there.0 there.2 ∙ sym there.2)
    (λ past. absurd (omega (arith, past.0)))
    (slice_get_cases xs k).1

-- past the end there is none
pub past_end : {X : Type 0} (xs : List X) (k : ℕ) → length xs ≤ k → slice_get xs k ≡ None
past_end [] k le = refl
past_end (x ∷ xs) zero le = absurd (omega arith)
past_end (x ∷ xs) (suc k) le = past_end xs k (omega arith)
