-- What stands at a place of two lists together.
use Rattle.std.proofs.Common.{take, sym, ◌≡◌, refl, ap, ◌∙◌, ℕ, zero, suc, ◌+◌, ◌⊎◌, inl, inr, ⊎_elim, List, [], ◌∷◌, ◌++◌, length, Some, arith, slice_get}

pub get_left : {X : Type 0} (xs ys : List X) (i : ℕ) (x : X) → slice_get xs i ≡ Some x → slice_get (xs ++ ys) i ≡ Some x
get_left [] ys i x e = cc
get_left (y ∷ xs) ys zero x e = e
get_left (y ∷ xs) ys (suc i) x e = get_left xs ys i x e

pub get_right : {X : Type 0} (xs ys : List X) (i k : ℕ) (x : X) → i ≡ length xs + k → slice_get ys k ≡ Some x → slice_get (xs ++ ys) i ≡ Some x
get_right [] ys i k x s e = let same : i ≡ k = omega arith in ap (slice_get ys) same ∙ e
get_right (y ∷ xs) ys zero k x s e = absurd (omega arith)
get_right (y ∷ xs) ys (suc i) k x s e = get_right xs ys i k x (omega arith) e

-- in the first list, or in the second
pub get_cases : {X : Type 0} (xs ys : List X) (i : ℕ) (x : X) → slice_get (xs ++ ys) i ≡ Some x → (slice_get xs i ≡ Some x) ⊎ ((k : ℕ) × (i ≡ length xs + k) × (slice_get ys k ≡ Some x))
get_cases [] ys i x e = inr (i, omega arith, e)
get_cases (y ∷ xs) ys zero x e = inl e
get_cases {X} (y ∷ xs) ys (suc i) x e = by_rest (get_cases xs ys i x e)
  where
    by_rest : ((slice_get xs i ≡ Some x) ⊎ ((k : ℕ) × (i ≡ length xs + k) × (slice_get ys k ≡ Some x)))
        → (slice_get (y ∷ xs) (suc i) ≡ Some x) ⊎ ((k : ℕ) × (suc i ≡ length (y ∷ xs) + k) × (slice_get ys k ≡ Some x))
    by_rest = ⊎_elim (λ s. inl s) (λ s. inr (s.0, (let e = s.1 in omega arith), s.2))

-- the one place of a list of one
pub only_place : {X : Type 0} (y x : X) (k : ℕ) → slice_get (y ∷ []) k ≡ Some x → (k ≡ 0) × (y ≡ x)
only_place y x zero e = (refl, cc)
only_place y x (suc k) e = cc

-- in a list with one more behind it
pub push_cases : {X : Type 0} (xs : List X) (y : X) (i : ℕ) (x : X) → slice_get (xs ++ y ∷ []) i ≡ Some x → (slice_get xs i ≡ Some x) ⊎ ((i ≡ length xs) × (y ≡ x))
push_cases xs y i x e = ⊎_elim (λ s. inl s) (λ s. inr (let h = only_place y x s.0 s.2 in let z = h.0 in let p = s.1 in (omega arith, h.1))) (get_cases xs (y ∷ []) i x e)

-- the first places and the next
pub take_next : {X : Type 0} (xs : List X) (n : ℕ) (x : X) → slice_get xs n ≡ Some x → take n xs ++ x ∷ [] ≡ take (n + 1) xs
take_next {X} xs n x e = by_suc xs n e ∙ (let s : suc n ≡ n + 1 = omega arith in ap (λ (k : ℕ). take k xs) s)
  where
    by_suc : (xs : List X) (n : ℕ) → slice_get xs n ≡ Some x → take n xs ++ x ∷ [] ≡ take (suc n) xs
    by_suc [] n e = cc
    by_suc (y ∷ ys) zero e = let s : y ≡ x = cc in ap (λ z. z ∷ []) (sym s)
    by_suc (y ∷ ys) (suc n) e = ap (λ l. y ∷ l) (by_suc ys n e)
