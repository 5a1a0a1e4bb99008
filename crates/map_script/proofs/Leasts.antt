-- The least item of a list that passes a test.
use Rattle.std.proofs.Common.{◌≡◌, inl, inr, ℕ, ◌<◌, ◌≤◌, Bool, true, false, cond, List, [], ◌∷◌, length, get_or, take, refl, sym, ◌∙◌, ap, arith, Option, Some, None, ltb}
use Rattle.std.specs.Prelude.{slice_get}
use Rattle.std.specs.List.{list_any, position, position_or_len}
use Rattle.std.specs.Option.{option_map_or}
use Rattle.std.proofs.lemmas.Bool.{both_ways, cases_lt}
use Rattle.std.proofs.lemmas.Bool.Decides.{nat_tests}
use Rattle.std.proofs.lemmas.List.{get_or-take, length-take-le}
use Rattle.std.proofs.lemmas.List.Folds.{list_any_at}
use Rattle.std.proofs.lemmas.List.Sums.{position_or_len_is}
use Rattle.std.proofs.lemmas.Option.{slice_get-get_or, slice_get_past}
use Rattle.map_plane.specs.Found.{IsFirstOf, IsLeastOf}

false-by : {X : Type 0} (p : X → Bool) (xs : List X) (k : ℕ) (d : X) (b : Bool) → p (get_or xs k d) ≡ b → list_any p xs ≡ false → k < length xs
    → p (get_or xs k d) ≡ false
false-by p xs k d true e none below = absurd (both_ways (list_any p xs) none (list_any_at p xs k d below e))
false-by p xs k d false e none below = e

-- where none passes, each fails
fails_at : {X : Type 0} (p : X → Bool) (xs : List X) (k : ℕ) (d : X) → list_any p xs ≡ false → k < length xs → p (get_or xs k d) ≡ false
fails_at p xs k d none below = false-by p xs k d (p (get_or xs k d)) refl none below

-- an item that passes is there
within : {X : Type 0} (p : X → Bool) (xs : List X) (n : ℕ) → option_map_or p (slice_get xs n) false ≡ true → n < length xs
within p xs n e =
    elim (cases_lt n (length xs)) [
      | inl below ↦ below
      | inr past ↦ absurd (both_ways (option_map_or p (slice_get xs n) false) (ap (λ o. option_map_or p o false) (slice_get_past xs n past)) e)
    ]

passes : {X : Type 0} (p : X → Bool) (xs : List X) (n : ℕ) (d : X) → option_map_or p (slice_get xs n) false ≡ true → p (get_or xs n d) ≡ true
passes p xs n d e = sym (ap (λ o. option_map_or p o false) (slice_get-get_or xs n d (within p xs n e))) ∙ e

first-is : {X : Type 0} (p : X → Bool) (xs : List X) (n : ℕ) (d : X) → IsFirstOf p xs n → position_or_len p xs ≡ n
first-is p xs n d h =
    let below : n < length xs = within p xs n h.passes in
    position_or_len_is p xs n d (omega arith)
    (λ k lt. sym (ap p (get_or-take n xs k d lt)) ∙ fails_at p (take n xs) k d h.first (omega (arith, length-take-le n xs (omega arith))))
    (λ _. passes p xs n d h.passes)

none-is : {X : Type 0} (p : X → Bool) (xs : List X) (d : X) → list_any p xs ≡ false → position_or_len p xs ≡ length xs
none-is p xs d none = position_or_len_is p xs (length xs) d (omega arith) (λ k lt. fails_at p xs k d none lt) (λ lt. absurd (omega arith))

pub ltb_no : (n m : ℕ) → m ≤ n → ltb n m ≡ false
ltb_no n m h = grind (arith, nat_tests)

pub ltb_yes : (n m : ℕ) → n < m → ltb n m ≡ true
ltb_yes n m h = grind (arith, nat_tests)

at-len : (n m : ℕ) → n ≡ m → ◌≡◌ {A = Option ℕ} (cond (ltb n m) (Some n) None) None
at-len n m e = ap (λ b. cond b (Some n) None) (ltb_no n m (omega arith))

at-first : (k n m : ℕ) → k ≡ n → n < m → ◌≡◌ {A = Option ℕ} (cond (ltb k m) (Some k) None) (Some n)
at-first k n m e below = ap (λ b. cond b (Some k) None) (ltb_yes k m (omega arith)) ∙ ap Some e

-- the least that passes is the first place that passes
pub least_is : {X : Type 0} (p : X → Bool) (xs : List X) (found : Option ℕ) → IsLeastOf p xs found → found ≡ position p xs
least_is p [] None none = refl
least_is p (x ∷ xs) None none = sym (at-len (position_or_len p (x ∷ xs)) (length (x ∷ xs)) (none-is p (x ∷ xs) x none))
least_is p [] (Some n) h = absurd (omega (arith, within p [] n h.passes))
least_is p (x ∷ xs) (Some n) h =
    sym (at-first (position_or_len p (x ∷ xs)) n (length (x ∷ xs)) (first-is p (x ∷ xs) n x h) (within p (x ∷ xs) n h.passes))
