-- Whether one of a list's items passes a test.
use Rattle.std.proofs.Common.{◌≡◌, ℕ, zero, suc, Bool, true, false, List, [], ◌∷◌, ◌++◌, take, drop, refl, sym, ap, ◌∙◌, ⊎_elim}
use Rattle.std.specs.List.{list_any}
use Rattle.map_plane.proofs.Tests.{or_either, or_left, or_right}

-- where one test holds another one does
pub any_too : {X : Type 0} (f g : X → Bool) (xs : List X) → ((x : X) → f x ≡ true → g x ≡ true) → list_any f xs ≡ true → list_any g xs ≡ true
any_too f g [] too h = h
any_too f g (x ∷ xs) too h =
    ⊎_elim (λ a. or_left (g x) (list_any g xs) (too x a)) (λ b. or_right (g x) (list_any g xs) (any_too f g xs too b)) (or_either (f x) (list_any f xs) h)

-- where none passes the weaker test none passes the stronger one
pub any_none : {X : Type 0} (f g : X → Bool) (xs : List X) → ((x : X) → f x ≡ true → g x ≡ true) → list_any g xs ≡ false → list_any f xs ≡ false
any_none f g xs too h = none (list_any f xs) (any_too f g xs too)
  where
    none : (b : Bool) → (b ≡ true → list_any g xs ≡ true) → b ≡ false
    none true k = sym (k refl) ∙ h
    none false k = refl

pub take_then_drop : {X : Type 0} (xs : List X) (i : ℕ) → take i xs ++ drop i xs ≡ xs
take_then_drop xs zero = refl
take_then_drop [] (suc i) = refl
take_then_drop (x ∷ xs) (suc i) = ap (λ ys. x ∷ ys) (take_then_drop xs i)
