-- Whether lines include files, one after the other.
use Rattle.std.proofs.Common.{◌≡◌, ◌∙◌, ℕ, ◌+◌, ◌<◌, ◌≤◌, ◌||◌, Bool, true, false, List, [], ◌∷◌, length, get_or, drop, Some, refl, sym, ap}
use Rattle.std.specs.Prelude.{slice_get}
use Rattle.std.specs.List.{list_any}
use Rattle.std.proofs.lemmas.List.{at_drop_all, at_drop_more}
use Rattle.std.proofs.lemmas.Option.{get_or_from_slice_get, slice_get_within}

-- the test of what is left, by that of its first
any_at : {X : Type 0} (f : X → Bool) (xs : List X) (i : ℕ) (x : X) → slice_get xs i ≡ Some x → list_any f (drop i xs) ≡ f x || list_any f (drop (i + 1) xs)
any_at f xs i x is =
    at_drop_more (list_any f) xs i x (slice_get_within xs i x is)
    ∙ ap (λ y. f y || list_any f (drop (i + 1) xs)) (get_or_from_slice_get xs i x x is)

pub any_more : {X : Type 0} (f : X → Bool) (xs : List X) (i : ℕ) (x : X) → slice_get xs i ≡ Some x → f x ≡ false → list_any f (drop (i + 1) xs) ≡ list_any f (drop i xs)
any_more f xs i x is not_here = sym (any_at f xs i x is ∙ ap (λ (t : Bool). t || list_any f (drop (i + 1) xs)) not_here)

pub any_here : {X : Type 0} (f : X → Bool) (xs : List X) (i : ℕ) (x : X) → slice_get xs i ≡ Some x → f x ≡ true → list_any f (drop i xs) ≡ true
any_here f xs i x is here = any_at f xs i x is ∙ ap (λ (t : Bool). t || list_any f (drop (i + 1) xs)) here

pub any_none : {X : Type 0} (f : X → Bool) (xs : List X) (i : ℕ) → length xs ≤ i → list_any f (drop i xs) ≡ false
any_none f xs i past = at_drop_all (list_any f) xs i past
