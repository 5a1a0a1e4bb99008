-- What reading an item of a list by its number returns.
use Rattle.std.proofs.Common.{◌≡◌, ℕ, ◌<◌, List, [], ◌∷◌, length, Option, Some, IfSome, refl, sym, ◌∙◌, subst, arith}
use Rattle.std.specs.Bool.{⊤}
use Rattle.std.specs.List.{slice_get}
use Rattle.std.specs.Option.{IsSome}
use Rattle.std.proofs.lemmas.Option.{MatchOption-at_some, slice_get-get_or}

-- what a clause says of the item that was read
pub at_some : {A : Type 0} {o : Option A} (P : A → Type 0) (x : A) → o ≡ Some x → IfSome o P → P x
at_some P x is h = MatchOption-at_some ⊤ P x is h

-- there is an item of each number below the count
pub is_there : {A : Type 0} (xs : List A) (n : ℕ) (o : Option A) → o ≡ slice_get xs n → n < length xs → IsSome o
is_there [] n o e h = absurd (omega arith)
is_there (x ∷ xs) n o e h = subst IsSome (sym (e ∙ slice_get-get_or (x ∷ xs) n x h)) refl
