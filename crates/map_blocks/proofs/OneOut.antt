-- Lists without one of their elements, as they are put together.
use Rattle.std.proofs.Common.{◌≡◌, ℕ, ◌+◌, ◌<◌, ◌≤◌, List, [], ◌∷◌, ◌++◌, Option, Some, length, get_or, take, drop, refl, sym, ap, ap₂, ◌∙◌, arith, append_assoc, append-nil}
use Rattle.std.specs.Prelude.{suc, slice_get}
use Rattle.std.specs.List.{between, remove}
use Rattle.std.proofs.lemmas.List.Edits.{between_more, between_none}
use Rattle.std.proofs.lemmas.Option.{get_or_from_slice_get}
use Rattle.std.proofs.lemmas.Slice.{between_from_start, between_to_end}

-- nothing was put
pub none_put : {X : Type 0} (xs ys : List X) (i : ℕ) → ys ≡ ys ++ between i i xs
none_put xs ys i = sym (append-nil ys) ∙ ap (λ zs. ys ++ zs) (sym (between_none xs i))

-- one element more
pub one_put : {X : Type 0} (xs ys mid new : List X) (from i : ℕ) (x : X) → mid ≡ ys ++ between from i xs → new ≡ mid ++ x ∷ [] → slice_get xs i ≡ Some x → from ≤ i → i < length xs
    → new ≡ ys ++ between from (i + 1) xs
one_put xs ys mid new from i x so put is le below =
    put ∙ ap (λ zs. zs ++ x ∷ []) so ∙ append_assoc ys (between from i xs) (x ∷ [])
    ∙ ap (λ zs. ys ++ zs) (ap (λ y. between from i xs ++ y ∷ []) (sym (get_or_from_slice_get xs i x x is)) ∙ sym (between_more xs from i x le below))

-- all but one
pub put_around : {X : Type 0} (xs first mid new : List X) (i n : ℕ) → first ≡ [] → mid ≡ first ++ between 0 i xs → new ≡ mid ++ between (i + 1) n xs → n ≡ length xs → new ≡ remove xs i
put_around xs first mid new i n none front back all =
    let after : i + 1 ≡ suc i = omega arith in
    let begin : between 0 i xs ≡ take i xs = between_from_start xs i in
    let rest : between (i + 1) n xs ≡ drop (suc i) xs =
    between_to_end xs (i + 1) n (omega (arith, all)) ∙ ap (λ k. drop k xs) after in
    back ∙ ap₂ (λ ys zs. ys ++ zs) (front ∙ ap (λ ys. ys ++ between 0 i xs) none ∙ begin) rest
