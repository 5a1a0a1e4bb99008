-- What the front of some bytes tells of them.
use Rattle.std.proofs.Common.{◌≡◌, ◌∙◌, ◌⊎◌, inl, inr, ℕ, zero, suc, List, [], ◌∷◌, ◌++◌, length, take, drop, refl, sym, ap, subst, Bool, Option, Some, None}
use Rattle.std.specs.Prelude.{◌↔◌, IfSome, IsTrue, option_map}
use Rattle.std.proofs.lemmas.List.{take-append-drop}
use Rattle.std.proofs.Math.Seq.{take-append_seam}
use Rattle.cli_files.specs.Replaced.{BeginsOrEmpty}

-- no byte in front of a text that isn't empty, no byte at all
none : (front bytes : List ℕ) → take (length front) bytes ≡ [] → BeginsOrEmpty front bytes
none [] bytes e = inr (bytes, refl)
none (x ∷ front) [] e = inl refl
none (x ∷ front) (y ∷ bytes) e = cc

some : (front bytes : List ℕ) → take (length front) bytes ≡ front → BeginsOrEmpty front bytes
some front bytes e = inr (
  drop (length front) bytes,
  sym (take-append-drop (length front) bytes) ∙ ap (λ (t : List ℕ). t ++ drop (length front) bytes) e,
)

take_none : (n : ℕ) (bytes : List ℕ) → bytes ≡ [] → take n bytes ≡ []
take_none zero [] e = refl
take_none (suc n) [] e = refl
take_none n (b ∷ bytes) e = cc

pub told : (front bytes : List ℕ) → ((take (length front) bytes ≡ []) ⊎ (take (length front) bytes ≡ front)) ↔ BeginsOrEmpty front bytes
told front bytes = (
  λ is. elim is [
    | inl e ↦ none front bytes e
    | inr e ↦ some front bytes e
  ],
  λ is. elim is [
    | inl e ↦ inl (take_none (length front) bytes e)
    | inr e ↦ inr (ap (take (length front)) e.1 ∙ take-append_seam front e.0)
  ],
)

-- what was read up to the length of a front tells whether all bytes begin with it
pub answered : (remaining limited : Option (List ℕ)) (front items : List ℕ) (may : Bool) → limited ≡ option_map (take (length front)) remaining
    → IfSome limited (λ xs. items ≡ xs) → IsTrue may ↔ ((items ≡ []) ⊎ (items ≡ front)) → IfSome remaining (λ bytes. IsTrue may ↔ BeginsOrEmpty front bytes)
answered None limited front items may is read head = tt
answered (Some bytes) limited front items may is read head =
    let all : items ≡ take (length front) bytes = subst (λ (o : Option (List ℕ)). IfSome o (λ xs. items ≡ xs)) is read in
    let same = subst (λ (xs : List ℕ). IsTrue may ↔ ((xs ≡ []) ⊎ (xs ≡ front))) all head in
    let means = told front bytes in (
      λ yes. means.0 (same.0 yes),
      λ begins. same.1 (means.1 begins),
    )
