-- Whether some item of a list that is made of others passes a test.
use Rattle.std.proofs.Common.{◌≡◌, ℕ, zero, suc, ◌⊎◌, inl, inr, ◌+◌, ◌<◌, ◌≤◌, Bool, true, false, cond, eqb, ◌&&◌, ◌||◌, List, [], ◌∷◌, map, filter, flat_map, refl, sym, ap, ◌∙◌, ⊎_elim, arith}
use Rattle.std.specs.List.{list_any, range_with_len}
use Rattle.std.proofs.lemmas.Bool.{cases_eq, eq-eqb, ne_eqb}
use Rattle.std.proofs.lemmas.List.Folds.{list_any-append}

module _ {X : Type 0} where
  pub list_any-agree : (p q : X → Bool) → ((x : X) → p x ≡ q x) → (xs : List X) → list_any p xs ≡ list_any q xs
  list_any-agree p q h [] = refl
  list_any-agree p q h (x ∷ xs) = λ i. h x i || list_any-agree p q h xs i

  pub list_any-filter : (p t : X → Bool) (xs : List X) → list_any p (filter t xs) ≡ list_any (λ x. t x && p x) xs
  list_any-filter p t [] = refl
  list_any-filter p t (x ∷ xs) = kept (t x) (list_any-filter p t xs)
    where
      kept : (b : Bool) → list_any p (filter t xs) ≡ list_any (λ x. t x && p x) xs
          → list_any p (cond b (x ∷ filter t xs) (filter t xs)) ≡ (b && p x) || list_any (λ x. t x && p x) xs
      kept true e = ap (λ r. p x || r) e
      kept false e = e

  pub list_any-and : (b : Bool) (p : X → Bool) (xs : List X) → list_any (λ x. b && p x) xs ≡ b && list_any p xs
  list_any-and true p xs = refl
  list_any-and false p [] = refl
  list_any-and false p (x ∷ xs) = list_any-and false p xs

module _ {X Y : Type 0} (p : Y → Bool) where
  pub list_any-map : (f : X → Y) (xs : List X) → list_any p (map f xs) ≡ list_any (λ x. p (f x)) xs
  list_any-map f [] = refl
  list_any-map f (x ∷ xs) = ap (λ r. p (f x) || r) (list_any-map f xs)

  pub list_any-flat_map : (f : X → List Y) (xs : List X) → list_any p (flat_map f xs) ≡ list_any (λ x. list_any p (f x)) xs
  list_any-flat_map f [] = refl
  list_any-flat_map f (x ∷ xs) =
      list_any-append p (f x) (flat_map f xs) ∙ ap (λ r. list_any p (f x) || r) (list_any-flat_map f xs)

-- the one number in a range that a test looks for
module _ (q : ℕ) (g : ℕ → Bool) where
  pub any_outside : (a n : ℕ) → (q < a) ⊎ (a + n ≤ q) → list_any (λ k. eqb q k && g k) (range_with_len a n) ≡ false
  any_outside a zero h = refl
  any_outside a (suc n) h =
      let apart : eqb q a ≡ false = ne_eqb q a (λ e. ⊎_elim (λ l. omega arith) (λ l. omega arith) h) in
      rw apart (any_outside (a + 1) n (⊎_elim (λ l. inl (omega arith)) (λ l. inr (omega arith)) h))

  pub any_within : (a n : ℕ) → a ≤ q → q < a + n → list_any (λ k. eqb q k && g k) (range_with_len a n) ≡ g q
  any_within a zero low high = absurd (omega arith)
  any_within a (suc n) low high =
      ⊎_elim
      (λ e. rw (eq-eqb q a e) (ap (λ r. g a || r) (any_outside (a + 1) n (inl (omega arith))) ∙ or_false (g a) ∙ ap g (sym e)))
      (λ ne. rw (ne_eqb q a ne) (any_within (a + 1) n (omega arith) (omega arith)))
      (cases_eq q a)
    where
      or_false : (b : Bool) → (b || false) ≡ b
      or_false true = refl
      or_false false = refl
