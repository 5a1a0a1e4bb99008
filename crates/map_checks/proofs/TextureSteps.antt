-- What a loop that adds to a list has added, after one more step and at its end; and the flag of a two-sided line.
use Rattle.std.proofs.Common.{◌≡◌, ℕ, suc, add-zero, zero-add, ◌+◌, ◌<◌, ◌≤◌, Bool, true, false, cond, List, [], ◌∷◌, ◌++◌, length, get_or, map, filter, flat_map, take, Some, sym, ap, ◌∙◌, arith, append_assoc}
use Rattle.std.specs.List.{slice_get, enumerate_from}
use Rattle.std.proofs.lemmas.List.{append-nil, map-append, take_all, take_more, length-take-le}
use Rattle.std.proofs.lemmas.List.Concat.{flat_map-append}
use Rattle.std.proofs.lemmas.List.Elements.{filter_more}
use Rattle.std.proofs.lemmas.Option.{slice_get_within, get_or_from_slice_get}

module _ {X Y : Type 0} (p : X → Bool) (f : X → Y) (xs : List X) (i : ℕ) (init found : List Y) (so_far : found ≡ init ++ map f (filter p (take i xs))) where
  step : (d : X) → i < length xs → (b : Bool) → p (get_or xs i d) ≡ b
      → found ++ map f (cond b (get_or xs i d ∷ []) []) ≡ init ++ map f (filter p (take (i + 1) xs))
  step d h b is =
      ap (λ l. l ++ map f (cond b (get_or xs i d ∷ []) [])) so_far
      ∙ append_assoc init (map f (filter p (take i xs))) (map f (cond b (get_or xs i d ∷ []) []))
      ∙ ap (λ l. init ++ l)
      (sym
      (ap (map f) (filter_more p xs i d h ∙ ap (λ t. filter p (take i xs) ++ cond t (get_or xs i d ∷ []) []) is)
      ∙ map-append f (filter p (take i xs)) (cond b (get_or xs i d ∷ []) [])))

  -- the item passes, and is added
  pub added_more : (d : X) → i < length xs → p (get_or xs i d) ≡ true → found ++ f (get_or xs i d) ∷ [] ≡ init ++ map f (filter p (take (i + 1) xs))
  added_more d h is = step d h true is

  -- the item doesn't pass
  pub passed_more : (d : X) → i < length xs → p (get_or xs i d) ≡ false → found ≡ init ++ map f (filter p (take (i + 1) xs))
  passed_more d h is = sym (append-nil found) ∙ step d h false is

  pub added_all : length xs ≤ i → found ≡ init ++ map f (filter p xs)
  added_all h = so_far ∙ ap (λ l. init ++ map f (filter p l)) (take_all i xs h)

enumerate-push : {X : Type 0} (k : ℕ) (xs : List X) (y : X) → enumerate_from k (xs ++ y ∷ []) ≡ enumerate_from k xs ++ (k + length xs, y) ∷ []
enumerate-push k [] y = ap (λ n. (n, y) ∷ []) (sym (add-zero k))
enumerate-push k (x ∷ xs) y =
    ap (λ l. (k, x) ∷ l)
    (enumerate-push (k + 1) xs y
    ∙ ap (λ n. enumerate_from (k + 1) xs ++ (n, y) ∷ []) (let e : k + 1 + length xs ≡ k + suc (length xs) = omega arith in e))

-- one more item with its number
pub numbered_more : {X Y : Type 0} (f : ℕ × X → List Y) (xs : List X) (n : ℕ) (x : X) → slice_get xs n ≡ Some x → (init found : List Y)
    → found ≡ init ++ flat_map f (enumerate_from 0 (take n xs)) → found ++ f (n, x) ≡ init ++ flat_map f (enumerate_from 0 (take (n + 1) xs))
numbered_more f xs n x is init found so_far =
    let h = slice_get_within xs n x is in
    let here : length (take n xs) ≡ n = length-take-le n xs (omega arith) in
    let front : take (n + 1) xs ≡ take n xs ++ x ∷ [] =
    take_more xs n x h ∙ ap (λ y. take n xs ++ y ∷ []) (get_or_from_slice_get xs n x x is) in
    let all : enumerate_from 0 (take (n + 1) xs) ≡ enumerate_from 0 (take n xs) ++ (n, x) ∷ [] =
    ap (enumerate_from 0) front ∙ enumerate-push 0 (take n xs) x
    ∙ ap (λ k. enumerate_from 0 (take n xs) ++ (k, x) ∷ []) (zero-add (length (take n xs)) ∙ here) in
    ap (λ l. l ++ f (n, x)) so_far
    ∙ append_assoc init (flat_map f (enumerate_from 0 (take n xs))) (f (n, x))
    ∙ ap (λ l. init ++ l)
    (sym
    (ap (flat_map f) all ∙ flat_map-append f (enumerate_from 0 (take n xs)) ((n, x) ∷ [])
    ∙ ap (λ l. flat_map f (enumerate_from 0 (take n xs)) ++ l) (append-nil (f (n, x)))))
