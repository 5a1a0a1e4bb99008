-- The first of some texts that passes a test, as one more is read.
use Rattle.std.proofs.Common.{◌≡◌, ◌∙◌, ◌+◌, ◌<◌, ◌++◌, ◌∷◌, [], ℕ, Bool, true, false, List, Option, Some, None, ap, cond, drop, get_or, length, map, sym, take}
use Rattle.std.specs.Prelude.{find}
use Rattle.std.specs.Option.{option_or}
use Rattle.std.proofs.lemmas.List.{map-append, take-append-drop, take_more}
use Rattle.std.proofs.lemmas.List.Folds.{find-append}

module _ {X Y : Type 0} (f : X → Y) (p : Y → Bool) (xs : List X) (n : ℕ) (d : X) (within : n < length xs) (none : find p (map f (take n xs)) ≡ None) where
  one_more : (b : Bool) → p (f (get_or xs n d)) ≡ b → find p (map f (take (n + 1) xs)) ≡ cond b (Some (f (get_or xs n d))) None
  one_more b is =
      ap (λ (ys : List X). find p (map f ys)) (take_more xs n d within)
      ∙ ap (find p) (map-append f (take n xs) (get_or xs n d ∷ []))
      ∙ find-append p (map f (take n xs)) (f (get_or xs n d) ∷ [])
      ∙ ap (λ (o : Option Y). option_or o (find p (f (get_or xs n d) ∷ []))) none
      ∙ ap (λ c. cond c (Some (f (get_or xs n d))) None) is

  pub not_yet : p (f (get_or xs n d)) ≡ false → find p (map f (take (n + 1) xs)) ≡ None
  not_yet is = one_more false is

  pub found : p (f (get_or xs n d)) ≡ true → find p (map f xs) ≡ Some (f (get_or xs n d))
  found is =
      ap (λ (ys : List X). find p (map f ys)) (sym (take-append-drop (n + 1) xs))
      ∙ ap (find p) (map-append f (take (n + 1) xs) (drop (n + 1) xs))
      ∙ find-append p (map f (take (n + 1) xs)) (map f (drop (n + 1) xs))
      ∙ ap (λ (o : Option Y). option_or o (find p (map f (drop (n + 1) xs)))) (one_more true is)
