-- Marks that are added one by one.
use Rattle.std.proofs.Common.{◌≡◌, ◌∙◌, ◌+◌, ◌<◌, ℕ, List, [], ◌∷◌, ◌++◌, length, get_or, take, map, sym, ap}
use Rattle.std.proofs.lemmas.List.{append_assoc, map-append, take_more}

-- the marks of the first items, and that of one more
pub marked_more : {X Y : Type 0} (f : X → Y) (before : List Y) (xs : List X) (i : ℕ) (d : X) → i < length xs → (marks : List Y) → marks ≡ before ++ map f (take i xs)
    → marks ++ f (get_or xs i d) ∷ [] ≡ before ++ map f (take (i + 1) xs)
marked_more f before xs i d within marks so_far =
    let x = get_or xs i d in
    ap (λ ys. ys ++ f x ∷ []) so_far ∙ append_assoc before (map f (take i xs)) (f x ∷ [])
    ∙ ap (λ ys. before ++ ys) (sym (map-append f (take i xs) (x ∷ [])) ∙ ap (map f) (sym (take_more xs i d within)))
