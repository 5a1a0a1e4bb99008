-- What the rules list, one more rule at a time.
use Rattle.std.proofs.Common.{◌≡◌, ℕ, ◌+◌, ◌<◌, List, [], ◌∷◌, ◌++◌, length, get_or, take, flat_map, sym, ap, ◌∙◌}
use Rattle.std.proofs.lemmas.List.{append-nil, take_more}
use Rattle.std.proofs.lemmas.List.Concat.{flat_map-append}

-- the items of one more rule
pub parts_more : {X Y : Type 0} (f : X → List Y) (xs : List X) (i : ℕ) (d : X) → i < length xs → (found : List Y) → found ≡ flat_map f (take i xs)
    → found ++ f (get_or xs i d) ≡ flat_map f (take (i + 1) xs)
parts_more f xs i d h found so_far =
    let x = get_or xs i d in
    ap (λ l. l ++ f x) so_far
    ∙ sym
    (ap (flat_map f) (take_more xs i d h) ∙ flat_map-append f (take i xs) (x ∷ [])
    ∙ ap (λ l. flat_map f (take i xs) ++ l) (append-nil (f x)))
