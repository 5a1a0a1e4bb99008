-- Borrowed lists compare as the lists do.
use Rattle.std.proofs.Common.{◌≡◌, refl, ap, ℕ, Bool, true, false, ◌||◌, List, [], ◌∷◌, ◌++◌, map, Bor}
use Rattle.std.specs.Prelude.{if◌then◌else◌}
use Rattle.std.specs.List.{list_any, position_or_len}
use Rattle.std.proofs.lemmas.List.{map-append}
use Rattle.tree_blocks.specs.Layout.{same_numbers, noted}

pub any_now : (l : List ℕ) (ks : List (Bor (List ℕ))) → list_any (λ k. same_numbers l k.now) ks ≡ list_any (same_numbers l) (map (λ k. k.now) ks)
any_now l [] = refl
any_now l (k ∷ ks) = ap (λ (b : Bool). same_numbers l k.now || b) (any_now l ks)

pub place_now : (l : List ℕ) (ks : List (Bor (List ℕ))) → position_or_len (λ k. same_numbers l k.now) ks ≡ position_or_len (same_numbers l) (map (λ k. k.now) ks)
place_now l [] = refl
place_now l (k ∷ ks) = let h = place_now l ks in rw h refl

either :
    (b c : Bool) (ks : List (Bor (List ℕ))) (list : Bor (List ℕ)) → b ≡ c
    → map (λ k. k.now) (if b then ks else ks ++ list ∷ []) ≡ (if c then map (λ k. k.now) ks else map (λ k. k.now) ks ++ list.now ∷ [])
either true c ks list e = rw (← e) refl
either false c ks list e = rw (← e) (map-append (λ k. k.now) ks (list ∷ []))

pub noted_now :
    (list : Bor (List ℕ)) (ks : List (Bor (List ℕ))) → map (λ k. k.now) (if list_any (λ k. same_numbers list.now k.now) ks then ks else ks ++ list ∷ []) ≡ noted (map (λ k. k.now) ks) list.now
noted_now list ks = either (list_any (λ k. same_numbers list.now k.now) ks) (list_any (same_numbers list.now) (map (λ k. k.now) ks)) ks list (any_now list.now ks)
