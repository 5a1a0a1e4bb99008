-- One more list is gathered.
use Rattle.std.proofs.Common.{◌≡◌, ◌∙◌, refl, sym, ap, ℕ, ◌+◌, ◌<◌, ◌≤◌, inl, inr, true, List, [], ◌∷◌, ◌++◌, length, map, take, get_or}
use Rattle.std.specs.Prelude.{All}
use Rattle.std.specs.List.{list_any}
use Rattle.std.proofs.lemmas.Grind.{fold-append}
use Rattle.std.proofs.lemmas.List.{take_more, take_all, map-append}
use Rattle.std.proofs.lemmas.List.Elements.{All-push, All-head, All-tail, All-weaker, All-nil}
use Rattle.tree_blocks.specs.Layout.{same_numbers, noted, once, place_in}
use Rattle.tree_blocks.proofs.OnceLemmas.{same_self, place_noted, found_noted, noted_found}

pub record SoFar (lists keys : List (List ℕ)) (places : List ℕ) (n : ℕ) : Type 0 where
  pub keys_are : keys ≡ once (take n lists)
  pub places_are : places ≡ map (place_in keys) (take n lists)
  pub found : All (λ x. list_any (same_numbers x) keys ≡ true) (take n lists)

map_agree : {X Y : Type 0} (f g : X → Y) (P : X → Type 0) → ((x : X) → P x → f x ≡ g x) → (xs : List X) → All P xs → map f xs ≡ map g xs
map_agree f g P h [] a = refl
map_agree f g P h (x ∷ xs) a =
    let e = h x (All-head P x xs a) in
    let r = map_agree f g P h xs (All-tail P x xs a) in
    cc

pub so_far_more :
    (lists keys new : List (List ℕ)) (places : List ℕ) (n place : ℕ) (l : List ℕ) → n < length lists → get_or lists n l ≡ l → new ≡ noted keys l → place ≡ place_in keys l → SoFar lists keys places n
    → SoFar lists new (places ++ place ∷ []) (n + 1)
so_far_more lists keys new places n place l h is k p s =
    let more : take (n + 1) lists ≡ take n lists ++ l ∷ [] = take_more lists n l h ∙ ap (λ (x : List ℕ). take n lists ++ x ∷ []) is in
    let same_place : place ≡ place_in (noted keys l) l = p ∙ sym (place_noted keys l l (inr (same_self l))) in
    let kept = map_agree (place_in keys) (place_in (noted keys l)) (λ x. list_any (same_numbers x) keys ≡ true) (λ x f. sym (place_noted keys l x (inl f))) (take n lists) s.found in
    told more k
    (ap (λ (ks : List (List ℕ)). noted ks l) s.keys_are ∙ sym (fold-append noted [] (take n lists) (l ∷ [])))
    (ap (λ (ps : List ℕ). ps ++ place ∷ []) (s.places_are ∙ kept) ∙ ap (λ (q : ℕ). map (place_in (noted keys l)) (take n lists) ++ q ∷ []) same_place ∙ sym
    (map-append (place_in (noted keys l)) (take n lists) (l ∷ [])))
    (All-push (λ x. list_any (same_numbers x) (noted keys l) ≡ true) (take n lists) l
    (All-weaker (λ x. list_any (same_numbers x) keys ≡ true) (λ x. list_any (same_numbers x) (noted keys l) ≡ true) (λ x f. found_noted keys l x f) (take n lists) s.found) (noted_found keys l))
  where
    told : take (n + 1) lists ≡ take n lists ++ l ∷ [] → new ≡ noted keys l → noted keys l ≡ once (take n lists ++ l ∷ [])
        → places ++ place ∷ [] ≡ map (place_in (noted keys l)) (take n lists ++ l ∷ []) → All (λ x. list_any (same_numbers x) (noted keys l) ≡ true) (take n lists ++ l ∷ [])
        → SoFar lists new (places ++ place ∷ []) (n + 1)
    told m k a b c = record { keys_are = rw (k, m) a; places_are = rw (k, m) b; found = rw (k, m) c }

-- nothing is gathered yet
pub so_far_none : (lists keys : List (List ℕ)) (places : List ℕ) → keys ≡ [] → places ≡ [] → SoFar lists keys places 0
so_far_none lists keys places e f =
    record { keys_are = e; places_are = f; found = All-nil (λ x. list_any (same_numbers x) keys ≡ true) }

-- all is gathered
pub so_far_all : (lists keys : List (List ℕ)) (places : List ℕ) (n : ℕ) → length lists ≤ n → SoFar lists keys places n → (keys ≡ once lists) × (places ≡ map (place_in (once lists)) lists)
so_far_all lists keys places n h s =
    let all : take n lists ≡ lists = take_all n lists h in
    let k : keys ≡ once lists = s.keys_are ∙ ap once all in
    (k, s.places_are ∙ ap (λ (xs : List (List ℕ)). map (place_in keys) xs) all ∙ ap (λ (ks : List (List ℕ)). map (place_in ks) lists) k)
