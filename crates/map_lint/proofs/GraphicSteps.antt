-- Names as a set of bytes, one name more at a time.
use Rattle.std.proofs.Common.{◌≡◌, ◌∙◌, ℕ, ◌+◌, ◌<◌, Bool, true, false, cond, ◌||◌, List, length, get_or, take, refl, sym, ◌∷◌, ◌++◌, [], Option, None, Some, ap, drop, zero-add, append_assoc}
use Rattle.std.specs.Prelude.{bytes_eq, filter_map, find}
use Rattle.std.specs.List.{list_any, cons_option, range_with_len}
use Rattle.std.proofs.lemmas.List.Folds.{list_any_more, find-append}
use Rattle.lump_records.specs.declared.records.Name8.{Name8}
use Rattle.std.specs.Option.{option_or, option_to_list}
use Rattle.std.proofs.lemmas.List.{map-id, take-append-drop, take_more}
use Rattle.std.proofs.lemmas.List.Elements.{filter_map-append}
use Rattle.std.proofs.lemmas.List.FromFn.{map-range_with_len_more}

cond_or : (b x : Bool) → cond b true x ≡ (x || b)
cond_or true true = refl
cond_or true false = refl
cond_or false true = refl
cond_or false false = refl

-- whether some bytes are among those of the names, with one more name
pub names_more : (names : List Name8) (i : ℕ) (d : Name8) → i < length names → (bytes : List ℕ) (old new : Bool)
    → old ≡ list_any (λ k. bytes_eq k.bytes bytes) (take i names) → new ≡ cond (bytes_eq (get_or names i d).bytes bytes) true old
    → new ≡ list_any (λ k. bytes_eq k.bytes bytes) (take (i + 1) names)
names_more names i d within bytes old new was now =
    now ∙ cond_or (bytes_eq (get_or names i d).bytes bytes) old ∙ (λ j. was j || bytes_eq (get_or names i d).bytes bytes)
    ∙ sym (list_any_more (λ k. bytes_eq k.bytes bytes) names i d within)

-- what a list of one gives
of_one : {Y : Type 0} (o : Option Y) → cons_option o [] ≡ option_to_list o
of_one None = refl
of_one (Some y) = refl

-- one number more
range_more : (n : ℕ) → range_with_len 0 (n + 1) ≡ range_with_len 0 n ++ n ∷ []
range_more n = sym (map-id _) ∙ map-range_with_len_more (λ x. x) 0 n n (zero-add n) ∙ ap (λ l. l ++ n ∷ []) (map-id _)

-- what one number more adds to the list of what the numbers give
pub given_more : {Y : Type 0} (f : ℕ → Option Y) (n : ℕ) (before found : List Y) → found ≡ before ++ filter_map f (range_with_len 0 n) → (o : Option Y) → o ≡ f n
    → found ++ option_to_list o ≡ before ++ filter_map f (range_with_len 0 (n + 1))
given_more f n before found so_far o is =
    (λ i. so_far i ++ option_to_list (is i))
    ∙ append_assoc before (filter_map f (range_with_len 0 n)) (option_to_list (f n))
    ∙ ap (λ l. before ++ l)
    (ap (λ l. filter_map f (range_with_len 0 n) ++ l) (sym (of_one (f n)))
    ∙ sym (ap (filter_map f) (range_more n) ∙ filter_map-append f (range_with_len 0 n) (n ∷ [])))

-- the first of a list that passes, where none before it does
pub first_found : {X : Type 0} (p : X → Bool) (xs : List X) (i : ℕ) (d : X) → i < length xs → find p (take i xs) ≡ None → p (get_or xs i d) ≡ true
    → find p xs ≡ Some (get_or xs i d)
first_found p xs i d within none passes =
    ap (find p) (sym (take-append-drop (i + 1) xs)) ∙ find-append p (take (i + 1) xs) (drop (i + 1) xs)
    ∙ ap (λ o. option_or o (find p (drop (i + 1) xs)))
    (ap (find p) (take_more xs i d within) ∙ find-append p (take i xs) (get_or xs i d ∷ [])
    ∙ (λ j. option_or (none j) (cond (passes j) (Some (get_or xs i d)) None)))

-- none so far passes, nor does one more
pub none_more : {X : Type 0} (p : X → Bool) (xs : List X) (i : ℕ) (d : X) → i < length xs → find p (take i xs) ≡ None → p (get_or xs i d) ≡ false
    → find p (take (i + 1) xs) ≡ None
none_more p xs i d within none fails =
    ap (find p) (take_more xs i d within) ∙ find-append p (take i xs) (get_or xs i d ∷ [])
    ∙ (λ j. option_or (none j) (cond (fails j) (Some (get_or xs i d)) None))
