-- Each list is among the written ones once, and each written one is some block's.
use Rattle.std.proofs.Common.{◌≡◌, ◌∙◌, refl, sym, ap, ℕ, zero, suc, ◌+◌, ◌<◌, ◌⊎◌, inl, inr, Bool, true, false, ◌||◌, not, cond, List, [], ◌∷◌, ◌++◌, length, get_or, arith, length-append}
use Rattle.std.specs.Prelude.{All, fold, if◌then◌else◌}
use Rattle.std.specs.List.{list_any, position_or_len}
use Rattle.std.specs.Cmp.Lexicographic.{bytes_decides}
use Rattle.std.proofs.lemmas.List.Sums.{passes_at_first}
use Rattle.std.proofs.lemmas.List.Elements.{All-nil, All-cons, All-get_or}
use Rattle.tree_blocks.specs.Layout.{same_numbers, noted, once, place_in}

pub same_self : (xs : List ℕ) → same_numbers xs xs ≡ true
same_self xs = (bytes_decides xs xs).1 refl

same_numbers-eq : (xs ys : List ℕ) → same_numbers xs ys ≡ true → xs ≡ ys
same_numbers-eq xs ys e = (bytes_decides xs ys).0 e

-- the index of a list stays if another one is appended
position_push : {X : Type 0} (p : X → Bool) (xs : List X) (y : X) → (list_any p xs ≡ true) ⊎ (p y ≡ true) → position_or_len p (xs ++ y ∷ []) ≡ position_or_len p xs
position_push p [] y (inl e) = absurd (cc)
position_push p [] y (inr e) = rw e refl
position_push p (x ∷ xs) y h = by (λ k. position_push p xs y k) (p x) refl h
  where
    by : ((list_any p xs ≡ true) ⊎ (p y ≡ true) → position_or_len p (xs ++ y ∷ []) ≡ position_or_len p xs) → (b : Bool) → p x ≡ b → ((p x || list_any p xs) ≡ true) ⊎ (p y ≡ true)
        → position_or_len p (x ∷ xs ++ y ∷ []) ≡ position_or_len p (x ∷ xs)
    by later true e k = rw e refl
    by later false e (inl k) = let r = later (inl (rw e at k)) in rw (e, r) refl
    by later false e (inr k) = let r = later (inr k) in rw (e, r) refl

-- a list that isn't found gets the index after the last
position_none : {X : Type 0} (p : X → Bool) (xs : List X) → list_any p xs ≡ false → position_or_len p xs ≡ length xs
position_none p [] e = refl
position_none p (x ∷ xs) e = by (λ k. position_none p xs k) (p x) refl e
  where
    by : (list_any p xs ≡ false → position_or_len p xs ≡ length xs) → (b : Bool) → p x ≡ b → (p x || list_any p xs) ≡ false → position_or_len p (x ∷ xs) ≡ suc (length xs)
    by later true e k = absurd (let f = rw e at k in cc)
    by later false e k = let r = later (rw e at k) in rw (e, r) (omega arith)

any_push : {X : Type 0} (p : X → Bool) (xs : List X) (y : X) → (list_any p xs ≡ true) ⊎ (p y ≡ true) → list_any p (xs ++ y ∷ []) ≡ true
any_push p [] y (inl e) = absurd (cc)
any_push p [] y (inr e) = rw e refl
any_push p (x ∷ xs) y h = by (λ k. any_push p xs y k) (p x) refl h
  where
    by : ((list_any p xs ≡ true) ⊎ (p y ≡ true) → list_any p (xs ++ y ∷ []) ≡ true) → (b : Bool) → p x ≡ b → ((p x || list_any p xs) ≡ true) ⊎ (p y ≡ true) → (p x || list_any p (xs ++ y ∷ [])) ≡ true
    by later true e k = rw e refl
    by later false e (inl k) = let r = later (inl (rw e at k)) in rw (e, r) refl
    by later false e (inr k) = let r = later (inr k) in rw (e, r) refl

-- a list's index stays if another one is noted, if the list is found or is that one
pub place_noted : (keys : List (List ℕ)) (l x : List ℕ) → (list_any (same_numbers x) keys ≡ true) ⊎ (same_numbers x l ≡ true) → place_in (noted keys l) x ≡ place_in keys x
place_noted keys l x h = by (list_any (same_numbers l) keys) refl
  where
    by : (b : Bool) → list_any (same_numbers l) keys ≡ b → place_in (if b then keys else keys ++ l ∷ []) x ≡ place_in keys x
    by true e = refl
    by false e = position_push (same_numbers x) keys l h

-- a list that is found is found among more lists
pub found_noted : (keys : List (List ℕ)) (l x : List ℕ) → list_any (same_numbers x) keys ≡ true → list_any (same_numbers x) (noted keys l) ≡ true
found_noted keys l x h = by (list_any (same_numbers l) keys)
  where
    by : (b : Bool) → list_any (same_numbers x) (if b then keys else keys ++ l ∷ []) ≡ true
    by true = h
    by false = any_push (same_numbers x) keys l (inl h)

-- a noted list is found
pub noted_found : (keys : List (List ℕ)) (l : List ℕ) → list_any (same_numbers l) (noted keys l) ≡ true
noted_found keys l = by (list_any (same_numbers l) keys) refl
  where
    by : (b : Bool) → list_any (same_numbers l) keys ≡ b → list_any (same_numbers l) (if b then keys else keys ++ l ∷ []) ≡ true
    by true e = e
    by false e = any_push (same_numbers l) keys l (inr (same_self l))

-- the same for several lists

found_later : (keys lists : List (List ℕ)) (x : List ℕ) → list_any (same_numbers x) keys ≡ true → list_any (same_numbers x) (fold noted keys lists) ≡ true
found_later keys [] x h = h
found_later keys (l ∷ lists) x h = found_later (noted keys l) lists x (found_noted keys l x h)

place_later : (keys lists : List (List ℕ)) (x : List ℕ) → list_any (same_numbers x) keys ≡ true → place_in (fold noted keys lists) x ≡ place_in keys x
place_later keys [] x h = refl
place_later keys (l ∷ lists) x h = place_later (noted keys l) lists x (found_noted keys l x h) ∙ place_noted keys l x (inl h)

all_found : (keys lists : List (List ℕ)) → All (λ x. list_any (same_numbers x) (fold noted keys lists) ≡ true) lists
all_found keys [] = All-nil (λ x. list_any (same_numbers x) keys ≡ true)
all_found keys (l ∷ lists) =
    All-cons (λ x. list_any (same_numbers x) (fold noted (noted keys l) lists) ≡ true) l lists
    (found_later (noted keys l) lists l (noted_found keys l)) (all_found (noted keys l) lists)

any_before_end : {X : Type 0} (p : X → Bool) (xs : List X) → list_any p xs ≡ true → position_or_len p xs < length xs
any_before_end p [] e = cc
any_before_end p (x ∷ xs) e = by (p x) (any_before_end p xs) e
  where
    by : (b : Bool) → (list_any p xs ≡ true → position_or_len p xs < length xs) → (b || list_any p xs) ≡ true → cond (not b) (1 + position_or_len p xs) 0 < suc (length xs)
    by true h e = omega arith
    by false h e = let k = h e in omega arith

found_once : (lists : List (List ℕ)) (n : ℕ) → n < length lists → list_any (same_numbers (get_or lists n [])) (once lists) ≡ true
found_once lists n h = All-get_or (λ x. list_any (same_numbers x) (once lists) ≡ true) lists n [] h (all_found [] lists)

-- each list has an index among those that are written once, and the list at that index is equal to it

pub place_within : (lists : List (List ℕ)) (n : ℕ) → n < length lists → place_in (once lists) (get_or lists n []) < length (once lists)
place_within lists n h = any_before_end (same_numbers (get_or lists n [])) (once lists) (found_once lists n h)

pub place_equal : (lists : List (List ℕ)) (n : ℕ) → (h : n < length lists) → get_or (once lists) (place_in (once lists) (get_or lists n [])) [] ≡ get_or lists n []
place_equal lists n h =
    sym (same_numbers-eq _ _ (passes_at_first (same_numbers (get_or lists n [])) (once lists) [] (place_within lists n h)))

-- an index among the written lists is an old one, or that of one of these lists
pub record Serves (lists written : List (List ℕ)) (k : ℕ) : Type 0 where
  pub block : ℕ
  pub among : block < length lists
  pub place : place_in written (get_or lists block []) ≡ k

later_serves : (l : List ℕ) (lists written : List (List ℕ)) (k : ℕ) → Serves lists written k → Serves (l ∷ lists) written k
later_serves l lists written k s = let a = s.among in record { block = suc s.block; among = omega arith; place = s.place }

served_from : (keys lists : List (List ℕ)) (k : ℕ) → k < length (fold noted keys lists) → (k < length keys) ⊎ Serves lists (fold noted keys lists) k
served_from keys [] k h = inl h
served_from keys (l ∷ lists) k h = after (served_from (noted keys l) lists k h)
  where
    this : place_in (noted keys l) l ≡ k → Serves (l ∷ lists) (fold noted (noted keys l) lists) k
    this p = record { block = 0; among = omega arith; place = place_later (noted keys l) lists l (noted_found keys l) ∙ p }

    at_end : (k < length keys) ⊎ (k ≡ length keys) → list_any (same_numbers l) keys ≡ false → place_in (keys ++ l ∷ []) l ≡ length keys → (k < length keys) ⊎ (k ≡ length keys)
    at_end h f p = h

    new : (b : Bool) → list_any (same_numbers l) keys ≡ b → k < length (if b then keys else keys ++ l ∷ [])
        → (place_in (if b then keys else keys ++ l ∷ []) l ≡ k → Serves (l ∷ lists) (fold noted (noted keys l) lists) k) → (k < length keys) ⊎ Serves (l ∷ lists) (fold noted (noted keys l) lists) k
    new true e h t = inl h
    new false e h t = last (split k (length keys) (let n = length-append keys (l ∷ []) in omega arith))
      where
        split : (i n : ℕ) → i < n + 1 → (i < n) ⊎ (i ≡ n)
        split zero zero h = inr refl
        split zero (suc n) h = inl (omega arith)
        split (suc i) zero h = absurd (omega arith)
        split (suc i) (suc n) h = up (split i n (omega arith))
          where
            up : (i < n) ⊎ (i ≡ n) → (suc i < suc n) ⊎ (suc i ≡ suc n)
            up (inl h) = inl (omega arith)
            up (inr h) = inr (ap suc h)

        last : (k < length keys) ⊎ (k ≡ length keys) → (k < length keys) ⊎ Serves (l ∷ lists) (fold noted (noted keys l) lists) k
        last (inl h) = inl h
        last (inr h) = inr (t (position_push (same_numbers l) keys l (inr (same_self l)) ∙ position_none (same_numbers l) keys e ∙ sym h))

    after : (k < length (noted keys l)) ⊎ Serves lists (fold noted (noted keys l) lists) k → (k < length keys) ⊎ Serves (l ∷ lists) (fold noted (noted keys l) lists) k
    after (inl h) = new (list_any (same_numbers l) keys) refl h this
    after (inr s) = inr (later_serves l lists (fold noted (noted keys l) lists) k s)

-- each written list is some block's
pub served : (lists : List (List ℕ)) (k : ℕ) → k < length (once lists) → Serves lists (once lists) k
served lists k h = some (served_from [] lists k h)
  where
    some : (k < 0) ⊎ Serves lists (once lists) k → Serves lists (once lists) k
    some (inl h) = absurd (omega arith)
    some (inr s) = s
