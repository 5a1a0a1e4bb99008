-- Lists with an element set or removed, and the numbers of the elements that stay.
use Rattle.std.proofs.Common.{◌≡◌, ◌≢◌, ℕ, zero, suc, ◌<◌, ◌≤◌, ◌+◌, ◌-◌, Bool, true, false, ◌||◌, List, [], ◌∷◌, ◌++◌, length, map, take, refl, sym, ap, subst, ◌∙◌, inl, inr, arith, ltb, get_or}
use Rattle.std.specs.Prelude.{Some, slice_get}
use Rattle.std.proofs.lemmas.Option.{get_or_from_slice_get, same_Some}
use Rattle.std.proofs.lemmas.List.Folds.{list_any_more, list_any_at}
use Rattle.std.proofs.lemmas.List.{take_more, map-append, map-set}
use Rattle.std.specs.List.{All, AllPairs, remove, list_any}
use Rattle.std.proofs.Math.ListN.{set, drop}
use Rattle.std.proofs.lemmas.Bool.{cases_eq, cases_lt, cond-true, cond-false, lt-ltb, le-ltb}
use Rattle.std.proofs.lemmas.Bool.Decides.{nat_tests}
use Rattle.std.proofs.lemmas.Grind.{get_or-set_at}
use Rattle.std.proofs.lemmas.List.{get_or-set_other, length-set}
use Rattle.std.proofs.lemmas.List.Elements.{All-append, All-take, All-drop, All-head, All-tail}
use Rattle.std.proofs.lemmas.List.Edits.{get_or-remove_below, get_or-remove_above}
use Rattle.map_tables.specs.Edits.{lowered}

-- what is true of each element is true of each that stays
pub All-remove : {X : Type 0} (P : X → Type 0) (xs : List X) (n : ℕ) → All P xs → All P (remove xs n)
All-remove P xs n h = All-append P (take n xs) (drop (suc n) xs) (All-take P n xs h) (All-drop P (suc n) xs h)

-- what is true of each two elements is true after one is set, if it is true of the new one and each other
pub all_pairs_set : {X : Type 0} (R : X → X → Type 0) (xs : List X) (n : ℕ) (y : X) → n < length xs → AllPairs R xs
    → ((k : ℕ) (d : X) → k < length xs → k ≢ n → R (get_or xs k d) y × R y (get_or xs k d)) → AllPairs R (set xs n y)
all_pairs_set R xs n y at pairs beside = λ i j d before within.
    let inside : j < length xs = omega (arith, length-set xs n y) in
    elim (cases_eq i n) [
      | inl first ↦
          let other : j ≢ n = omega arith in
          let new : get_or (set xs n y) i d ≡ y = get_or-set_at xs n i y d first at in
          let old : get_or (set xs n y) j d ≡ get_or xs j d = get_or-set_other xs n j y d other in
          rw (new, old) ((beside j d inside other).1)
      | inr apart ↦
          let old : get_or (set xs n y) i d ≡ get_or xs i d = get_or-set_other xs n i y d apart in
          elim (cases_eq j n) [
            | inl second ↦
                let new : get_or (set xs n y) j d ≡ y = get_or-set_at xs n j y d second at in
                rw (old, new) ((beside i d (omega arith) apart).0)
            | inr other ↦
                let old' : get_or (set xs n y) j d ≡ get_or xs j d = get_or-set_other xs n j y d other in
                rw (old, old') (pairs i j d before inside)
          ]
    ]

-- a lowered number is no greater
pub lowered_le : (gone n : ℕ) → lowered gone n ≤ n
lowered_le gone n = grind (arith, nat_tests)

-- the number of an element that stays is an index once it is lowered
pub lowered_fits : (gone n count : ℕ) → gone < count + 1 → n < count + 1 → n ≢ gone → lowered gone n < count
lowered_fits gone n count a b c = grind (arith, nat_tests)

-- two numbers stay apart
pub lowered_apart : (gone a b : ℕ) → a ≢ gone → b ≢ gone → a ≢ b → lowered gone a ≢ lowered gone b
lowered_apart gone a b p q r = grind (arith, nat_tests)

-- and they name the same items as before
pub get_or-lowered : {X : Type 0} (xs : List X) (gone n : ℕ) (d : X) → gone < length xs → n ≢ gone → get_or (remove xs gone) (lowered gone n) d ≡ get_or xs n d
get_or-lowered xs gone n d at apart =
    elim (cases_lt gone n) [
      | inl above ↦
          let it : lowered gone n ≡ n - 1 = cond-true (ltb gone n) (n - 1) n (lt-ltb gone n above) in
          let back : n - 1 + 1 ≡ n = omega arith in
          let moved : get_or (remove xs gone) (n - 1) d ≡ get_or xs (n - 1 + 1) d = get_or-remove_above xs gone d (n - 1) (omega arith) at in
          rw it (moved ∙ ap (λ k. get_or xs k d) back)
      | inr below ↦
          let it : lowered gone n ≡ n = cond-false (ltb gone n) (n - 1) n (le-ltb gone n below) in
          rw it (get_or-remove_below xs gone d n (omega arith) at)
    ]

-- ---- Lists that a function makes item by item

pub map-remove : {X Y : Type 0} (f : X → Y) (xs : List X) (n : ℕ) → map f (remove xs n) ≡ remove (map f xs) n
map-remove f [] zero = refl
map-remove f [] (suc n) = refl
map-remove f (x ∷ xs) zero = refl
map-remove {X} {Y} f (x ∷ xs) (suc n) = ap (λ (ys : List Y). f x ∷ ys) (map-remove f xs n)

pub any-map : {X Y : Type 0} (p : Y → Bool) (f : X → Y) (xs : List X) → list_any p (map f xs) ≡ list_any (λ x. p (f x)) xs
any-map p f [] = refl
any-map p f (x ∷ xs) = ap (λ b. p (f x) || b) (any-map p f xs)

pub any_same : {X : Type 0} (p q : X → Bool) (xs : List X) → ((x : X) → p x ≡ q x) → list_any p xs ≡ list_any q xs
any_same p q [] same = refl
any_same p q (x ∷ xs) same = ap (λ b. b || list_any p xs) (same x) ∙ ap (λ b. q x || b) (any_same p q xs same)

pub map-push : {X Y : Type 0} (f : X → Y) (xs : List X) (x : X) (y : Y) → f x ≡ y → map f (xs ++ x ∷ []) ≡ map f xs ++ y ∷ []
map-push {X} {Y} f xs x y e = map-append f xs (x ∷ []) ∙ ap (λ (z : Y). map f xs ++ z ∷ []) e

pub map-set_at : {X Y : Type 0} (f : X → Y) (xs : List X) (n : ℕ) (x : X) (y : Y) → f x ≡ y → map f (set xs n x) ≡ set (map f xs) n y
map-set_at {X} {Y} f xs n x y e = map-set f xs n x ∙ ap (λ (z : Y). set (map f xs) n z) e

-- what is true of each item is true of the one at an index
pub given_holds : {X Y : Type 0} (P : Y → Type 0) (f : X → Y) (xs : List X) (n : ℕ) (x : X) → slice_get xs n ≡ Some x → All P (map f xs) → P (f x)
given_holds P f [] n x is all = absurd (cc)
given_holds {X} {Y} P f (y ∷ xs) zero x is all =
    let here : y ≡ x = same_Some y x is in
    subst (λ (z : X). P (f z)) here (All-head P (f y) (map f xs) all)
given_holds P f (y ∷ xs) (suc n) x is all = given_holds P f xs n x is (All-tail P (f y) (map f xs) all)

-- the items so far, and the next
pub map_next : {X Y : Type 0} (f : X → Y) (xs : List X) (ys : List Y) (n : ℕ) (x : X) → n < length xs → slice_get xs n ≡ Some x → ys ≡ map f (take n xs) → ys ++ f x ∷ [] ≡ map f (take (n + 1) xs)
map_next {X} {Y} f xs ys n x at is so_far =
    let here : get_or xs n x ≡ x = get_or_from_slice_get xs n x x is in
    rw (take_more xs n x at, here) (ap (λ (zs : List Y). zs ++ f x ∷ []) so_far ∙ sym (map-append f (take n xs) (x ∷ [])))

-- ---- A search through a list

-- none so far, and not the next
pub none_yet : {X : Type 0} (p : X → Bool) (xs : List X) (n : ℕ) (x : X) → n < length xs → slice_get xs n ≡ Some x → list_any p (take n xs) ≡ false → p x ≡ false → list_any p (take (n + 1) xs) ≡ false
none_yet p xs n x at is before not_here =
    let here : get_or xs n x ≡ x = get_or_from_slice_get xs n x x is in
    list_any_more p xs n x at ∙ (rw (before, here, not_here) refl)

-- found
pub one_here : {X : Type 0} (p : X → Bool) (xs : List X) (n : ℕ) (x : X) → n < length xs → slice_get xs n ≡ Some x → p x ≡ true → list_any p xs ≡ true
one_here p xs n x at is passes =
    let here : get_or xs n x ≡ x = get_or_from_slice_get xs n x x is in
    list_any_at p xs n x at (rw here passes)
