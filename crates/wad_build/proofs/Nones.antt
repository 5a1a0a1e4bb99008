-- When a list of possible faults has none.
use Rattle.std.proofs.Common.{◌≡◌, refl, ap, ℕ, suc, ◌+◌, ◌≤◌, Bool, true, false, not, cond, ◌&&◌, List, [], ◌∷◌, length, arith, Option, Some, None}
use Rattle.std.specs.Prelude.{◌↔◌, All, nat_lt, nat_le}
use Rattle.std.specs.Bool.{Decides}
use Rattle.std.specs.Option.{option_map}
use Rattle.std.specs.List.{position_or_len}
use Rattle.std.proofs.lemmas.Bool.Decides.{Decides-by_and, Decides-like, Decides-and, Decides-ltb, nat_tests}
use Rattle.wad_build.specs.Audit.{first_wrong, first_some, fault_unless, is_in_range}
use Rattle.tree_nodes.specs.InRange.{IsIn, greatest_number}

-- ---- no element is wrong
none_past : {X : Type 0} → (X → Bool) → List X → Bool
none_past right xs = not (nat_lt (position_or_len (λ x. not (right x)) xs) (length xs))

step : (b : Bool) (n l : ℕ) → not (nat_lt (cond (not (not b)) (1 + n) 0) (suc l)) ≡ (b && not (nat_lt n l))
step true n l = ap not (shifted n l)
  where
    shifted : (n l : ℕ) → nat_lt (1 + n) (suc l) ≡ nat_lt n l
    shifted n l = grind (arith, nat_tests)
step false n l = grind (arith, nat_tests)

none_past-decides : {X : Type 0} (right : X → Bool) (P : X → Type 0) → ((x : X) → Decides (right x) (P x)) → (xs : List X) → Decides (none_past right xs) (All P xs)
unfolding none_past
none_past-decides right P each xs = Decides-by_and right P (none_past right) each (grind (arith, nat_tests)) (λ x ys. step (right x) (position_or_len (λ y. not (right y)) ys) (length ys)) xs

none_where : {X : Type 0} (b : Bool) (x : X) → (cond b (Some x) None ≡ None) ↔ (not b ≡ true)
none_where true x = (λ h. cc, λ h. cc)
none_where false x = (λ h. refl, λ h. refl)

pub no_wrong : {X : Type 0} (right : X → Bool) (P : X → Type 0) → ((x : X) → Decides (right x) (P x)) → (xs : List X) → (first_wrong right xs ≡ None) ↔ All P xs
unfolding none_past
no_wrong right P each xs =
    let d = none_past-decides right P each xs in
    let w = none_where (nat_lt (position_or_len (λ x. not (right x)) xs) (length xs)) (position_or_len (λ x. not (right x)) xs) in
    (λ h. d.0 (w.0 h), λ a. w.1 (d.1 a))

-- ---- the faults in a row
pub map_none : {X Y : Type 0} (f : X → Y) (o : Option X) → (option_map f o ≡ None) ↔ (o ≡ None)
map_none f None = (λ h. refl, λ h. refl)
map_none f (Some x) = (λ h. cc, λ h. cc)

pub unless_none : {F : Type 0} (b : Bool) (P : Type 0) (fault : F) → Decides b P → (fault_unless b fault ≡ None) ↔ P
unless_none true P fault d = (λ h. d.0 refl, λ p. refl)
unless_none false P fault d = (λ h. cc, λ p. let e = d.1 p in cc)

abbrev pub AllNone : {X : Type 0} → List (Option X) → Type 0
AllNone [] = Unit {0}
AllNone (o ∷ os) = (o ≡ None) × AllNone os

pub first_some-none : {X : Type 0} (os : List (Option X)) → (first_some os ≡ None) ↔ AllNone os
first_some-none [] = (λ h. tt, λ h. refl)
first_some-none (None ∷ os) = let r = first_some-none os in (λ h. (refl, r.0 h), λ h. r.1 h.1)
first_some-none (Some x ∷ os) = (λ h. cc, λ h. let e = h.0 in cc)

-- ---- tests
pub Decides-leb : (a b : ℕ) → Decides (nat_le a b) (a ≤ b)
Decides-leb a b = (λ h. grind (arith, nat_tests), λ h. grind (arith, nat_tests))

pub Decides-is_in : {X : Type 0} (xs : List X) (n : ℕ) → Decides (is_in_range xs n) (IsIn xs n)
Decides-is_in xs n =
    Decides-like (is_in_range xs n) (λ p. record { among = p.0; small = p.1 }) (λ i. (i.among, i.small))
    (Decides-and (nat_lt n (length xs)) (nat_le n greatest_number) (Decides-ltb n (length xs)) (Decides-leb n greatest_number))
