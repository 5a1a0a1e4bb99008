-- What follows if an edit isn't refused.
use Rattle.std.proofs.Common.{◌≡◌, ℕ, ◌<◌, ◌≤◌, ◌+◌, Bool, true, false, List, [], ◌∷◌, length, None, refl, sym, ltb, get_or}
use Rattle.std.specs.List.{list_any, All}
use Rattle.std.specs.Prelude.{Option, Some, Ok}
use Rattle.std.proofs.lemmas.Bool.{ltb-false, not-false, ltb-true, both_ways, false_from_ne_true}
use Rattle.std.proofs.lemmas.List.Folds.{list_any_at}
use Rattle.map_tables.specs.Outcomes.{least, unless}
use Rattle.map_tables.specs.Faults.{lacks, lacks_room, lacks_sector_room}

-- no test in the list of faults holds
abbrev pub NoneHold : List (ℕ × Bool) → Type 0
NoneHold [] = Unit {0}
NoneHold (fault ∷ faults) = (fault.1 ≡ false) × NoneHold faults

pub none_hold : (faults : List (ℕ × Bool)) → least faults ≡ None → NoneHold faults
none_hold [] e = tt
none_hold ((code, true) ∷ faults) e = cc
none_hold ((code, false) ∷ faults) e = (refl, none_hold faults e)

-- a number that isn't lacking is an index
pub not_lacking : {X : Type 0} (xs : List X) (n : ℕ) → lacks xs n ≡ false → n < length xs
not_lacking xs n e = ltb-true n (length xs) (not-false (ltb n (length xs)) e)

pub has_room : {X : Type 0} (xs : List X) → lacks_room xs 1 ≡ false → length xs + 1 ≤ 32767
has_room xs e = ltb-false 32767 (length xs + 1) e

pub has_sector_room : {X : Type 0} (xs : List X) → lacks_sector_room xs 1 ≡ false → length xs + 1 ≤ 4096
has_sector_room xs e = ltb-false 4096 (length xs + 1) e

-- if no element passes a test, the one at an index doesn't
pub none_passes : {X : Type 0} (p : X → Bool) (xs : List X) → list_any p xs ≡ false → All (λ x. p x ≡ false) xs
none_passes p xs e = λ k d h. false_from_ne_true (p (get_or xs k d)) (λ t. both_ways (list_any p xs) e (list_any_at p xs k d h t))

-- an edit for which no fault's test holds leads to the new map
pub done : {S X : Type 0} (o : Option ℕ) (made new : S) (answer given : X) → o ≡ None → new ≡ made → given ≡ answer → unless o made answer ≡ Ok (new, given)
done {S} {X} None made new answer given none is same = λ i. Ok (sym is i, sym same i)
done (Some code) made new answer given none is same = absurd (cc)
