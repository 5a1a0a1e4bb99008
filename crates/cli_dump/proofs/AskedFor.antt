-- What names ask for, one name after another and one level after another.
use Rattle.std.proofs.Common.{◌≡◌, ◌∙◌, ◌<◌, ◌≤◌, ℕ, zero, suc, List, [], ◌∷◌, Bool, true, false, length, get_or, map, drop, refl, ap, arith, Some}
use Rattle.std.specs.Prelude.{◌&&◌}
use Rattle.std.specs.List.{list_all}
use Rattle.wad_levels.specs.Listing.{listing_refusal}
use Rattle.wad_levels.specs.declared.error.ReadError.{ReadError}
use Rattle.wad_levels.proofs.ListingLemmas.{by_bytes}
use Rattle.cli_dump.specs.Asked.{RefusesAsked}

-- ---- names

-- a name that fails
pub all_here : {X : Type 0} (p : X → Bool) (xs : List X) (i : ℕ) (x : X) → i < length xs → get_or xs i x ≡ x → p x ≡ false → list_all p (drop i xs) ≡ false
all_here p [] i x h e t = absurd (omega arith)
all_here p (y ∷ xs) zero x h e t = let u : p y ≡ false = ap p e ∙ t in rw u refl
all_here p (y ∷ xs) (suc i) x h e t = all_here p xs i x (omega arith) e t

-- no name is left
pub all_none : {X : Type 0} (p : X → Bool) (xs : List X) (i : ℕ) → length xs ≤ i → list_all p (drop i xs) ≡ true
all_none p [] zero h = refl
all_none p [] (suc i) h = refl
all_none p (y ∷ xs) zero h = absurd (omega arith)
all_none p (y ∷ xs) (suc i) h = all_none p xs i (omega arith)

pub all_map : {X Y : Type 0} (f : X → Y) (p : Y → Bool) (xs : List X) → list_all p (map f xs) ≡ list_all (λ (x : X). p (f x)) xs
all_map f p [] = refl
all_map f p (x ∷ xs) = ap (λ (b : Bool). p (f x) && b) (all_map f p xs)

-- ---- levels

-- bytes that are no WAD have no level that is asked for
pub unread : (wad : List ℕ) (names : List (List ℕ)) (e : ReadError) → listing_refusal wad ≡ Some e → RefusesAsked wad names e
unread wad names e r = by_bytes wad e (RefusesAsked wad names) (λ q. q) (λ q. q) r
