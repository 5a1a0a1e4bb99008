-- What names ask for.
use Rattle.std.proofs.Common.{◌≡◌, ◌∙◌, ℕ, List, [], ◌∷◌, Bool, true, false, length, map, refl, sym, ap}
use Rattle.std.specs.Prelude.{◌==◌, ◌||◌}
use Rattle.std.specs.List.{list_any}
use Rattle.std.proofs.lemmas.List.{length-map}
use Rattle.wad_file.specs.Fields.{same_bytes}
use Rattle.wad_file.specs.Names.{is_asked}

pub any_map : {X Y : Type 0} (f : X → Y) (p : Y → Bool) (xs : List X) → list_any p (map f xs) ≡ list_any (λ (x : X). p (f x)) xs
any_map f p [] = refl
any_map f p (x ∷ xs) = ap (λ (b : Bool). p (f x) || b) (any_map f p xs)

-- the text is asked for where it is one of the names
pub asked_by : {X : Type 0} (f : X → List ℕ) (names : List X) (text : List ℕ) (b : Bool) → (length names == 0) ≡ false
    → b ≡ list_any (λ (n : X). same_bytes (f n) text) names → b ≡ is_asked (map f names) text
asked_by f names text b some is =
    let more : (length (map f names) == 0) ≡ false = ap (λ (n : ℕ). n == 0) (length-map names f) ∙ some in
    is ∙ sym (any_map f (λ (n : List ℕ). same_bytes n text) names)
    ∙ sym (ap (λ (c : Bool). c || list_any (λ (n : List ℕ). same_bytes n text) (map f names)) more)

-- where there is no name each text is asked for
pub asked_all : {X : Type 0} (f : X → List ℕ) (names : List X) (text : List ℕ) → (length names == 0) ≡ true → true ≡ is_asked (map f names) text
asked_all f names text none =
    let all : (length (map f names) == 0) ≡ true = ap (λ (n : ℕ). n == 0) (length-map names f) ∙ none in
    sym (ap (λ (c : Bool). c || list_any (λ (n : List ℕ). same_bytes n text) (map f names)) all)
