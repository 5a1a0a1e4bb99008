-- What reading an item of a map by its number says of the lists of the map.
use Rattle.std.proofs.Common.{◌≡◌, ℕ, ◌+◌, ◌<◌, ◌||◌, Bool, true, false, List, [], ◌∷◌, length, get_or, map, take, Option, Some, refl, sym, ap, ◌∙◌, subst, arith, zero-add}
use Rattle.std.specs.List.{enumerate_from, list_any, slice_get}
use Rattle.std.specs.Option.{IsSome, option_map_or}
use Rattle.std.proofs.lemmas.List.{get_or-map, length-map, take_all}
use Rattle.std.proofs.lemmas.List.Folds.{list_any_more}
use Rattle.std.proofs.lemmas.List.FromFn.{length-enumerate_from, get_or-enumerate_from}
use Rattle.std.proofs.lemmas.Option.{slice_get_within, slice_get-get_or, get_or_from_slice_get}
use Rattle.lump_records.specs.declared.records.Line.{Line}
use Rattle.map_tables.specs.Tables.{Tables}
use Rattle.map_plane.specs.declared.places.PlacedLine.{PlacedLine}
use Rattle.map_plane.specs.Found.{IsFirstOf}
use Rattle.map_plane.specs.Places.{placed, placed_lines}

-- an item whose number is below the count is there
pub is_there : {A : Type 0} (xs : List A) (n : ℕ) (o : Option A) → o ≡ slice_get xs n → n < length xs → IsSome o
is_there [] n o e h = absurd (omega arith)
is_there (x ∷ xs) n o e h = subst IsSome (sym (e ∙ slice_get-get_or (x ∷ xs) n x h)) refl

-- if none before item n passes the test, and it doesn't, none up to it does
pub none_yet : {X : Type 0} (test : X → Bool) (xs : List X) (n : ℕ) (x : X) → slice_get xs n ≡ Some x → list_any test (take n xs) ≡ false → test x ≡ false
    → list_any test (take (n + 1) xs) ≡ false
none_yet test xs n x is before h =
    list_any_more test xs n x (slice_get_within xs n x is)
    ∙ (λ i. before i || (ap test (get_or_from_slice_get xs n x x is) ∙ h) i)

-- and if it does, it is the first
pub first_there : {X : Type 0} (test : X → Bool) (xs : List X) (n k : ℕ) (x : X) → slice_get xs n ≡ Some x → list_any test (take n xs) ≡ false → test x ≡ true
    → k ≡ n → IsFirstOf test xs k
first_there test xs n k x is before h same = record {
  passes = ap (λ j. option_map_or test (slice_get xs j) false) same ∙ ap (λ o. option_map_or test o false) is ∙ h;
  first = ap (λ j. list_any test (take j xs)) same ∙ before;
}

-- none of all items passes the test
pub none_there : {X : Type 0} (test : X → Bool) (xs : List X) (n : ℕ) → length xs ≡ n → list_any test (take n xs) ≡ false → list_any test xs ≡ false
none_there test xs n same before = ap (list_any test) (sym (take_all n xs (omega arith))) ∙ before

-- the list of a map's lines with their places has as many items as that of its lines
pub length-placed_lines : (m : Tables) → length (placed_lines m) ≡ length m.lines
length-placed_lines m = length-map (enumerate_from 0 m.lines) (placed m) ∙ length-enumerate_from 0 m.lines

-- an item of it is the line with the number, and the places of its ends
pub placed_there : (m : Tables) (n : ℕ) (l : Line) → slice_get m.lines n ≡ Some l → slice_get (placed_lines m) n ≡ Some (placed m (n, l))
placed_there m n l is =
    let es = enumerate_from 0 m.lines in
    let within = slice_get_within m.lines n l is in
    let there : n < length es = omega (arith, within, length-enumerate_from 0 m.lines) in
    let at : get_or es n (n, l) ≡ (n, l) =
    get_or-enumerate_from 0 m.lines n (n, l) within ∙ (λ i. (zero-add n i, get_or_from_slice_get m.lines n l l is i)) in
    slice_get-get_or (placed_lines m) n (placed m (n, l)) (omega (arith, within, length-placed_lines m))
    ∙ ap (λ (x : PlacedLine). Some x) (get_or-map (placed m) es n (n, l) (placed m (n, l)) there ∙ ap (placed m) at)
