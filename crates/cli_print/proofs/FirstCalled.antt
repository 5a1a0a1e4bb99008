-- The first map that is called so.
use Rattle.std.proofs.Common.{◌≡◌, ◌∙◌, ◌<◌, ℕ, Bool, true, false, List, Some, None, get_or, length, ap, arith}
use Rattle.std.specs.Prelude.{find, slice_get}
use Rattle.std.specs.List.{position_or_len}
use Rattle.std.proofs.lemmas.List.Folds.{find_at}
use Rattle.std.proofs.lemmas.List.Sums.{position_or_len_is}
use Rattle.std.proofs.lemmas.Option.{get_or_from_slice_get, slice_get_past}
use Rattle.map_tables.specs.Tables.{Tables, empty_tables}

-- the first map that passes
pub found : (p : Tables → Bool) (ms : List Tables) (n : ℕ) (m : Tables) → n < length ms → ((k : ℕ) (d : Tables) → k < n → p (get_or ms k d) ≡ false)
    → slice_get ms n ≡ Some m → p m ≡ true → find p ms ≡ Some m
found p ms n m within before at passes =
    let first : position_or_len p ms ≡ n = position_or_len_is p ms n m (omega arith) (λ k below. before k m below) (λ inside. ap p (get_or_from_slice_get ms n m m at) ∙ passes) in
    find_at p ms ∙ ap (slice_get ms) first ∙ at

-- no map passes
pub none_found : (p : Tables → Bool) (ms : List Tables) (n : ℕ) → n ≡ length ms → ((k : ℕ) (d : Tables) → k < n → p (get_or ms k d) ≡ false)
    → find p ms ≡ None
none_found p ms n all before =
    let past : position_or_len p ms ≡ n = position_or_len_is p ms n empty_tables (omega arith) (λ k below. before k empty_tables below) (λ inside. absurd (omega arith)) in
    find_at p ms ∙ ap (slice_get ms) past ∙ slice_get_past ms n (omega arith)

-- this map fails
pub fails_here : (p : Tables → Bool) (ms : List Tables) (n : ℕ) (m d : Tables) → slice_get ms n ≡ Some m → p m ≡ false → p (get_or ms n d) ≡ false
fails_here p ms n m d at fails = ap p (get_or_from_slice_get ms n m d at) ∙ fails
