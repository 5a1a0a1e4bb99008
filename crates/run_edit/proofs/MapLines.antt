-- The lines that tell of the maps, one after another.
use Rattle.std.proofs.Common.{◌≡◌, ◌∙◌, ◌+◌, ◌<◌, ◌++◌, ℕ, List, [], ◌∷◌, Option, Some, None, Result, Ok, Err, OnOk, length, get_or, take, sym, ap, subst, arith, append_assoc, append-nil}
use Rattle.std.specs.Prelude.{slice_get}
use Rattle.std.specs.Io.KnownBytes.{Appends}
use Rattle.std.proofs.lemmas.List.{length-take-le, take_more}
use Rattle.std.proofs.lemmas.Option.{slice_get-get_or}
use Rattle.map_tables.specs.Tables.{Tables, empty_tables}
use Rattle.run_edit.specs.Texts.{map_line, map_lines}
use Rattle.run_edit.proofs.Going.{Appends-append}

-- the line of one map more
lines_push : (n : ℕ) (ms : List Tables) (m : Tables) → map_lines n (ms ++ m ∷ []) ≡ map_lines n ms ++ map_line (n + length ms) m
lines_push n [] m =
    let same : n ≡ n + 0 = omega arith in
    append-nil (map_line n m) ∙ ap (λ (k : ℕ). map_line k m) same
lines_push n (x ∷ ms) m =
    let same : (n + 1) + length ms ≡ n + length (x ∷ ms) = omega arith in
    ap (λ (t : List ℕ). map_line n x ++ t) (lines_push (n + 1) ms m)
    ∙ sym (append_assoc (map_line n x) (map_lines (n + 1) ms) (map_line ((n + 1) + length ms) m))
    ∙ ap (λ (k : ℕ). map_lines n (x ∷ ms) ++ map_line k m) same

lines_more : (ms : List Tables) (n : ℕ) → n < length ms → map_lines 0 (take (n + 1) ms) ≡ map_lines 0 (take n ms) ++ map_line n (get_or ms n empty_tables)
lines_more ms n within =
    let short : length (take n ms) ≡ n = length-take-le n ms (omega arith) in
    let so_far : 0 + length (take n ms) ≡ n = omega arith in
    ap (map_lines 0) (take_more ms n empty_tables within) ∙ lines_push 0 (take n ms) (get_or ms n empty_tables)
    ∙ ap (λ (k : ℕ). map_lines 0 (take n ms) ++ map_line k (get_or ms n empty_tables)) so_far

-- the map of a number is one map
pub nth_told : {U E : Type 0} (r : Result U E) (o : Option Tables) (n : ℕ) (t : Tables) (u w : Option (List ℕ)) → o ≡ Some t
    → OnOk r (Appends u w (map_line n t)) → OnOk r ((m : Tables) → o ≡ Some m → Appends u w (map_line n m))
nth_told (Ok x) o n t u w is told = λ m at.
    let same : t ≡ m = cc in
    subst (λ (k : Tables). Appends u w (map_line n k)) same told
nth_told (Err e) o n t u w is told = told

-- one line more was written
pub each_told : (ms : List Tables) (n : ℕ) (u w x : Option (List ℕ)) → n < length ms → Appends u w (map_lines 0 (take n ms))
    → ((m : Tables) → slice_get ms n ≡ Some m → Appends w x (map_line n m)) → Appends u x (map_lines 0 (take (n + 1) ms))
each_told ms n u w x within before line =
    subst (λ (t : List ℕ). Appends u x t) (sym (lines_more ms n within))
    (Appends-append u w x (map_lines 0 (take n ms)) (map_line n (get_or ms n empty_tables)) before
    (line (get_or ms n empty_tables) (slice_get-get_or ms n empty_tables within)))

-- no map has a number where none stands
pub no_nth : (o : Option Tables) (m : Tables) → o ≡ None → o ≡ Some m → ⊥
no_nth o m none some = cc
