-- A record of calls with one more call.
use Rattle.std.proofs.Common.{◌≡◌, ◌<◌, ◌≤◌, ◌+◌, ◌*◌, ℕ, List, [], ◌∷◌, ◌++◌, length, take, drop, set, refl, sym, ◌∙◌, ap, arith, length-append, length-take, length-drop, append_assoc}
use Rattle.std.proofs.lemmas.List.{take_all, take-append-le, drop-append-le, take_more_set, take_at, nil_from_length}
use Rattle.std.specs.List.{list_any}
use Rattle.store_disk.specs.Medium.{Call, Wrote, Synced, is_in, size_of}
use Rattle.store_disk.specs.Entries.{made_by, bytes_of_all, ranges_of, has_place}
use Rattle.store_disk.specs.declared.entry.Entry.{Entry}
use Rattle.store_disk.specs.declared.entry.Entry.TheVariants.{Write, Sync}
use Rattle.store_disk.proofs.Overwriting.{put}

made_by-write : (es : List Entry) (d x : List ℕ) (at : ℕ) → bytes_of_all es ≡ length d → made_by (es ++ Write at (length x) ∷ []) (d ++ x) ≡ made_by es d ++ Wrote at x ∷ []
made_by-write [] d x at sum =
    let none : d ≡ [] = nil_from_length d (sym sum) in
    ap (λ (l : List ℕ). made_by (Write at (length x) ∷ []) (l ++ x)) none ∙ ap (λ (l : List ℕ). Wrote at l ∷ []) (take_all (length x) x (omega arith))
made_by-write (Write a s ∷ es) d x at sum =
    let short : s ≤ length d = omega (arith, sum) in
    let rest = made_by-write es (drop s d) x at (omega (arith, sum, length-drop s d)) in
    ap (λ (l : List ℕ). Wrote a l ∷ made_by (es ++ Write at (length x) ∷ []) (drop s (d ++ x))) (take-append-le s d x short)
    ∙ ap (λ (l : List ℕ). Wrote a (take s d) ∷ made_by (es ++ Write at (length x) ∷ []) l) (drop-append-le s d x short) ∙ ap (λ (cs : List Call). Wrote a (take s d) ∷ cs) rest
made_by-write (Sync ∷ es) d x at sum = ap (λ (cs : List Call). Synced ∷ cs) (made_by-write es d x at sum)

made_by-sync : (es : List Entry) (d : List ℕ) → made_by (es ++ Sync ∷ []) d ≡ made_by es d ++ Synced ∷ []
made_by-sync [] d = refl
made_by-sync (Write a s ∷ es) d = ap (λ (cs : List Call). Wrote a (take s d) ∷ cs) (made_by-sync es (drop s d))
made_by-sync (Sync ∷ es) d = ap (λ (cs : List Call). Synced ∷ cs) (made_by-sync es d)

bytes_of_all-push : (es : List Entry) (e : Entry) → bytes_of_all (es ++ e ∷ []) ≡ bytes_of_all es + bytes_of_all (e ∷ [])
bytes_of_all-push [] e = omega arith
bytes_of_all-push (Write a s ∷ es) e = omega (arith, bytes_of_all-push es e)
bytes_of_all-push (Sync ∷ es) e = bytes_of_all-push es e

ranges_of-push : (es : List Entry) (e : Entry) → ranges_of (es ++ e ∷ []) ≡ ranges_of es ++ ranges_of (e ∷ [])
ranges_of-push [] e = refl
ranges_of-push (Write a s ∷ es) e = ap (λ (rs : List (ℕ × ℕ)). (a, s) ∷ rs) (ranges_of-push es e)
ranges_of-push (Sync ∷ es) e = ranges_of-push es e

size_of-made_by : (es : List Entry) (d : List ℕ) → bytes_of_all es ≡ length d → size_of (made_by es d) ≡ 16 * length es + length d
size_of-made_by [] d sum = omega (arith, sum)
size_of-made_by (Write a s ∷ es) d sum =
    omega (arith, sum, length-take s d, length-drop s d, size_of-made_by es (drop s d) (omega (arith, sum, length-drop s d)))
size_of-made_by (Sync ∷ es) d sum = omega (arith, size_of-made_by es d sum)

-- whether an offset was written, by the entries and by their ranges
pub list_any-has_place : (i : ℕ) (es : List Entry) → list_any (has_place i) es ≡ list_any (is_in i) (ranges_of es)
list_any-has_place i [] = refl
list_any-has_place i (Write a s ∷ es) = cc (list_any-has_place i es)
list_any-has_place i (Sync ∷ es) = list_any-has_place i es

module _ (entries : List Entry) (count : ℕ) (written : List ℕ) (used : ℕ) (sum : bytes_of_all (take count entries) ≡ used) where
  pub size_is : count ≤ length entries → used ≤ length written → size_of (made_by (take count entries) (take used written)) ≡ 16 * count + used
  size_is some fits =
      let long : length (take used written) ≡ used = omega (arith, length-take used written, fits) in
      omega (arith, long, length-take count entries, size_of-made_by (take count entries) (take used written) (sum ∙ sym long))

  module _ (lt : count < length entries) where
    pub total_more : (e : Entry) → bytes_of_all (take (count + 1) (set entries count e)) ≡ used + bytes_of_all (e ∷ [])
    total_more e = ap bytes_of_all (take_more_set entries count e lt) ∙ omega (arith, bytes_of_all-push (take count entries) e, sum)

    pub ranges_more : (since : ℕ) (e : Entry) → since ≤ count → ranges_of (drop since (take (count + 1) (set entries count e))) ≡ ranges_of (drop since (take count entries)) ++ ranges_of (e ∷ [])
    ranges_more since e le =
        let some : since ≤ length (take count entries) = omega (arith, length-take count entries, le, lt) in
        ap (λ (es : List Entry). ranges_of (drop since es)) (take_more_set entries count e lt)
        ∙ ap ranges_of (drop-append-le since (take count entries) (e ∷ []) some) ∙ ranges_of-push (drop since (take count entries)) e

    pub written_more : (at : ℕ) (x : List ℕ) → used + length x ≤ length written
        → made_by (take (count + 1) (set entries count (Write at (length x)))) (take (used + length x) (put used x written)) ≡ made_by (take count entries) (take used written) ++ Wrote at x ∷ []
    written_more at x fits =
        let size : length (take used written) ≡ used = omega (arith, length-take used written, fits) in
        let front : take (used + length x) (put used x written) ≡ take used written ++ x =
        ap (λ (l : List ℕ). take (used + length x) l) (sym (append_assoc (take used written) x (drop (length x) (drop used written))))
        ∙ take_at (take used written ++ x) (drop (length x) (drop used written)) (used + length x) (omega (arith, size, length-append (take used written) x)) in
        ap (λ (es : List Entry). made_by es (take (used + length x) (put used x written))) (take_more_set entries count (Write at (length x)) lt)
        ∙ ap (λ (d : List ℕ). made_by (take count entries ++ Write at (length x) ∷ []) d) front
        ∙ made_by-write (take count entries) (take used written) x at (sum ∙ sym size)

    pub synced_more : made_by (take (count + 1) (set entries count Sync)) (take used written) ≡ made_by (take count entries) (take used written) ++ Synced ∷ []
    synced_more = ap (λ (es : List Entry). made_by es (take used written)) (take_more_set entries count Sync lt) ∙ made_by-sync (take count entries) (take used written)
