-- Payloads in the bytes that hold them, by the places where they end.
use Rattle.std.proofs.Common.{◌≡◌, ◌≢◌, ◌<◌, ◌≤◌, ◌+◌, ◌*◌, ◌-◌, ℕ, zero, suc, List, [], ◌∷◌, ◌++◌, length, take, drop, get_or, None, Some, refl, ◌∙◌, ap, arith, length-append, length-drop}
use Rattle.std.specs.Prelude.{slice_get, slice_range}
use Rattle.std.proofs.Math.Seq.{drop-append_seam}
use Rattle.std.proofs.lemmas.List.{take-append-le, drop-append-le, take_all, length-take}
use Rattle.store_journal.specs.Records.{record_bytes, records_bytes}
use Rattle.store_journal.specs.Payloads.{parts_up_to, RiseTo}
use Rattle.store_journal.proofs.Lengths.{length-record}

pub length-parts : (from : ℕ) (ends bytes : List ℕ) → length (parts_up_to from ends bytes) ≡ length ends
length-parts from [] bytes = refl
length-parts from (end ∷ ends) bytes = ap suc (length-parts end ends bytes)

-- the element in front of a number other than 0, one number further behind another
pub behind-one : (first : ℕ) (xs : List ℕ) (n : ℕ) → n ≢ 0 → get_or (first ∷ xs) n 0 ≡ get_or xs (n - 1) 0
behind-one first xs zero some = absurd (some refl)
behind-one first xs (suc n) some = ap (λ k. get_or xs k 0) (omega arith)

-- each place is at most the last
pub rise-le : (last from : ℕ) (ends : List ℕ) → RiseTo last from ends → from ≤ last
rise-le last from [] r = omega (arith, r)
rise-le last from (end ∷ ends) r = omega (arith, r.0, rise-le last end ends r.1)

-- where the n-th begins and ends
pub start-le : (last from : ℕ) (ends : List ℕ) (n : ℕ) → RiseTo last from ends → n < length ends
    → (get_or (from ∷ ends) n 0 ≤ get_or ends n 0) × (get_or ends n 0 ≤ last)
start-le last from [] n r h = absurd (omega arith)
start-le last from (end ∷ ends) zero r h = (r.0, rise-le last end ends r.1)
start-le last from (end ∷ ends) (suc n) r h = start-le last end ends n r.1 (omega arith)

pub nth-part : (from : ℕ) (ends bytes : List ℕ) (n : ℕ) → n < length ends
    → slice_get (parts_up_to from ends bytes) n ≡ Some (slice_range bytes (get_or (from ∷ ends) n 0) (get_or ends n 0))
nth-part from [] bytes n h = absurd (omega arith)
nth-part from (end ∷ ends) bytes zero h = refl
nth-part from (end ∷ ends) bytes (suc n) h = nth-part end ends bytes n (omega arith)

pub none-behind : (from : ℕ) (ends bytes : List ℕ) (n : ℕ) → length ends ≤ n → slice_get (parts_up_to from ends bytes) n ≡ None
none-behind from [] bytes n h = refl
none-behind from (end ∷ ends) bytes zero h = absurd (omega arith)
none-behind from (end ∷ ends) bytes (suc n) h = none-behind end ends bytes n (omega arith)

length-range : (bytes : List ℕ) (from end : ℕ) → from ≤ end → end ≤ length bytes → length (slice_range bytes from end) ≡ end - from
length-range bytes from end l h = length-take (end - from) (drop from bytes) ∙ omega (arith, length-drop from bytes)

-- how long the records of the first n are
pub length-first : (from : ℕ) (ends bytes : List ℕ) (n : ℕ) → RiseTo (length bytes) from ends → n ≤ length ends
    → from + length (records_bytes (take n (parts_up_to from ends bytes))) ≡ get_or (from ∷ ends) n 0 + 5 * n
length-first from ends bytes zero r h = omega arith
length-first from [] bytes (suc n) r h = absurd (omega arith)
length-first from (end ∷ ends) bytes (suc n) r h =
    let part = slice_range bytes from end in
    let rest = records_bytes (take n (parts_up_to end ends bytes)) in
    let one = length-range bytes from end r.0 (rise-le (length bytes) end ends r.1) in
    let le = r.0 in
    omega (arith, length-append (record_bytes part) rest, length-record part, one, le, length-first end ends bytes n r.1 (omega arith))

range-append : (bytes more : List ℕ) (from end : ℕ) → from ≤ end → end ≤ length bytes → slice_range (bytes ++ more) from end ≡ slice_range bytes from end
range-append bytes more from end l h =
    ap (take (end - from)) (drop-append-le from bytes more (omega arith))
    ∙ take-append-le (end - from) (drop from bytes) more (omega (arith, length-drop from bytes))

range-last : (bytes more : List ℕ) → slice_range (bytes ++ more) (length bytes) (length (bytes ++ more)) ≡ more
range-last bytes more =
    ap (take (length (bytes ++ more) - length bytes)) (drop-append_seam bytes more)
    ∙ take_all (length (bytes ++ more) - length bytes) more (omega (arith, length-append bytes more))

-- one more payload
pub parts-push : (from : ℕ) (ends bytes more : List ℕ) → RiseTo (length bytes) from ends
    → parts_up_to from (ends ++ length (bytes ++ more) ∷ []) (bytes ++ more) ≡ parts_up_to from ends bytes ++ more ∷ []
parts-push from [] bytes more r = ap (λ k. slice_range (bytes ++ more) k (length (bytes ++ more)) ∷ []) r ∙ ap (λ l. l ∷ []) (range-last bytes more)
parts-push from (end ∷ ends) bytes more r =
    ap (λ l. l ∷ parts_up_to end (ends ++ length (bytes ++ more) ∷ []) (bytes ++ more)) (range-append bytes more from end r.0 (rise-le (length bytes) end ends r.1))
    ∙ ap (λ ls. slice_range bytes from end ∷ ls) (parts-push end ends bytes more r.1)

pub rise-push : (from : ℕ) (ends bytes more : List ℕ) → RiseTo (length bytes) from ends
    → RiseTo (length (bytes ++ more)) from (ends ++ length (bytes ++ more) ∷ [])
rise-push from [] bytes more r = (omega (arith, r, length-append bytes more), refl)
rise-push from (end ∷ ends) bytes more r = (r.0, rise-push end ends bytes more r.1)
