-- How many bytes the records of payloads take.
use Rattle.std.proofs.Common.{◌≡◌, ◌≤◌, ◌+◌, ℕ, List, [], ◌∷◌, ◌++◌, length, take, drop, refl, sym, ◌∙◌, ap, arith, length-append, append_assoc}
use Rattle.std.proofs.lemmas.List.{append-nil, take-append-drop}
use Rattle.std.specs.Int.{to_le_bytes, w32}
use Rattle.store_journal.specs.Records.{record_bytes, records_bytes}

pub length-record : (payload : List ℕ) → length (record_bytes payload) ≡ length payload + 5
length-record payload = omega (arith, length-append (to_le_bytes w32 (length payload)) payload)

pub records_bytes-append : (ps qs : List (List ℕ)) → records_bytes (ps ++ qs) ≡ records_bytes ps ++ records_bytes qs
records_bytes-append [] qs = refl
records_bytes-append (p ∷ ps) qs = ap (λ (l : List ℕ). record_bytes p ++ l) (records_bytes-append ps qs) ∙ sym (append_assoc (record_bytes p) (records_bytes ps) (records_bytes qs))

pub records_bytes-push : (ps : List (List ℕ)) (p : List ℕ) → records_bytes (ps ++ p ∷ []) ≡ records_bytes ps ++ record_bytes p
records_bytes-push ps p = records_bytes-append ps (p ∷ []) ∙ ap (λ (l : List ℕ). records_bytes ps ++ l) (append-nil (record_bytes p))

pub length-push : (ps : List (List ℕ)) (p : List ℕ) → length (records_bytes (ps ++ p ∷ [])) ≡ length (records_bytes ps) + 5 + length p
length-push ps p = ap length (records_bytes-push ps p) ∙ omega (arith, length-append (records_bytes ps) (record_bytes p), length-record p)

pub length-take : (ps : List (List ℕ)) (n : ℕ) → length (records_bytes (take n ps)) ≤ length (records_bytes ps)
length-take ps n =
    let whole : records_bytes ps ≡ records_bytes (take n ps) ++ records_bytes (drop n ps) = ap records_bytes (sym (take-append-drop n ps)) ∙ records_bytes-append (take n ps) (drop n ps) in
    omega (arith, ap length whole, length-append (records_bytes (take n ps)) (records_bytes (drop n ps)))
