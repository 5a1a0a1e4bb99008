-- The bytes of groups.
use Rattle.std.proofs.Common.{◌≡◌, ◌<◌, ◌≤◌, ◌+◌, ◌-◌, ℕ, List, [], ◌∷◌, ◌++◌, length, get_or, set, sym, ◌∙◌, ap, arith, length-append, append_assoc}
use Rattle.std.proofs.lemmas.List.{append-nil, set_at}
use Rattle.std.proofs.lemmas.List.Elements.{All-nil, All-push}
use Rattle.std.specs.Int.{to_le_bytes, w32}
use Rattle.store_journal.specs.Records.{record_bytes, records_bytes}
use Rattle.store_journal.specs.Groups.{IsGroupOf}
use Rattle.store_journal.proofs.Lengths.{length-record, records_bytes-push}

-- the payload's record but for its gate, and the next gate
abbrev pub block : List ℕ → List ℕ
block payload = to_le_bytes w32 (length payload) ++ payload ++ 0 ∷ []

-- with its gate
record-block : (payload : List ℕ) → record_bytes payload ++ 0 ∷ [] ≡ 165 ∷ block payload
record-block payload = ap (λ (l : List ℕ). 165 ∷ l) (append_assoc (to_le_bytes w32 (length payload)) payload (0 ∷ []))

pub length-group : (payloads : List (List ℕ)) (bytes : List ℕ) → IsGroupOf payloads bytes → length bytes ≡ length (records_bytes payloads) + 1
length-group payloads bytes is = ap length is.are ∙ length-append (records_bytes payloads) (0 ∷ [])

-- a group that begins with an open gate has more than that gate
pub some_behind : (payloads : List (List ℕ)) (behind : List ℕ) → IsGroupOf payloads (165 ∷ behind) → 0 < length behind
some_behind [] behind is = let first : 165 ≡ 0 = ap (λ (l : List ℕ). get_or l 0 0) is.are in absurd (omega (arith, first))
some_behind (p ∷ payloads) behind is =
    omega (arith, length-group (p ∷ payloads) (165 ∷ behind) is, length-append (record_bytes p) (records_bytes payloads), length-record p)

-- one payload
pub one_group : (payload : List ℕ) → length payload ≤ 256 → IsGroupOf (payload ∷ []) (165 ∷ block payload)
one_group payload short = record {
  are = sym (ap (λ (l : List ℕ). l ++ 0 ∷ []) (append-nil (record_bytes payload)) ∙ record-block payload);
  short = All-push (λ (p : List ℕ). length p ≤ 256) [] payload (All-nil (λ (p : List ℕ). length p ≤ 256)) short;
}

-- one payload more: its block behind the closed gate, which is opened
pub group_push : (payloads : List (List ℕ)) (payload bytes new : List ℕ) → length payload ≤ 256 → IsGroupOf payloads bytes
    → new ≡ set (bytes ++ block payload) (length bytes - 1) 165 → IsGroupOf (payloads ++ payload ∷ []) new
group_push payloads payload bytes new short is new_is =
    let all = records_bytes payloads in
    let at : length all ≡ length bytes - 1 = omega (arith, length-group payloads bytes is) in
    let longer : bytes ++ block payload ≡ all ++ 0 ∷ block payload = ap (λ (l : List ℕ). l ++ block payload) is.are ∙ append_assoc all (0 ∷ []) (block payload) in
    let whole : records_bytes (payloads ++ payload ∷ []) ++ 0 ∷ [] ≡ all ++ 165 ∷ block payload =
    ap (λ (l : List ℕ). l ++ 0 ∷ []) (records_bytes-push payloads payload) ∙ append_assoc all (record_bytes payload) (0 ∷ []) ∙ ap (λ (l : List ℕ). all ++ l) (record-block payload) in
    record {
      are = new_is ∙ ap (λ (l : List ℕ). set l (length bytes - 1) 165) longer ∙ set_at all 0 (block payload) 165 (length bytes - 1) at ∙ sym whole;
      short = All-push (λ (p : List ℕ). length p ≤ 256) payloads payload is.short short;
    }
