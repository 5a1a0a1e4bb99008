-- Payloads that go to the disk together.
use Rattle.std.specs.Prelude.{◌≡◌, ◌≤◌, ℕ, List, [], ◌∷◌, ◌++◌, length}
use Rattle.std.specs.List.{All}
use Rattle.store_journal.specs.Records.{records_bytes}

-- these bytes are the records of these payloads, one behind the other, and a closed gate
pub record IsGroupOf (payloads : List (List ℕ)) (bytes : List ℕ) : Type 0 where
  pub are : bytes ≡ records_bytes payloads ++ 0 ∷ []
  pub short : All (λ payload. length payload ≤ 256) payloads

-- the same of some payloads
abbrev pub IsGroup : List ℕ → Type 0
IsGroup bytes = (payloads : List (List ℕ)) × IsGroupOf payloads bytes
