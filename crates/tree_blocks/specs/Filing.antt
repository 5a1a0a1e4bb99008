-- The lists of the blocks while they are filled: the lists to which a line's number is appended.
use Rattle.std.specs.Prelude.{◌≡◌, ℕ, ◌/◌, ◌%◌, ◌<◌, ◌≤◌, ◌⊎◌, List, [], ◌∷◌, ◌++◌, length, get_or}

-- the line was appended to the list if T holds, otherwise the list is unchanged
abbrev pub Filed : Type 0 → ℕ → List ℕ → List ℕ → Type 0
Filed T line old new = (T × (new ≡ old ++ line ∷ [])) ⊎ ((T → ⊥) × (new ≡ old))

-- the line was appended to the lists of the blocks for which T holds, the other lists are unchanged
pub record Files (T : ℕ → Type 0) (line : ℕ) (old new : List (List ℕ)) : Type 0 where
  pub count : length new ≡ length old
  pub each : (n : ℕ) → n < length old → Filed (T n) line (get_or old n []) (get_or new n [])

-- the block is in this column, in a row from `low` on and below `end`
abbrev pub InColumn : ℕ → ℕ → ℕ → ℕ → ℕ → Type 0
InColumn columns column low end n =
    (n % columns ≡ column) × (low ≤ n / columns) × (n / columns < end)
