-- A list of places, each with its number; a place may stand in it more than once.
use Rattle.std.specs.Prelude.{◌≡◌, ◌≢◌, ℕ, ◌≤◌, ◌⊎◌, List, [], ◌∷◌, ◌++◌, length, slice_get, Some, AllPairs}
use Rattle.std.specs.Map.{keys_of}
use Rattle.lump_records.specs.declared.records.Vertex.{Vertex}

-- at most 32,767 places, none of them twice
pub record ArePlaces (vs : List Vertex) : Type 0 where
  pub few : length vs ≤ 32767
  pub differ : AllPairs (λ v w. v ≢ w) vs

-- the place stands in the list
abbrev pub IsKnown : List Vertex → Vertex → Type 0
IsKnown vs v = (n : ℕ) × (slice_get vs n ≡ Some v)

-- the place of this number has no lower number
abbrev pub StandsFirst : List Vertex → ℕ → Type 0
StandsFirst vs n = (m : ℕ) (v : Vertex) → slice_get vs m ≡ Some v → slice_get vs n ≡ Some v → n ≤ m

-- the list with a place: a known one leaves it as it was, and a new one goes to its end
abbrev pub IsWithPlace : List Vertex → Vertex → List Vertex → Type 0
IsWithPlace old v new = (IsKnown old v × (new ≡ old))
    ⊎ ((IsKnown old v → ⊥) × (new ≡ old ++ v ∷ []))

-- an index of places with a place and its number: a known one leaves it as it was, and a new one
-- goes to its end
abbrev pub IsNoted : List (Vertex × ℕ) → Vertex → ℕ → List (Vertex × ℕ) → Type 0
IsNoted old v n new =
    (IsKnown (keys_of old) v × (new ≡ old)) ⊎
    ((IsKnown (keys_of old) v → ⊥) × (new ≡ old ++ (v, n) ∷ []))

-- at most 32,767 places, and an index that has each with its lowest number
pub record IsIndexed (vs : List Vertex) (index : List (Vertex × ℕ)) : Type 0 where
  pub few : length vs ≤ 32767
  pub stands : (k n : ℕ) (v : Vertex) → slice_get index k ≡ Some (v, n) → slice_get vs n ≡ Some v
  pub first : (k n : ℕ) (v : Vertex) → slice_get index k ≡ Some (v, n) → StandsFirst vs n
  pub all : (v : Vertex) → IsKnown vs v → IsKnown (keys_of index) v
