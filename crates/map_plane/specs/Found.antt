-- The items of a list that are looked for by a test, and where a thing stands.
use Rattle.std.specs.Prelude.{◌≡◌, ℕ, Bool, true, false, List, Option, slice_get, take, MatchOption}
use Rattle.std.specs.List.{list_any}
use Rattle.std.specs.Option.{option_map_or}
use Rattle.lump_records.specs.Things.{thing_place}
use Rattle.lump_records.specs.declared.records.Thing.{Thing}
use Rattle.lump_records.specs.declared.records.Vertex.{Vertex}
use Rattle.map_plane.specs.Meeting.{is_at}

-- item n passes the test, and none before it does
pub record IsFirstOf {X : Type 0} (test : X → Bool) (xs : List X) (n : ℕ) : Type 0 where
  pub passes : option_map_or test (slice_get xs n) false ≡ true
  pub first : list_any test (take n xs) ≡ false

-- the number is the least whose item passes the test, or no item does
abbrev pub IsLeastOf : {X : Type 0} → (X → Bool) → List X → Option ℕ → Type 0
IsLeastOf test xs found = MatchOption found (list_any test xs ≡ false) (IsFirstOf test xs)

-- a thing stands at the place
abbrev pub stands_at : Vertex → Thing → Bool
stands_at p t = is_at p (thing_place t)
