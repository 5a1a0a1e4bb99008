-- The numbering of places: a known one has its lowest number, and a new one goes to the end.
use Rattle.std.specs.Prelude.{◌≡◌, ℕ, ◌+◌, ◌<◌, ◌≤◌, ◌⊎◌, List, ◌++◌, length, slice_get, Some, All}
use Rattle.lump_records.specs.declared.records.Vertex.{Vertex}
use Rattle.lump_records.specs.declared.records.Seg.{Seg}
use Rattle.tree_pieces.specs.declared.edge.Edge.{Edge}
use Rattle.tree_pieces.specs.declared.piece.Piece.{Piece}
use Rattle.tree_pieces.specs.Places.{IsKnown, StandsFirst}
use Rattle.tree_pieces.specs.Segs.{NamesFirst}
use Rattle.tree_nodes.specs.declared.error.TreeError.{TreeError}
use Rattle.tree_nodes.specs.declared.error.TreeError.TheVariants.{OutOfMemory, NothingToBuild, TooManyVertices, TooManySegs, TooManySubsectors, TooDeep}
use Rattle.tree_nodes.specs.InRange.{greatest_number}
use Rattle.tree_nodes.specs.References.{IsNumber}
use Rattle.tree_nodes.specs.TreeLists.{IsSegOf, IsEndOf}
use Rattle.tree_nodes.specs.Sound.{AreNew, AddsEnds, HaveEnds}
use Rattle.tree_nodes.specs.Corners.{IsOneEnd}

-- ---- one place
-- the number of a place, in a list that has gained it if it was not there
pub record IsNumbered (old new : List Vertex) (v : Vertex) (n : ℕ) : Type 0 where
  pub added : List Vertex
  pub grown : new ≡ old ++ added
  pub stands : slice_get new n ≡ Some v
  pub first : StandsFirst new n
  pub only : (m : ℕ) → length old ≤ m → m < length new → n ≡ m
  pub new_places : AreNew old added
  pub few : length new ≤ greatest_number

-- the place is new, and there is no number left
abbrev pub IsPlaceRefused : List Vertex → Vertex → TreeError → Type 0
IsPlaceRefused old v TooManyVertices = (greatest_number ≤ length old) × (IsKnown old v → ⊥)
IsPlaceRefused old v OutOfMemory = Unit {0}
IsPlaceRefused old v NothingToBuild = ⊥
IsPlaceRefused old v TooManySegs = ⊥
IsPlaceRefused old v TooManySubsectors = ⊥
IsPlaceRefused old v TooDeep = ⊥

-- ---- the ends of one seg
-- the seg's ends have numbers, and what the list has gained are its ends, the first one first
pub record HasNumbers (old new : List Vertex) (s : Seg) : Type 0 where
  pub added : List Vertex
  pub grown : new ≡ old ++ added
  pub first : IsNumber (length new) s.first
  pub second : IsNumber (length new) s.second
  pub ends : (m : ℕ) → length old ≤ m → m < length new → (s.first ≡ m) ⊎ (s.second ≡ m)
  pub first_next : s.first ≤ length old
  pub second_next : (m : ℕ) → length old ≤ m → s.second ≡ m + 1 → s.first ≡ m
  pub firsts : NamesFirst new s
  pub new_places : AreNew old added
  pub few : length new ≤ greatest_number

-- the places and ends of the piece that are new are more than there are numbers
pub record HasMore (lines : List Edge) (old : List Vertex) (p : Piece) : Type 0 where
  pub added : List Vertex
  pub many : greatest_number < length old + length added
  pub new_places : AreNew old added
  pub each : (n : ℕ) (v : Vertex) → slice_get added n ≡ Some v → IsOneEnd lines p v

abbrev pub IsSegRefused : List Edge → List Vertex → Piece → TreeError → Type 0
IsSegRefused lines old p TooManyVertices = HasMore lines old p
IsSegRefused lines old p OutOfMemory = Unit {0}
IsSegRefused lines old p NothingToBuild = ⊥
IsSegRefused lines old p TooManySegs = ⊥
IsSegRefused lines old p TooManySubsectors = ⊥
IsSegRefused lines old p TooDeep = ⊥

-- ---- the ends of all segs
-- the segs of the first pieces, whose ends are numbered behind the drawn places
pub record AreNumbered (lines : List Edge) (drawn vertices : List Vertex) (ps : List Piece)
    (segs : List Seg) : Type 0 where
  pub each : (i : ℕ) (p : Piece) (s : Seg) → slice_get ps i ≡ Some p → slice_get segs i ≡ Some s
      → IsSegOf lines vertices p s
  pub ends : HaveEnds vertices segs
  pub added : AddsEnds drawn vertices segs
  pub firsts : All (NamesFirst vertices) segs
  pub few : length vertices ≤ greatest_number

-- the drawn places and ends of the pieces that are new are more than there are numbers
pub record HaveMore (lines : List Edge) (drawn : List Vertex) (ps : List Piece) : Type 0 where
  pub added : List Vertex
  pub many : greatest_number < length drawn + length added
  pub new_places : AreNew drawn added
  pub each : (n : ℕ) (v : Vertex) → slice_get added n ≡ Some v → IsEndOf lines ps v

abbrev pub AreSegsRefused : List Edge → List Vertex → List Piece → TreeError → Type 0
AreSegsRefused lines drawn ps TooManyVertices = HaveMore lines drawn ps
AreSegsRefused lines drawn ps OutOfMemory = Unit {0}
AreSegsRefused lines drawn ps NothingToBuild = ⊥
AreSegsRefused lines drawn ps TooManySegs = ⊥
AreSegsRefused lines drawn ps TooManySubsectors = ⊥
AreSegsRefused lines drawn ps TooDeep = ⊥
