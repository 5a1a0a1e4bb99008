-- The least box of places, one after the other.
use Rattle.std.specs.Prelude.{◌≡◌, ◌⊎◌, ◌≤ℤ◌, ◌<◌, ℕ, List, slice_get, Some}
use Rattle.lump_records.specs.declared.records.Vertex.{Vertex}
use Rattle.lump_records.specs.declared.records.Bounds.{Bounds}
use Rattle.tree_pieces.specs.declared.edge.Edge.{Edge}
use Rattle.tree_pieces.specs.declared.piece.Piece.{Piece}
use Rattle.tree_pieces.specs.Pieces.{first_end, last_end}

-- the box of one place
pub record IsBoxAt (b : Bounds) (v : Vertex) : Type 0 where
  pub top : b.top ≡ v.y
  pub bottom : b.bottom ≡ v.y
  pub left : b.left ≡ v.x
  pub right : b.right ≡ v.x

-- the third box is the least one that holds the first two
pub record IsJoined (a b c : Bounds) : Type 0 where
  pub top_first : a.top ≤ℤ c.top
  pub top_second : b.top ≤ℤ c.top
  pub top : (c.top ≡ a.top) ⊎ (c.top ≡ b.top)
  pub bottom_first : c.bottom ≤ℤ a.bottom
  pub bottom_second : c.bottom ≤ℤ b.bottom
  pub bottom : (c.bottom ≡ a.bottom) ⊎ (c.bottom ≡ b.bottom)
  pub left_first : c.left ≤ℤ a.left
  pub left_second : c.left ≤ℤ b.left
  pub left : (c.left ≡ a.left) ⊎ (c.left ≡ b.left)
  pub right_first : a.right ≤ℤ c.right
  pub right_second : b.right ≤ℤ c.right
  pub right : (c.right ≡ a.right) ⊎ (c.right ≡ b.right)

-- a place is a rounded end of the piece
abbrev pub IsOneEnd : List Edge → Piece → Vertex → Type 0
IsOneEnd lines p v = (v ≡ first_end lines p) ⊎ (v ≡ last_end lines p)

-- a place is one of these two
abbrev pub IsEither : Vertex → Vertex → Vertex → Type 0
IsEither first last v = (v ≡ first) ⊎ (v ≡ last)

-- a place stands in one of two columns
abbrev pub StandsInOne : List Vertex → List Vertex → Vertex → Type 0
StandsInOne firsts lasts v = (j : ℕ)
    × ((slice_get firsts j ≡ Some v) ⊎ (slice_get lasts j ≡ Some v))

-- it is the first of its column, or one of the first n
abbrev pub StandsBefore : List Vertex → List Vertex → ℕ → Vertex → Type 0
StandsBefore firsts lasts n v = (j : ℕ) × ((j ≡ 0) ⊎ (j < n))
    × ((slice_get firsts j ≡ Some v) ⊎ (slice_get lasts j ≡ Some v))
