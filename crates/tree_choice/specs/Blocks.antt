-- The pieces of a list in blocks of sixteen, each with a box round it, and in groups of sixteen blocks.
use Rattle.std.specs.Prelude.{◌≡◌, ◌⊎◌, ℕ, ◌+◌, ◌*◌, ◌<◌, ◌≤◌, List, length, All, take, drop, slice_get, Some, ◌≤ℤ◌}
use Rattle.lump_records.specs.Drawing.{IsCoordinate}
use Rattle.lump_records.specs.declared.records.Bounds.{Bounds}
use Rattle.lump_records.specs.declared.records.Vertex.{Vertex}
use Rattle.tree_pieces.specs.declared.edge.Edge.{Edge}
use Rattle.tree_pieces.specs.declared.piece.Piece.{Piece}
use Rattle.tree_pieces.specs.Boxes.{IsWellIn, HoldsPiece}
use Rattle.tree_pieces.specs.Pieces.{first_end, last_end}
use Rattle.tree_choice.specs.declared.end_boxes.EndBoxes.{EndBoxes}
use Rattle.tree_choice.specs.declared.end_boxes.NotedEnds.{NotedEnds}

-- the second box holds the first
pub record IsWithinBox (a b : Bounds) : Type 0 where
  pub top : a.top ≤ℤ b.top
  pub bottom : b.bottom ≤ℤ a.bottom
  pub left : b.left ≤ℤ a.left
  pub right : a.right ≤ℤ b.right

-- the box holds the place
pub record HoldsPlace (b : Bounds) (v : Vertex) : Type 0 where
  pub top : v.y ≤ℤ b.top
  pub bottom : b.bottom ≤ℤ v.y
  pub left : b.left ≤ℤ v.x
  pub right : v.x ≤ℤ b.right

-- each side of the box is a coordinate that a vertex may have
pub record IsInnerBox (b : Bounds) : Type 0 where
  pub top : IsCoordinate b.top
  pub bottom : IsCoordinate b.bottom
  pub left : IsCoordinate b.left
  pub right : IsCoordinate b.right

-- there are as many boxes as the list has blocks, and each holds the sixteen pieces of its block
pub record AreBlocks (lines : List Edge) (ps : List Piece) (blocks : List Bounds) : Type 0 where
  pub enough : length ps ≤ 16 * length blocks
  pub each_needed : 16 * length blocks < length ps + 16
  pub holds : (k : ℕ) (b : Bounds) → slice_get blocks k ≡ Some b →
      All (HoldsPiece lines b) (take 16 (drop (16 * k) ps))

-- each box holds the pieces of a group of sixteen blocks of the list, the first those of the first group
pub record AreGroups (lines : List Edge) (ps : List Piece) (groups : List Bounds) : Type 0 where
  pub within : 256 * length groups ≤ length ps
  pub holds : (k : ℕ) (b : Bounds) → slice_get groups k ≡ Some b →
      All (HoldsPiece lines b) (take 256 (drop (256 * k) ps))

-- one of the two boxes holds one end of the piece, and the other box the other end
abbrev pub HoldEnds : List Edge → EndBoxes → Piece → Type 0
HoldEnds lines b p =
    (IsWellIn b.west (first_end lines p) × IsWellIn b.east (last_end lines p)) ⊎
    (IsWellIn b.west (last_end lines p) × IsWellIn b.east (first_end lines p))

-- each pair of boxes holds the ends of so many pieces of the list, the first those of the first
-- pieces
abbrev pub HoldAllEnds : ℕ → List Edge → List Piece → List EndBoxes → Type 0
HoldAllEnds size lines ps boxes = (k : ℕ) (b : EndBoxes) → slice_get boxes k ≡ Some b →
    All (HoldEnds lines b) (take size (drop (size * k) ps))

-- the boxes hold the ends of the pieces of blocks, and of groups of sixteen blocks
pub record AreNotedEnds (lines : List Edge) (ps : List Piece) (ends : NotedEnds) : Type 0 where
  pub blocks : HoldAllEnds 16 lines ps ends.blocks.items
  pub groups : HoldAllEnds 256 lines ps ends.groups.items
