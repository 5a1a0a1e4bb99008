-- The rounded ends of the pieces of a list, and the corners of boxes, in columns.
use Rattle.std.specs.Prelude.{◌≡◌, ◌≤◌, ℕ, List, length, map, take}
use Rattle.lump_records.specs.declared.records.Bounds.{Bounds}
use Rattle.lump_records.specs.declared.records.Vertex.{Vertex}
use Rattle.lump_records.specs.declared.plane.Ray.{Ray}
use Rattle.tree_pieces.specs.declared.edge.Edge.{Edge}
use Rattle.tree_pieces.specs.declared.piece.Piece.{Piece}
use Rattle.tree_pieces.specs.Pieces.{first_end, last_end}
use Rattle.tree_choice.specs.Sights.{low_corner, high_corner}
use Rattle.tree_choice.specs.declared.corner_columns.BoxColumns.{BoxColumns}
use Rattle.tree_choice.specs.declared.ends.EndedList.{EndedList}

-- the columns hold the ends of each piece, in the list's order
pub record AreEnds (lines : List Edge) (ps : List Piece) (firsts lasts : List Vertex) : Type 0 where
  pub firsts_are : firsts ≡ map (first_end lines) ps
  pub lasts_are : lasts ≡ map (last_end lines) ps

-- so do those of the list
abbrev pub IsEnded : List Edge → EndedList → Type 0
IsEnded lines list = AreEnds lines list.pieces.items list.firsts.items list.lasts.items

-- ---- boxes
-- the four corners of a box
abbrev pub left_top : Bounds → Vertex
left_top b = record { x = b.left; y = b.top }

abbrev pub left_bottom : Bounds → Vertex
left_bottom b = record { x = b.left; y = b.bottom }

abbrev pub right_top : Bounds → Vertex
right_top b = record { x = b.right; y = b.top }

abbrev pub right_bottom : Bounds → Vertex
right_bottom b = record { x = b.right; y = b.bottom }

-- the heads of the columns hold the corners of each box, in the list's order
pub record HoldsBoxes (boxes : List Bounds) (columns : BoxColumns) : Type 0 where
  pub left_tops : take (length boxes) columns.left_top.items ≡ map left_top boxes
  pub left_bottoms : take (length boxes) columns.left_bottom.items ≡ map left_bottom boxes
  pub right_tops : take (length boxes) columns.right_top.items ≡ map right_top boxes
  pub right_bottoms : take (length boxes) columns.right_bottom.items ≡ map right_bottom boxes

-- each column has so many places, or more
pub record IsLongEnough (columns : BoxColumns) (n : ℕ) : Type 0 where
  pub left_tops : n ≤ length columns.left_top.items
  pub left_bottoms : n ≤ length columns.left_bottom.items
  pub right_tops : n ≤ length columns.right_top.items
  pub right_bottoms : n ≤ length columns.right_bottom.items

-- the columns hold the two corners of each box by the ray, that with the least and that with the
-- greatest side value
pub record AreCorners (r : Ray) (boxes : List Bounds) (lows highs : List Vertex) : Type 0 where
  pub lows_are : lows ≡ map (low_corner r) boxes
  pub highs_are : highs ≡ map (high_corner r) boxes
