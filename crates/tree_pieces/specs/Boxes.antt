-- Boxes round pieces, and the side of a ray on which a whole box lies.
use Rattle.std.specs.Prelude.{if◌then◌else◌, ℤ, pos, ◌-ℤ◌, ◌*ℤ◌, ◌≤ℤ◌, ◌<ℤ◌, int_le, List}
use Rattle.std.specs.Int.{int_min, int_max}
use Rattle.lump_records.specs.declared.records.Vertex.{Vertex}
use Rattle.lump_records.specs.declared.records.Bounds.{Bounds}
use Rattle.lump_records.specs.declared.plane.Ray.{Ray}
use Rattle.tree_pieces.specs.declared.edge.Edge.{Edge}
use Rattle.tree_pieces.specs.declared.piece.Piece.{Piece}
use Rattle.tree_pieces.specs.Pieces.{first_end, last_end}

-- the least and the greatest of a number times what lies from low to high
abbrev pub least_times : ℤ → ℤ → ℤ → ℤ
least_times k low high = (if int_le (pos 0) k then k *ℤ low else k *ℤ high)

abbrev pub greatest_times : ℤ → ℤ → ℤ → ℤ
greatest_times k low high = (if int_le (pos 0) k then k *ℤ high else k *ℤ low)

-- the side value of a ray's origin, taken off
abbrev pub ray_offset : Ray → ℤ
ray_offset r = r.dy *ℤ r.start.x -ℤ r.dx *ℤ r.start.y

-- the least side value in a box, and the greatest
abbrev pub least_value : Ray → Bounds → ℤ
least_value r b =
    least_times r.dy b.left b.right -ℤ greatest_times r.dx b.bottom b.top -ℤ ray_offset r

-- the greatest side value of a place in the box
abbrev pub greatest_value : Ray → Bounds → ℤ
greatest_value r b =
    greatest_times r.dy b.left b.right -ℤ least_times r.dx b.bottom b.top -ℤ ray_offset r

-- the place lies in the box, a whole step or more from each of its sides
pub record IsWellIn (b : Bounds) (v : Vertex) : Type 0 where
  pub left : b.left <ℤ v.x
  pub right : v.x <ℤ b.right
  pub bottom : b.bottom <ℤ v.y
  pub top : v.y <ℤ b.top

-- so do both rounded ends of a piece
pub record HoldsPiece (lines : List Edge) (b : Bounds) (p : Piece) : Type 0 where
  pub first : IsWellIn b (first_end lines p)
  pub last : IsWellIn b (last_end lines p)

-- ---- the box of a line
-- the place lies in the box of the line's ends
pub record IsInBox (e : Edge) (v : Vertex) : Type 0 where
  pub left : int_min e.v1.x e.v2.x ≤ℤ v.x
  pub right : v.x ≤ℤ int_max e.v1.x e.v2.x
  pub bottom : int_min e.v1.y e.v2.y ≤ℤ v.y
  pub top : v.y ≤ℤ int_max e.v1.y e.v2.y
