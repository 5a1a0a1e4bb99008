-- Lists of pieces that are convex to within rounding.
use Rattle.std.specs.Prelude.{◌≡◌, ℕ, List, slice_get, Some}
use Rattle.tree_pieces.specs.declared.edge.Edge.{Edge}
use Rattle.tree_pieces.specs.declared.piece.Piece.{Piece}
use Rattle.tree_pieces.specs.Plane.{NearRight, RunsWith}
use Rattle.tree_pieces.specs.Pieces.{ray_of, first_end, last_end}
use Rattle.tree_pieces.specs.Division.{LiesAlong}

-- the rounded ends of q lie on the right of the ray of p to within rounding; one along that ray
-- runs with it
pub record LiesRight (lines : List Edge) (p q : Piece) : Type 0 where
  pub first_near : NearRight (ray_of lines p) (first_end lines q)
  pub last_near : NearRight (ray_of lines p) (last_end lines q)
  pub not_opposite : LiesAlong lines p q → RunsWith (ray_of lines p) (ray_of lines q)

-- each piece lies on the right of each
abbrev pub IsConvex : List Edge → List Piece → Type 0
IsConvex lines ps =
    (i j : ℕ) (p q : Piece) → slice_get ps i ≡ Some p → slice_get ps j ≡ Some q →
    LiesRight lines p q
