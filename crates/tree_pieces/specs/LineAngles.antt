-- The angles of lines, each in its line's own direction.
use Rattle.std.specs.Prelude.{◌≡◌, ℕ, ◌<◌, List, length, slice_index_or}
use Rattle.lump_records.specs.declared.plane.Ray.{Ray}
use Rattle.tree_pieces.specs.declared.edge.Edge.{Edge}
use Rattle.tree_pieces.specs.declared.edge.Facing.TheVariants.{Along}
use Rattle.tree_pieces.specs.Plane.{ray}
use Rattle.tree_pieces.specs.Pieces.{edge_at}
use Rattle.tree_pieces.specs.Angle.{IsAngle}

-- the angle of a ray's vector
abbrev pub IsRayAngle : Ray → ℕ → Type 0
IsRayAngle r angle = IsAngle r.dx r.dy angle

-- a list has the angle of each line at the line's number
pub record AreAngles (lines : List Edge) (angles : List ℕ) : Type 0 where
  pub as_many : length angles ≡ length lines
  pub each : (line : ℕ) → line < length lines →
      IsRayAngle (ray (edge_at lines line) Along) (slice_index_or angles line 0)
