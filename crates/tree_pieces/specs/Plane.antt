-- The plane: places that can be drawn, lines that a map may have, and the two sides of a line.
use Rattle.std.specs.Prelude.{◌≡◌, ℕ, ◌+◌, ℤ, pos, neg_ℤ, ◌+ℤ◌, ◌*ℤ◌, ◌≤ℤ◌, ◌<ℤ◌, unsigned_abs}
use Rattle.lump_records.specs.declared.records.Vertex.{Vertex}
pub use Rattle.lump_records.specs.Drawing.{IsDrawable}
use Rattle.lump_records.specs.Plane.{point_of, ray_between, side_value}
use Rattle.tree_pieces.specs.declared.edge.Edge.{Edge}
use Rattle.lump_records.specs.declared.plane.Ray.{Ray}
use Rattle.tree_pieces.specs.declared.edge.Facing.{Facing}
use Rattle.tree_pieces.specs.declared.edge.Facing.TheVariants.{Along, Against}

-- a line in one of its two directions
abbrev pub ray : Edge → Facing → Ray
ray e Along = ray_between e.v1 e.v2
ray e Against = ray_between e.v2 e.v1

-- the inner product of the vectors of two rays
abbrev pub dot : Ray → Ray → ℤ
dot r s = r.dx *ℤ s.dx +ℤ r.dy *ℤ s.dy

-- two rays on one straight line run in one direction, or in opposite directions
abbrev pub RunsWith : Ray → Ray → Type 0
RunsWith r s = pos 0 <ℤ dot r s

abbrev pub RunsAgainst : Ray → Ray → Type 0
RunsAgainst r s = dot r s <ℤ pos 0

-- a line that a map may have: its ends differ, and its length is at most 32,767, whose square is
-- 1,073,676,289
pub record IsEdge (e : Edge) : Type 0 where
  pub start : IsDrawable e.v1
  pub end : IsDrawable e.v2
  pub apart : pos 0 <ℤ dot (ray e Along) (ray e Along)
  pub short : dot (ray e Along) (ray e Along) ≤ℤ pos 1073676289

-- how far a vertex lies to the right of a ray, times the ray's length
abbrev pub vertex_value : Ray → Vertex → ℤ
vertex_value r v = side_value r (point_of v)

-- the line lies on the ray's straight line
abbrev pub LiesOn : Ray → Edge → Type 0
LiesOn r e = (vertex_value r e.v1 ≡ pos 0) × (vertex_value r e.v2 ≡ pos 0)

-- the most by which rounding a place to whole coordinates moves twice its side value
abbrev pub blur : Ray → ℕ
blur r = unsigned_abs r.dx + unsigned_abs r.dy

-- a place lies on the right of a ray to within rounding
abbrev pub NearRight : Ray → Vertex → Type 0
NearRight r v = neg_ℤ (pos (blur r)) ≤ℤ (pos 2 *ℤ vertex_value r v)

-- a place lies on the left of a ray to within rounding
abbrev pub NearLeft : Ray → Vertex → Type 0
NearLeft r v = (pos 2 *ℤ vertex_value r v) ≤ℤ pos (blur r)
