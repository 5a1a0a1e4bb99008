-- The two sides of a directed straight line in the plane.
use Rattle.std.specs.Prelude.{ℤ, pos, neg_ℤ, ◌-ℤ◌, ◌*ℤ◌, ◌≤ℤ◌, ◌<ℤ◌}
use Rattle.lump_records.specs.declared.plane.Point.{Point}
use Rattle.lump_records.specs.declared.plane.Ray.{Ray}
use Rattle.lump_records.specs.declared.records.Vertex.{Vertex}

-- a vertex as a point
abbrev pub point_of : Vertex → Point
point_of v = record { x = v.x; y = v.y }

-- the straight line from one vertex to another
abbrev pub ray_between : Vertex → Vertex → Ray
ray_between a b = record { start = a; dx = b.x -ℤ a.x; dy = b.y -ℤ a.y }

-- how far a point lies to the right of a ray, times the ray's length: below 0 on its left
abbrev pub side_value : Ray → Point → ℤ
side_value r p = r.dy *ℤ (p.x -ℤ r.start.x) -ℤ r.dx *ℤ (p.y -ℤ r.start.y)

-- the point lies strictly on the right of the ray
abbrev pub IsOnRight : Ray → Point → Type 0
IsOnRight r p = pos 0 <ℤ side_value r p

-- the point lies strictly on the left of the ray
abbrev pub IsOnLeft : Ray → Point → Type 0
IsOnLeft r p = side_value r p <ℤ pos 0

-- the ray's vector is at most 65,535 each way, as every vector from a vertex to a vertex is
pub record IsStep (r : Ray) : Type 0 where
  pub dx_low : neg_ℤ (pos 65535) ≤ℤ r.dx
  pub dx_high : r.dx ≤ℤ pos 65535
  pub dy_low : neg_ℤ (pos 65535) ≤ℤ r.dy
  pub dy_high : r.dy ≤ℤ pos 65535
