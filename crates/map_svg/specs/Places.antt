-- Places and vectors on the picture, where x runs to the right as on the map, and y downwards.
use Rattle.std.specs.Prelude.{ℕ, max, ℤ, pos, neg_ℤ, ◌+ℤ◌, ◌*ℤ◌, int_div, unsigned_abs}
use Rattle.lump_records.specs.declared.records.Node.{Node}
use Rattle.lump_records.specs.declared.records.Vertex.{Vertex}
use Rattle.lump_records.specs.declared.plane.Ray.{Ray}
use Rattle.lump_records.specs.Plane.{ray_between}
use Rattle.map_svg.specs.declared.places.Spot.{Spot}
use Rattle.map_svg.specs.declared.places.Shift.{Shift}

-- where a place of the map is on the picture
abbrev pub spot_of : Vertex → Spot
spot_of p = record { x = p.x; y = neg_ℤ p.y }

-- the midpoint of two places of the map, its coordinates rounded towards 0
abbrev pub middle_of : Vertex → Vertex → Spot
middle_of from to =
    record {
      x = int_div (from.x +ℤ to.x) (pos 2);
      y = int_div (neg_ℤ (from.y +ℤ to.y)) (pos 2);
    }

-- the greater absolute value of the vector's two components, at least 1
abbrev pub reach_of : Ray → ℕ
reach_of ray = max (max (unsigned_abs ray.dx) (unsigned_abs ray.dy)) 1

-- a component of a vector after scaling, which takes `reach` to `length`, rounded towards 0
abbrev pub scaled : ℤ → ℕ → ℕ → ℤ
scaled number length reach = int_div (number *ℤ pos length) (pos reach)

-- The vector to the right of a line, its greater component scaled to the length. A line along (dx, dy) on the map
-- has (dy, -dx) to its right, which is dy to the right and dx downwards on the picture.
abbrev pub shift_right : Vertex → Vertex → ℕ → Shift
shift_right from to length =
    let ray = ray_between from to in
    record { dx = scaled ray.dy length (reach_of ray); dy = scaled ray.dx length (reach_of ray) }

-- the vector from one place of the map to another
abbrev pub way_between : Vertex → Vertex → Shift
way_between from to =
    let ray = ray_between from to in
    record { dx = ray.dx; dy = neg_ℤ ray.dy }

-- the partition of a node: a point of it, and its direction
abbrev pub partition_ray : Node → Ray
partition_ray d = record { start = record { x = d.x; y = d.y }; dx = d.dx; dy = d.dy }

-- the vector along a node's partition, its greater component scaled to 65,536, so that it leaves every map
abbrev pub forth_of : Node → Shift
forth_of d =
    let reach = reach_of (partition_ray d) in
    record { dx = scaled d.dx 65536 reach; dy = scaled (neg_ℤ d.dy) 65536 reach }

-- the opposite vector
abbrev pub back_of : Node → Shift
back_of d =
    let reach = reach_of (partition_ray d) in
    record { dx = scaled (neg_ℤ d.dx) 65536 reach; dy = scaled d.dy 65536 reach }
