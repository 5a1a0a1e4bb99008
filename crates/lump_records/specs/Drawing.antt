-- Where a map's vertices may lie, and how long its lines may be (docs/FORMAT.md, "Limits").
use Rattle.std.specs.Prelude.{ℕ, ◌+◌, ◌*◌, ℤ, pos, negsuc, neg_ℤ, ◌-ℤ◌, ◌≤ℤ◌, unsigned_abs}
use Rattle.lump_records.specs.declared.records.Vertex.{Vertex}

-- the number is from `low` to `high`, both included
pub record IsBetween (low high z : ℤ) : Type 0 where
  pub at_least : low ≤ℤ z
  pub at_most : z ≤ℤ high

-- a place's x or y: from -16384 to 16383
abbrev pub IsCoordinate : ℤ → Type 0
IsCoordinate z = IsBetween (negsuc 16383) (pos 16383) z

-- both coordinates of the vertex are in that range
pub record IsDrawable (v : Vertex) : Type 0 where
  pub x_low : neg_ℤ (pos 16384) ≤ℤ v.x
  pub x_high : v.x ≤ℤ pos 16383
  pub y_low : neg_ℤ (pos 16384) ≤ℤ v.y
  pub y_high : v.y ≤ℤ pos 16383

-- the square of the distance between two vertices
abbrev pub squared_distance : Vertex → Vertex → ℕ
squared_distance a b =
    unsigned_abs (b.x -ℤ a.x) * unsigned_abs (b.x -ℤ a.x)
    + unsigned_abs (b.y -ℤ a.y) * unsigned_abs (b.y -ℤ a.y)

-- the greatest squared length of a line: 32,767 squared
abbrev pub longest_squared : ℕ
longest_squared = 1073676289
