-- Fractions of a line: their order, exact and rounded points there, crossings, and a line's steps.
use Rattle.std.specs.Prelude.{ℕ, ◌+◌, Bool, ◌&&◌, nat_le, nat_lt, ℤ, pos, neg_ℤ, ◌+ℤ◌, ◌-ℤ◌, ◌*ℤ◌, ◌≤ℤ◌, ◌<ℤ◌, unsigned_abs, int_lt, if◌then◌else◌}
use Rattle.std.specs.Int.{int_div_euclid}
use Rattle.lump_records.specs.declared.records.Vertex.{Vertex}
use Rattle.tree_pieces.specs.declared.edge.Edge.{Edge}
use Rattle.lump_records.specs.declared.plane.Ray.{Ray}
use Rattle.tree_pieces.specs.declared.frac.Frac.{Frac}
use Rattle.tree_pieces.specs.Plane.{vertex_value}

-- a fraction from 0 to 1 whose denominator is at most the square of the greatest length
pub record IsFraction (t : Frac) : Type 0 where
  pub at_least_zero : pos 0 ≤ℤ t.n
  pub at_most_one : t.n ≤ℤ t.d
  pub positive : pos 1 ≤ℤ t.d
  pub small : t.d ≤ℤ pos 1073676289

-- the order of fractions, by cross products
abbrev pub AtMost : Frac → Frac → Type 0
AtMost s t = (s.n *ℤ t.d) ≤ℤ (t.n *ℤ s.d)

-- and the strict one
abbrev pub IsBelow : Frac → Frac → Type 0
IsBelow s t = (s.n *ℤ t.d) <ℤ (t.n *ℤ s.d)

-- ---- exact values
-- what lies n/d of the way from a to b, times d
abbrev pub between : ℤ → ℤ → Frac → ℤ
between a b t = (t.d -ℤ t.n) *ℤ a +ℤ t.n *ℤ b

-- the side value of the exact point n/d of a line, times d
abbrev pub exact_value : Ray → Edge → Frac → ℤ
exact_value r e t = between (vertex_value r e.v1) (vertex_value r e.v2) t

-- the fraction n/d
abbrev pub fraction : ℤ → ℤ → Frac
fraction n d = record { n = n; d = d }

-- where a value that goes evenly from a to b is 0: a/(a-b), with both signs turned where a-b is
-- negative
abbrev pub zero_between : ℤ → ℤ → Frac
zero_between a b = (if int_lt a b then fraction (neg_ℤ a) (b -ℤ a) else fraction a (a -ℤ b))

-- where a ray's straight line crosses a line
abbrev pub crossing : Ray → Edge → Frac
crossing r e = zero_between (vertex_value r e.v1) (vertex_value r e.v2)

-- ---- rounded points
-- the coordinate n/d of the way from a to b, rounded to the nearest whole number, up from a half
unfoldable pub rounded : ℤ → ℤ → Frac → ℤ
rounded a b t = a +ℤ int_div_euclid (pos 2 *ℤ t.n *ℤ (b -ℤ a) +ℤ t.d) (pos 2 *ℤ t.d)

-- twice the error of a rounded coordinate, times the denominator
abbrev pub twice_error : ℤ → ℤ → Frac → ℤ
twice_error a b t = pos 2 *ℤ (t.d *ℤ rounded a b t -ℤ between a b t)

-- the rounded point at a fraction of a line
abbrev pub point_at : Edge → Frac → Vertex
point_at e t = record { x = rounded e.v1.x e.v2.x t; y = rounded e.v1.y e.v2.y t }

-- ---- steps
-- the number of steps from one place to another
abbrev pub steps_between : Vertex → Vertex → ℕ
steps_between u v = unsigned_abs (v.x -ℤ u.x) + unsigned_abs (v.y -ℤ u.y)

-- the step k of a line, counted from its v1, lies between two places on it
abbrev pub step_within : Edge → Vertex → Vertex → ℕ → Bool
step_within e u w k = nat_le (steps_between e.v1 u) k && nat_lt k (steps_between e.v1 w)
