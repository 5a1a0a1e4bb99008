-- The areas that the edges of sectors run round.
use Rattle.std.specs.Prelude.{ℕ, Bool, ◌&&◌, ◌==◌, not, nat_lt, if◌then◌else◌, List, length, fold, ℤ, pos, ◌+ℤ◌, int_lt}
use Rattle.lump_records.specs.declared.plane.Point.{Point}
use Rattle.lump_records.specs.declared.records.Vertex.{Vertex}
use Rattle.lump_records.specs.Plane.{ray_between, side_value}
use Rattle.map_tables.specs.Tables.{Tables}
use Rattle.map_tables.specs.WellFormed.{nth_vertex}
use Rattle.map_checks.specs.Corners.{Edge, edges}
use Rattle.map_lint.specs.Borders.{has_border}

-- the point (0,0)
abbrev pub origin : Point
origin = record { x = pos 0; y = pos 0 }

-- twice the signed area of the triangle of the origin and an edge: above 0 if the origin is on the edge's right
abbrev pub edge_area : List Vertex → ℕ → ℕ → ℤ
edge_area vs from to = side_value (ray_between (nth_vertex vs from) (nth_vertex vs to)) origin

-- what an edge adds to twice a sector's area
abbrev pub part_in : Tables → ℕ → Edge → ℤ
part_in m s e = if e.sector == s then edge_area m.vertices e.from e.to else pos 0

-- twice the signed area that a sector's edges run round: above 0 if the inside is on their right
abbrev pub doubled_area : Tables → ℕ → ℤ
doubled_area m s = fold (λ sum e. sum +ℤ part_in m s e) (pos 0) (edges m)

-- the sector has a border, and its edges have no area on their right
abbrev pub is_inside_out : Tables → ℕ → Bool
is_inside_out m s = nat_lt s (length m.sectors) && has_border m s
    && not (int_lt (pos 0) (doubled_area m s))
