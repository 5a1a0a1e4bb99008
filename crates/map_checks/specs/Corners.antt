-- Where a map's sectors aren't closed. The edges of a closed sector go round it, so as many of them leave each
-- vertex as reach it.
use Rattle.std.specs.Prelude.{ℕ, Bool, ◌&&◌, ◌==◌, not, if◌then◌else◌, List, [], ◌∷◌, map, filter, count_by, flat_map}
use Rattle.lump_records.specs.declared.records.Line.{Line}
use Rattle.lump_records.specs.Sides.{has_left}
use Rattle.map_tables.specs.Tables.{Tables}
use Rattle.map_checks.specs.declared.finding.Finding.{Finding}
use Rattle.map_checks.specs.declared.finding.Finding.TheVariants.{SectorOpen}
use Rattle.map_checks.specs.Unused.{item_numbers}
use Rattle.map_checks.specs.Textures.{side_in}

-- an edge of a sector, which lies on the edge's right
pub record Edge : Type 0 where
  pub sector : ℕ
  pub from : ℕ
  pub to : ℕ

-- a line's edges: that of its right side runs in the line's direction, that of its left side against it
abbrev pub edges_of_line : Tables → Line → List Edge
edges_of_line m l =
    (record { sector = (side_in m l.right).sector; from = l.v1; to = l.v2 })
    ∷ (if has_left l then (record { sector = (side_in m l.left).sector; from = l.v2; to = l.v1 })
    ∷ [] else [])

-- the edges of all sectors
abbrev pub edges : Tables → List Edge
edges m = flat_map (edges_of_line m) m.lines

-- whether an edge of the sector leaves the vertex
abbrev pub leaves_vertex : ℕ → ℕ → Edge → Bool
leaves_vertex sector vertex e = (e.sector == sector) && (e.from == vertex)

-- whether an edge of the sector reaches the vertex
abbrev pub reaches : ℕ → ℕ → Edge → Bool
reaches sector vertex e = (e.sector == sector) && (e.to == vertex)

-- whether the number of the sector's edges that leave the vertex differs from the number that reach it
abbrev pub is_open : Tables → ℕ → ℕ → Bool
is_open m sector vertex =
    not (count_by (leaves_vertex sector vertex) (edges m) == count_by (reaches sector vertex)
    (edges m))

-- the vertices at which the sector is open
abbrev pub open_corners : Tables → ℕ → List Finding
open_corners m sector =
    map (λ v. SectorOpen sector v) (filter (is_open m sector) (item_numbers m.vertices))
