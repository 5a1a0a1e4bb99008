-- What is true of every map.
use Rattle.std.specs.Prelude.{◌≢◌, ℕ, ◌<◌, ◌≤◌, List, length, get_or, pos, IsTrue, All, AllPairs}
use Rattle.lump_records.specs.declared.records.Vertex.{Vertex}
use Rattle.lump_records.specs.declared.records.Line.{Line}
use Rattle.lump_records.specs.declared.records.Side.{Side}
use Rattle.lump_records.specs.declared.records.Sector.{Sector}
use Rattle.lump_records.specs.Limits.{item_limit, sector_limit}
pub use Rattle.lump_records.specs.Sides.{no_side, is_two_sided}
use Rattle.map_tables.specs.Tables.{Tables}
use Rattle.map_tables.specs.Ranges.{IsNamed, is_marker, IsVertex, IsSector, IsSide, IsLine, IsThing, squared_distance, longest_squared}

-- the vertex with a number, or the origin past the last one
abbrev pub nth_vertex : List Vertex → ℕ → Vertex
nth_vertex vs n = get_or vs n (record { x = pos 0; y = pos 0 })

-- the line's ends are two of the vertices, not too far apart
pub record HasEnds (vertices : List Vertex) (l : Line) : Type 0 where
  pub v1 : l.v1 < length vertices
  pub v2 : l.v2 < length vertices
  pub differ : l.v1 ≢ l.v2
  pub short : squared_distance (nth_vertex vertices l.v1)
      (nth_vertex vertices l.v2) ≤ longest_squared

-- the line's sides are among the sides, and it has a left one if it has the two-sided flag
pub record HasSides (sides : List Side) (l : Line) : Type 0 where
  pub right : l.right < length sides
  pub left : l.left ≢ no_side → l.left < length sides
  pub two_sided : IsTrue (is_two_sided l) → l.left ≢ no_side

-- the side's sector is among the sectors
abbrev pub HasSector : List Sector → Side → Type 0
HasSector sectors s = s.sector < length sectors

-- each number names an item, no two vertices are at the same place, and each range and limit is kept
pub record WellFormed (m : Tables) : Type 0 where
  pub name : IsNamed is_marker m.name
  pub vertices : All IsVertex m.vertices
  pub sectors : All IsSector m.sectors
  pub sides : All IsSide m.sides
  pub lines : All IsLine m.lines
  pub things : All IsThing m.things
  pub places : AllPairs (λ v w. v ≢ w) m.vertices
  pub ends : All (HasEnds m.vertices) m.lines
  pub line_sides : All (HasSides m.sides) m.lines
  pub side_sectors : All (HasSector m.sectors) m.sides
  pub vertex_count : length m.vertices ≤ item_limit
  pub sector_count : length m.sectors ≤ sector_limit
  pub side_count : length m.sides ≤ item_limit
  pub line_count : length m.lines ≤ item_limit
  pub thing_count : length m.things ≤ item_limit
