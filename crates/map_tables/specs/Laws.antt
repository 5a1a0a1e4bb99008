-- Laws of the definitions.
use Rattle.std.specs.Prelude.{◌≡◌, ℕ, ◌<◌, Bool, List, [], ◌∷◌, length}
use Rattle.lump_records.specs.declared.records.Line.{Line}
use Rattle.lump_records.specs.declared.records.Side.{Side}
use Rattle.lump_records.specs.declared.records.Vertex.{Vertex}
use Rattle.map_tables.specs.Tables.{Tables}
use Rattle.map_tables.specs.Body.{body}
use Rattle.map_tables.specs.Projects.{ProjectMaps, WellFormedProject}
use Rattle.map_tables.specs.ProjectBody.{project_body, alone, HasBody}
use Rattle.map_tables.specs.Faults.{vertex_faults, set_vertex_faults, drop_vertex_faults, sector_faults, set_sector_faults, drop_sector_faults, side_faults, set_side_faults, drop_side_faults, line_faults, set_line_faults, drop_line_faults, thing_faults, set_thing_faults, drop_thing_faults}

-- each code is less than the next
abbrev pub Rises : List (ℕ × Bool) → Type 0
Rises [] = Unit {0}
Rises (fault ∷ []) = Unit {0}
Rises (fault ∷ next ∷ faults) = (fault.0 < next.0) × Rises (next ∷ faults)

-- the causes for which each edit is refused are listed by rising code, so that the first one that holds has the
-- least code
pub record FaultsRise (m : Tables) (n : ℕ) (v : Vertex) (s : Side) (l : Line) : Type 0 where
  pub vertex : Rises (vertex_faults m v)
  pub set_vertex : Rises (set_vertex_faults m n v)
  pub drop_vertex : Rises (drop_vertex_faults m n)
  pub sector : Rises (sector_faults m)
  pub set_sector : Rises (set_sector_faults m n)
  pub drop_sector : Rises (drop_sector_faults m n)
  pub side : Rises (side_faults m s)
  pub set_side : Rises (set_side_faults m n s)
  pub drop_side : Rises (drop_side_faults m n)
  pub line : Rises (line_faults m l)
  pub set_line : Rises (set_line_faults m n l)
  pub drop_line : Rises (drop_line_faults m n)
  pub thing : Rises (thing_faults m)
  pub set_thing : Rises (set_thing_faults m n)
  pub drop_thing : Rises (drop_thing_faults m n)

-- at most one well-formed project has a body's bytes, in either version
abbrev pub BodiesTellProjects : Type 0
BodiesTellProjects =
    (p q : ProjectMaps) (bytes : List ℕ) → WellFormedProject p → WellFormedProject q
    → HasBody p bytes → HasBody q bytes
    → p ≡ q

-- the body of a project of one map is as long as that map's body
abbrev pub OneMapKeepsItsLength : Type 0
OneMapKeepsItsLength = (m : Tables) → length (project_body (alone m)) ≡ length (body m)
