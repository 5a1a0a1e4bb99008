-- The lines of a list, or of a map, with the places of their ends.
use Rattle.std.specs.Prelude.{◌≡◌, ◌≢◌, ℕ, ◌<◌, ◌≤◌, List, length, map, take, slice_get, Some, All}
use Rattle.lump_records.specs.declared.records.Line.{Line}
use Rattle.lump_records.specs.declared.records.Side.{Side}
use Rattle.lump_records.specs.declared.records.Vertex.{Vertex}
use Rattle.lump_records.specs.Drawing.{IsDrawable, squared_distance, longest_squared}
use Rattle.lump_records.specs.Sides.{has_left}
use Rattle.map_tables.specs.Tables.{Tables}
use Rattle.map_tables.specs.WellFormed.{nth_vertex}
use Rattle.tree_pieces.specs.Plane.{IsEdge}
use Rattle.tree_pieces.specs.declared.edge.Edge.{Edge}
use Rattle.tree_pieces.specs.declared.line_fault.LineFault.{LineFault}
use Rattle.tree_pieces.specs.declared.line_fault.LineFault.TheVariants.{NoVertex, NoRightSide, NoLength, EndOutside, TooLong}
use Rattle.tree_pieces.specs.declared.line_fault.LinesError.{LinesError}
use Rattle.tree_pieces.specs.declared.line_fault.LinesError.TheVariants.{Faulty, OutOfMemory}

-- a line over a list of vertices
abbrev pub edge_between : List Vertex → Line → Edge
edge_between vertices l =
    record { v1 = nth_vertex vertices l.v1; v2 = nth_vertex vertices l.v2; has_left = has_left l }

-- lines over a list of vertices, by number
abbrev pub edges_in : List Vertex → List Line → List Edge
edges_in vertices lines = map (edge_between vertices) lines

-- the lines of a map, by number
abbrev pub edges_of : Tables → List Edge
edges_of m = edges_in m.vertices m.lines

-- ---- lines that may be built
-- the first thing for which a map may not have a line with these ends
abbrev pub IsUndrawable : Edge → LineFault → Type 0
IsUndrawable e NoVertex = ⊥
IsUndrawable e NoRightSide = ⊥
IsUndrawable e NoLength = e.v1 ≡ e.v2
IsUndrawable e EndOutside = (e.v1 ≢ e.v2) × (IsDrawable e.v1 × IsDrawable e.v2 → ⊥)
IsUndrawable e TooLong =
    (e.v1 ≢ e.v2) × IsDrawable e.v1 × IsDrawable e.v2 ×
    (longest_squared < squared_distance e.v1 e.v2)

module _ (vertices : List Vertex) (sides : List Side) where
  -- both vertices of the line are there
  abbrev pub HasVertices : Line → Type 0
  HasVertices l = (l.v1 < length vertices) × (l.v2 < length vertices)

  -- its vertices and its right side are there, and a map may have such a line
  pub record IsBuildable (l : Line) : Type 0 where
    pub vertices_in : HasVertices l
    pub right_in : l.right < length sides
    pub edge : IsEdge (edge_between vertices l)

  -- the first thing for which the line can't be built
  abbrev pub HasFault : Line → LineFault → Type 0
  HasFault l NoVertex = HasVertices l → ⊥
  HasFault l NoRightSide = HasVertices l × (length sides ≤ l.right)
  HasFault l fault =
      HasVertices l × (l.right < length sides) × IsUndrawable (edge_between vertices l) fault

  -- the first line of the list that can't be built, by its number, and why
  pub record IsFirstFault (lines : List Line) (n : ℕ) (fault : LineFault) : Type 0 where
    pub line : Line
    pub stands : slice_get lines n ≡ Some line
    pub has : HasFault line fault
    pub before : All IsBuildable (take n lines)

  -- the cause of each refusal
  abbrev pub IsLinesRefusal : List Line → LinesError → Type 0
  IsLinesRefusal lines (Faulty n fault) = IsFirstFault lines n fault
  IsLinesRefusal lines OutOfMemory = Unit {0}
