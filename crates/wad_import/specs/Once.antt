-- Vertices of a level, each place once (docs/FORMAT.md, "A map of a WAD's level").
use Rattle.std.specs.Prelude.{ℕ, Bool, if◌then◌else◌, List, length, filter_map, take, Option, Some, None}
use Rattle.std.specs.List.{position_or_len, range_with_len}
use Rattle.lump_records.specs.declared.records.Vertex.{Vertex}
use Rattle.map_tables.specs.Faults.{is_place, is_taken}
use Rattle.map_tables.specs.WellFormed.{nth_vertex}
use Rattle.wad_import.specs.declared.change.Change.{Change}
use Rattle.wad_import.specs.declared.change.Change.TheVariants.{VertexAgain}

-- the vertex stands at the place of one before it
abbrev pub comes_again : List Vertex → ℕ → Bool
comes_again vs n = is_taken (take n vs) (nth_vertex vs n)

-- the vertex of a number, unless it comes again
abbrev pub kept_vertex : List Vertex → ℕ → Option Vertex
kept_vertex vs n = if comes_again vs n then None else Some (nth_vertex vs n)

-- the vertices that don't come again
abbrev pub each_once : List Vertex → List Vertex
each_once vs = filter_map (kept_vertex vs) (range_with_len 0 (length vs))

-- the number of the first vertex at the place of this one
abbrev pub number_at : List Vertex → Vertex → ℕ
number_at vs v = position_or_len (is_place v) vs

-- the number that the vertex at the place of the n-th has among those that don't come again
abbrev pub kept_number : List Vertex → ℕ → ℕ
kept_number vs n = number_at (each_once vs) (nth_vertex vs n)

-- what is told of the vertex of a number: where it comes again, the first at its place
abbrev pub place_change : List Vertex → ℕ → Option Change
place_change vs n =
    if comes_again vs n then Some (VertexAgain n (number_at vs (nth_vertex vs n))) else None

-- the vertices that are left out as they come again
abbrev pub place_changes : List Vertex → List Change
place_changes vs = filter_map (place_change vs) (range_with_len 0 (length vs))
