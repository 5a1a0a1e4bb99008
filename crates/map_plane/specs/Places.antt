-- The lines of a map with their numbers and the places of their ends.
use Rattle.std.specs.Prelude.{ℕ, not, List, map}
use Rattle.std.specs.List.{enumerate_from}
use Rattle.lump_records.specs.declared.records.Line.{Line}
use Rattle.lump_records.specs.Sides.{has_left}
use Rattle.map_tables.specs.Tables.{Tables}
use Rattle.map_tables.specs.WellFormed.{nth_vertex}
use Rattle.map_plane.specs.declared.places.PlacedLine.{PlacedLine}

-- a line with its number and the places of its ends; a wall has no left side
abbrev pub placed : Tables → ℕ × Line → PlacedLine
placed m e = record {
  number = e.0;
  from = nth_vertex m.vertices e.1.v1;
  to = nth_vertex m.vertices e.1.v2;
  is_wall = not (has_left e.1);
}

-- all lines of the map, with their numbers and the places of their ends
abbrev pub placed_lines : Tables → List PlacedLine
placed_lines m = map (placed m) (enumerate_from 0 m.lines)
