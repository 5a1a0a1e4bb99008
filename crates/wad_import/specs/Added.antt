-- What is added to a map without an item.
use Rattle.std.specs.Prelude.{ℕ, ◌<◌, ◌≤◌, ◌≤ℤ◌, pos, All, List, [], length, map}
use Rattle.lump_records.specs.declared.records.Thing.{Thing}
use Rattle.lump_records.specs.declared.records.Side.{Side}
use Rattle.lump_records.specs.declared.records.Line.{Line}
use Rattle.lump_records.specs.declared.records.Vertex.{Vertex}
use Rattle.lump_records.specs.declared.records.Sector.{Sector}
use Rattle.lump_records.specs.Limits.{item_limit, sector_limit}
use Rattle.wad_levels.specs.Drawn.{DrawnLists}
use Rattle.map_tables.specs.Projects.{Others}
use Rattle.map_tables.specs.Ranges.{IsBetween, IsCoordinate, IsLine, IsNamed, IsVertex, is_name}
use Rattle.map_tables.specs.WellFormed.{HasEnds, HasSector, HasSides}
use Rattle.wad_import.specs.Imported.{kept_lines, kept_things, reached_vertices}
use Rattle.wad_import.specs.Once.{each_once, kept_number}
use Rattle.wad_import.specs.Mended.{linked_line, mended_sector, mended_side, mended_thing}

-- no map beside the current one
abbrev pub no_others : Others
no_others = record { before = []; behind = [] }

-- what a map's sector, side or thing keeps, but for the bounds of any number of sixteen bits

pub record HasSectorRanges (s : Sector) : Type 0 where
  pub floor_name : IsNamed is_name s.floor_name
  pub ceiling_name : IsNamed is_name s.ceiling_name
  pub light : IsBetween (pos 0) (pos 255) s.light
  pub special : pos 0 ≤ℤ s.special
  pub tag : pos 0 ≤ℤ s.tag

pub record HasSideRanges (s : Side) : Type 0 where
  pub upper : IsNamed is_name s.upper
  pub lower : IsNamed is_name s.lower
  pub middle : IsNamed is_name s.middle
  pub sector : s.sector ≤ 4095

pub record HasThingRanges (t : Thing) : Type 0 where
  pub x : IsCoordinate t.x
  pub y : IsCoordinate t.y
  pub angle : IsBetween (pos 0) (pos 359) t.angle
  pub kind : pos 0 ≤ℤ t.kind
  pub options : pos 0 ≤ℤ t.options

-- the line runs between two of so many vertices
pub record IsBetweenSome (count : ℕ) (x : Line) : Type 0 where
  pub v1 : x.v1 < count
  pub v2 : x.v2 < count

-- the vertices and lines of the map that a level is
abbrev pub imported_vertices : DrawnLists → List Vertex
imported_vertices d = each_once (reached_vertices d)

abbrev pub imported_lines : DrawnLists → List Line
imported_lines d = map (linked_line (kept_number (reached_vertices d))) (kept_lines d)

-- after the changes the items of a level's lists are ones of a map, each names what is there, and
-- no table has too many
pub record IsFine (d : DrawnLists) : Type 0 where
  pub drawn : All IsVertex (reached_vertices d)
  pub reached : All (IsBetweenSome (length (reached_vertices d))) (kept_lines d)
  pub sectors : All HasSectorRanges (map mended_sector d.sectors)
  pub sides : All HasSideRanges (map mended_side d.sides)
  pub lines : All IsLine (imported_lines d)
  pub things : All HasThingRanges (map mended_thing (kept_things d))
  pub ends : All (HasEnds (imported_vertices d)) (imported_lines d)
  pub line_sides : All (HasSides (map mended_side d.sides)) (imported_lines d)
  pub side_sectors : All (HasSector (map mended_sector d.sectors)) (map mended_side d.sides)
  pub vertex_count : length (reached_vertices d) ≤ item_limit
  pub sector_count : length (map mended_sector d.sectors) ≤ sector_limit
  pub side_count : length (map mended_side d.sides) ≤ item_limit
  pub line_count : length (imported_lines d) ≤ item_limit
  pub thing_count : length (map mended_thing (kept_things d)) ≤ item_limit
