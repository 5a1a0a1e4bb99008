-- Which commands draw a pillar.
use Rattle.std.specs.Prelude.{ℕ, ◌+◌, if◌then◌else◌, List, [], ◌∷◌, ◌++◌, flat_map, length, map, nat_lt, pos}
use Rattle.std.specs.List.{enumerate_from}
use Rattle.lump_records.specs.declared.records.Name8.{Name8}
use Rattle.lump_records.specs.declared.records.Side.{Side}
use Rattle.map_plane.specs.declared.places.PlacedLine.{PlacedLine}
use Rattle.map_tables.specs.Tables.{Tables}
use Rattle.map_tables.specs.declared.edit.Edit.TheVariants.{Add}
use Rattle.map_tables.specs.declared.edit.Item.{Item}
use Rattle.map_tables.specs.declared.edit.Item.TheVariants as item
use Rattle.map_commands.specs.Rooms.{wall}
use Rattle.map_commands.specs.declared.command.Command.{Command}
use Rattle.map_commands.specs.declared.command.Command.TheVariants as command
use Rattle.map_areas.specs.Stays.{no_texture}

-- a side with this texture in the middle, and no other, which faces the sector
abbrev pub solid_side : Name8 → ℕ → Side
solid_side texture sector = record {
  x_offset = pos 0;
  y_offset = pos 0;
  upper = no_texture;
  lower = no_texture;
  middle = texture;
  sector = sector;
}

-- the command that adds an item
abbrev pub addition : Item → Command
addition i = command.Edit (Add i)

-- a vertex at the corner where an edge begins
abbrev pub corner_drawn : PlacedLine → Command
corner_drawn e = addition (item.Vertex e.from)

-- a vertex at each corner
abbrev pub corners_drawn : List PlacedLine → List Command
corners_drawn es = map corner_drawn es

-- a side, and a line from one vertex to another, one-sided and with flags 1, with the side of this number on its right
abbrev pub wall_drawn : Side → ℕ → ℕ → ℕ → List Command
wall_drawn side v1 v2 right =
    addition (item.Side side) ∷ addition (item.Line (wall v1 v2 right)) ∷ []

-- the position after one of so many: after the last comes the first
abbrev pub next_position : ℕ → ℕ → ℕ
next_position count n = if nat_lt (n + 1) count then n + 1 else 0

-- the wall of an edge with its position among so many, where the vertices of the corners and the sides begin at these
-- numbers: it leads from the edge's corner to the next one, and its side is the one of the edge
abbrev pub edge_drawn : Side → ℕ → ℕ → ℕ → ℕ × PlacedLine → List Command
edge_drawn side vertices sides count e =
    wall_drawn side (vertices + e.0) (vertices + next_position count e.0) (sides + e.0)

-- the walls of all edges
abbrev pub walls_drawn : Side → ℕ → ℕ → List PlacedLine → List Command
walls_drawn side vertices sides es =
    flat_map (edge_drawn side vertices sides (length es)) (enumerate_from 0 es)

-- what draws a pillar with these edges and this texture that stands in the sector: a vertex at each corner in order,
-- then a wall along each edge, whose side faces the sector; the new vertices and sides come after those of the map
abbrev pub pillar_drawn : Tables → List PlacedLine → Name8 → ℕ → List Command
pillar_drawn m es texture sector =
    corners_drawn es
    ++ walls_drawn (solid_side texture sector) (length m.vertices) (length m.sides) es
