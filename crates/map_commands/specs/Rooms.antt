-- What `room` adds to a map, why it is refused, and its words.
use Rattle.std.specs.Prelude.{ℕ, ◌+◌, Bool, ◌&&◌, ◌||◌, if◌then◌else◌, int_lt, Option, Some, None, List, [], ◌∷◌, ◌++◌, length, pos}
use Rattle.std.specs.Fmt.{signed_decimal}
use Rattle.std.specs.List.{list_any}
use Rattle.lump_records.specs.declared.records.Line.{Line}
use Rattle.lump_records.specs.declared.records.Sector.{Sector}
use Rattle.lump_records.specs.declared.records.Side.{Side}
use Rattle.lump_records.specs.declared.records.Vertex.{Vertex}
use Rattle.lump_records.specs.Names.{name_of, name_text}
use Rattle.lump_records.specs.Sides.{no_side}
use Rattle.map_commands.specs.declared.error.CommandError.TheVariants.{OutOfRange, PlaceTaken, TableFull}
use Rattle.map_commands.specs.Errors.{code_of}
use Rattle.map_commands.specs.Places.{places_fault, room_places}
use Rattle.map_words.specs.Words.{numeral_value}
use Rattle.map_tables.specs.declared.edit.Need.{Need}
use Rattle.map_tables.specs.Tables.{Tables}
use Rattle.map_tables.specs.Faults.{is_taken, lacks_room, lacks_sector_room}
use Rattle.map_commands.specs.declared.command.RoomPlan.{RoomPlan}

-- the corners, from the one in the south-west on by way of the north
abbrev pub corners : RoomPlan → List Vertex
corners r =
    record { x = r.west; y = r.south } ∷ record { x = r.west; y = r.north }
    ∷ record { x = r.east; y = r.north }
    ∷ record { x = r.east; y = r.south } ∷ []

-- the room's sector, with special 0 and tag 0
abbrev pub room_sector : RoomPlan → Sector
room_sector r =
    record {
      floor = r.floor;
      ceiling = r.ceiling;
      floor_name = r.floor_name;
      ceiling_name = r.ceiling_name;
      light = r.light;
      special = pos 0;
      tag = pos 0;
    }

-- a side of the sector, with offsets 0, upper and lower `-`, and the middle that the room asks for
abbrev pub room_side : RoomPlan → ℕ → Side
room_side r sector =
    record {
      x_offset = pos 0;
      y_offset = pos 0;
      upper = name_of (45 ∷ []);
      lower = name_of (45 ∷ []);
      middle = r.wall;
      sector = sector;
    }

-- the four sides
abbrev pub room_sides : RoomPlan → ℕ → List Side
room_sides r sector =
    room_side r sector ∷ room_side r sector ∷ room_side r sector ∷ room_side r sector ∷ []

-- a line from one vertex to another with its right side: flags 1, special 0, tag 0, no left side
abbrev pub wall : ℕ → ℕ → ℕ → Line
wall v1 v2 right =
    record { v1 = v1; v2 = v2; flags = 1; special = 0; tag = 0; right = right; left = no_side }

-- the four walls, from each corner to the next and from the last to the first, the k-th with the
-- k-th side
abbrev pub walls : ℕ → ℕ → List Line
walls v d = wall v (v + 1) d ∷ wall (v + 1) (v + 2) (d + 1) ∷ wall (v + 2) (v + 3) (d + 2)
    ∷ wall (v + 3) v (d + 3) ∷ []

-- the map with more vertices
abbrev pub with_vertices : Tables → List Vertex → Tables
with_vertices m vertices = record m { vertices = m.vertices ++ vertices }

-- the map with more sides
abbrev pub with_sides : Tables → List Side → Tables
with_sides m sides = record m { sides = m.sides ++ sides }

-- the map with more lines
abbrev pub with_lines : Tables → List Line → Tables
with_lines m lines = record m { lines = m.lines ++ lines }

-- the map with the room's corners, sector, four sides and four walls
abbrev pub with_room : Tables → RoomPlan → Tables
with_room m r =
    record m {
      vertices = m.vertices ++ corners r;
      sectors = m.sectors ++ room_sector r ∷ [];
      sides = m.sides ++ room_sides r (length m.sectors);
      lines = m.lines ++ walls (length m.vertices) (length m.sides);
    }

-- PlaceTaken where a corner's place is, TableFull where a table has no room for what is added
abbrev pub room_faults : Tables → RoomPlan → List (ℕ × Bool)
room_faults m r =
    (code_of PlaceTaken, list_any (is_taken m.vertices) (corners r))
    ∷ (
      code_of TableFull,
      lacks_room m.vertices 4 || lacks_sector_room m.sectors 1 || lacks_room m.sides 4
          || lacks_room m.lines 4,
    )
    ∷ []

-- four vertices
abbrev pub four_vertices : Need
four_vertices = record { vertices = 4; sectors = 0; sides = 0; lines = 0; things = 0 }

-- four sides
abbrev pub four_sides : Need
four_sides = record { vertices = 0; sectors = 0; sides = 4; lines = 0; things = 0 }

-- ---- Its words

-- X1 Y1 X2 Y2 F C FN CN WALL LIGHT
abbrev pub room_words : RoomPlan → List (List ℕ)
room_words r =
    signed_decimal r.west ∷ signed_decimal r.south ∷ signed_decimal r.east ∷ signed_decimal r.north
    ∷ signed_decimal r.floor ∷ signed_decimal r.ceiling ∷ name_text r.floor_name
    ∷ name_text r.ceiling_name
    ∷ name_text r.wall ∷ signed_decimal r.light ∷ []

-- OutOfRange for a room of no width or no height
abbrev pub flat_fault : List (List ℕ) → Option ℕ
flat_fault (west ∷ south ∷ east ∷ north ∷ ws) =
    if int_lt (numeral_value west) (numeral_value east)
    && int_lt (numeral_value south) (numeral_value north)
    then None else Some (code_of OutOfRange)
flat_fault _ = None

-- the first, or else the other
abbrev pub or_else : Option ℕ → Option ℕ → Option ℕ
or_else (Some code) other = Some code
or_else None other = other

-- the fault of a room's words: flatness is looked at where all of them pass
abbrev pub room_fault : List (List ℕ) → Option ℕ
room_fault ws = or_else (places_fault room_places ws) (flat_fault ws)
