-- Lines that stop a thing whose square they reach into, as the engine has it (`PIT_CheckLine`).
use Rattle.std.specs.Prelude.{ℕ, Bool, false, ◌&&◌, ◌||◌, ◌==◌, ◌/◌, ◌%◌, not, List, slice_get, ℤ, pos, ◌-ℤ◌, int_lt}
use Rattle.std.specs.Int.{int_min, int_max}
use Rattle.std.specs.List.{list_any}
use Rattle.std.specs.Option.{option_map_or}
use Rattle.lump_records.specs.declared.records.Line.{Line}
use Rattle.lump_records.specs.declared.records.Sector.{Sector}
use Rattle.lump_records.specs.declared.records.Thing.{Thing}
use Rattle.lump_records.specs.Sides.{has_left}
use Rattle.lump_records.specs.Things.{thing_place}
use Rattle.map_tables.specs.Tables.{Tables}
use Rattle.map_plane.specs.declared.places.PlacedLine.{PlacedLine}
use Rattle.map_plane.specs.Places.{placed_lines}
use Rattle.map_plane.specs.Squares.{cuts_square}
use Rattle.map_play.specs.declared.bodies.Body.{Body}
use Rattle.map_play.specs.Games.{is_any_start}
use Rattle.map_play.specs.Neighbours.{floor_of}
use Rattle.map_play.specs.Sided.{right_sector_of, left_sector_of}

-- the ceiling of sector n, or 0 past the last one
abbrev pub ceiling_of : List Sector → ℕ → ℤ
ceiling_of ss n = option_map_or (λ s. s.ceiling) (slice_get ss n) (pos 0)

-- how high the opening of a line with two sides is: from the higher floor up to the lower ceiling
unfoldable pub opening_height : Tables → Line → ℤ
opening_height m l =
    int_min (ceiling_of m.sectors (right_sector_of m l)) (ceiling_of m.sectors (left_sector_of m l))
    -ℤ int_max (floor_of m.sectors (right_sector_of m l)) (floor_of m.sectors (left_sector_of m l))

-- the line bars the thing by its flags: it is impassable (1), or it blocks monsters (2), and the thing is no player
abbrev pub is_barred : Thing → Line → Bool
is_barred t l = (l.flags % 2 == 1) || ((l.flags / 2 % 2 == 1) && not (is_any_start t))

-- the line stops a thing of a height: it has no left side, it bars the thing, or its opening is lower than the thing
unfoldable pub stops : Tables → Thing → ℕ → Line → Bool
stops m t height l = not (has_left l) || is_barred t l || int_lt (opening_height m l) (pos height)

-- the line reaches into the thing's square, and stops it
unfoldable pub is_stopped_by : Tables → Thing → Body → PlacedLine → Bool
is_stopped_by m t b l = cuts_square (thing_place t) b.radius l
    && option_map_or (stops m t b.height) (slice_get m.lines l.number) false

-- a line reaches into the thing's square, and stops it
abbrev pub is_walled_in : Tables → Thing → Body → Bool
is_walled_in m t b = list_any (is_stopped_by m t b) (placed_lines m)
