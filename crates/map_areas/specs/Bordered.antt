-- The border of an area that was drawn: lines that cover each edge of its outline, end to end.
use Rattle.std.specs.Prelude.{◌≡◌, ℕ, Bool, true, false, ◌&&◌, ◌||◌, ◌==◌, not, All, Option, List, [], ◌∷◌, slice_get}
use Rattle.std.specs.List.{list_any}
use Rattle.std.specs.Option.{option_map_or}
use Rattle.lump_records.specs.declared.records.Vertex.{Vertex}
use Rattle.map_plane.specs.Meeting.{is_at}
use Rattle.map_plane.specs.Places.{placed_lines}
use Rattle.map_plane.specs.declared.places.PlacedLine.{PlacedLine}
use Rattle.map_tables.specs.Tables.{Tables}
use Rattle.map_areas.specs.Stops.{comes_first, is_stop}
use Rattle.map_areas.specs.Ways.{is_clear, is_left_of_way, is_same, sector_by_side, sector_on_right, way}

-- there is a side with this number, and it faces the sector
abbrev pub faces_sector : Tables → ℕ → ℕ → Bool
faces_sector m side sector = option_map_or (λ s. s.sector == sector) (slice_get m.sides side) false

-- the one side faces the sector; the other one doesn't, and shows what was on the left of the way, or is missing where
-- that was the void
abbrev pub divides : Tables → Tables → ℕ → PlacedLine → ℕ → ℕ → Bool
divides old new sector w inner outer = faces_sector new inner sector
    && not (faces_sector new outer sector) && is_left_of_way old w (sector_by_side new outer)

-- the line with a number divides the sector, on its right, from what was on the left of the way
abbrev pub has_on_right : Tables → Tables → ℕ → PlacedLine → ℕ → Bool
has_on_right old new sector w n =
    option_map_or (λ l. divides old new sector w l.right l.left) (slice_get new.lines n) false

-- the same of the sector on the line's left
abbrev pub has_on_left : Tables → Tables → ℕ → PlacedLine → ℕ → Bool
has_on_left old new sector w n =
    option_map_or (λ l. divides old new sector w l.left l.right) (slice_get new.lines n) false

-- a line leads from one place to another
abbrev pub leads : Vertex → Vertex → PlacedLine → Bool
leads from to l = is_at l.from from && is_at l.to to

-- a line leads the whole way, there or back: the sector is on the right of the way, and on its left what was there
abbrev pub is_wall_along : Tables → Tables → ℕ → PlacedLine → PlacedLine → Bool
is_wall_along old new sector w l =
    (leads w.from w.to l && has_on_right old new sector w l.number)
    || (leads w.to w.from l && has_on_left old new sector w l.number)

-- one line does so
abbrev pub is_walled : Tables → Tables → ℕ → PlacedLine → Bool
is_walled old new sector w = list_any (is_wall_along old new sector w) (placed_lines new)

-- a way along an edge from one place to a further one: it meets nothing between its ends, and on its right is what is
-- told, a sector or the void
abbrev pub is_led_to : Tables → Option ℕ → PlacedLine → Vertex → Vertex → Bool
is_led_to m round e from to = comes_first e from to && is_clear m (way from to)
    && is_same (sector_on_right m (way from to)) round

-- so the rest of an edge from a place on, over these stops
abbrev pub is_led : Tables → Option ℕ → PlacedLine → Vertex → List Vertex → Bool
is_led m round e from [] = is_led_to m round e from e.to
is_led m round e from (p ∷ ps) =
    (is_stop m e p && is_led_to m round e from p) && is_led m round e p ps

-- lines lead so along the rest of an edge, from each of these places to the next one
abbrev pub are_walled : Tables → Tables → ℕ → PlacedLine → Vertex → List Vertex → Bool
are_walled old new sector e from [] = is_walled old new sector (way from e.to)
are_walled old new sector e from (p ∷ ps) =
    is_walled old new sector (way from p) && are_walled old new sector e p ps

-- lines lead along the edge from stop to stop, with the new sector on its right in place of what was round, and on its
-- left what was there
abbrev pub IsCovered : Tables → Tables → Option ℕ → ℕ → PlacedLine → Type 0
IsCovered old new round sector e = (ps : List Vertex) × (is_led old round e e.from ps ≡ true)
    × (are_walled old new sector e e.from ps ≡ true)

-- lines cover each edge so
abbrev pub IsBordered : List PlacedLine → Option ℕ → ℕ → Tables → Tables → Type 0
IsBordered es round sector old new = All (IsCovered old new round sector) es
