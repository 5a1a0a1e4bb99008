-- Where the edges of an outline stop, and the parts between.
use Rattle.std.specs.Prelude.{ℤ, Bool, ◌&&◌, ◌||◌, ◌+ℤ◌, ◌-ℤ◌, ◌*ℤ◌, int_lt}
use Rattle.std.specs.List.{list_any}
use Rattle.lump_records.specs.declared.records.Vertex.{Vertex}
use Rattle.map_plane.specs.Meeting.{is_at, is_on}
use Rattle.map_plane.specs.Places.{placed_lines}
use Rattle.map_plane.specs.declared.places.PlacedLine.{PlacedLine}
use Rattle.map_tables.specs.Tables.{Tables}
use Rattle.map_areas.specs.Ways.{crosses_way, is_between, runs_along}

-- how far a place is along a line, times the line's length
unfoldable pub far_along : PlacedLine → Vertex → ℤ
far_along l p = (l.to.x -ℤ l.from.x) *ℤ (p.x -ℤ l.from.x)
    +ℤ (l.to.y -ℤ l.from.y) *ℤ (p.y -ℤ l.from.y)

-- along a line the one place comes before the other one
abbrev pub comes_first : PlacedLine → Vertex → Vertex → Bool
comes_first l a b = int_lt (far_along l a) (far_along l b)

-- an edge crosses a line at a place
abbrev pub crosses_at : PlacedLine → Vertex → PlacedLine → Bool
crosses_at e p l = crosses_way e l && is_on l p

-- something meets an edge at a place between its ends: a vertex is there, or a line crosses it there
abbrev pub is_met : Tables → PlacedLine → Vertex → Bool
is_met m e p = is_between e p
    && (list_any (is_at p) m.vertices || list_any (crosses_at e p) (placed_lines m))

-- an edge stops at a place: it begins there, or something meets it there
abbrev pub is_stop : Tables → PlacedLine → Vertex → Bool
is_stop m e p = is_at e.from p || is_met m e p

-- a way leads along an edge, and in its direction
abbrev pub leads_along : PlacedLine → PlacedLine → Bool
leads_along w e = runs_along w e && comes_first e w.from w.to

-- a way leads along an edge from a stop to another one, or to the edge's end
abbrev pub is_between_stops : Tables → PlacedLine → PlacedLine → Bool
is_between_stops m w e = leads_along w e && is_stop m e w.from
    && (is_stop m e w.to || is_at e.to w.to)
