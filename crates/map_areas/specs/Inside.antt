-- What lies inside an outline: parts of lines.
use Rattle.std.specs.Prelude.{◌≡◌, ℕ, Bool, true, ◌&&◌, ◌||◌, not, List, Some, slice_get}
use Rattle.std.specs.List.{list_any}
use Rattle.lump_records.specs.declared.records.Vertex.{Vertex}
use Rattle.map_plane.specs.Meeting.{is_at, is_on}
use Rattle.map_plane.specs.Places.{placed_lines}
use Rattle.map_plane.specs.Polygon.{is_inside}
use Rattle.map_plane.specs.declared.places.PlacedLine.{PlacedLine}
use Rattle.map_tables.specs.Tables.{Tables}
use Rattle.map_areas.specs.Apart.{place_sum}
use Rattle.map_areas.specs.Stops.{comes_first, is_stop}
use Rattle.map_areas.specs.Ways.{is_between}

-- the middle of two places is inside, and on no edge, by the edges at twice the size
abbrev pub holds_middle : List PlacedLine → Vertex → Vertex → Bool
holds_middle ds a b = is_inside ds (place_sum a b)
    && not (list_any (λ e. is_on e (place_sum a b)) ds)

-- the border stops at a place: one of the edges does
abbrev pub is_border_stop : Tables → List PlacedLine → Vertex → Bool
is_border_stop m es p = list_any (λ e. is_stop m e p) es

-- a line stops at a place: it ends there, or, between its ends, the border stops there
abbrev pub is_line_stop : Tables → List PlacedLine → PlacedLine → Vertex → Bool
is_line_stop m es l p = is_at l.from p || is_at l.to p || (is_between l p && is_border_stop m es p)

-- a way along a line leads forward, or from end to end of a line that has no length
abbrev pub leads_on : PlacedLine → Vertex → Vertex → Bool
leads_on l a b = comes_first l a b || (is_at l.from l.to && is_at l.from a && is_at l.to b)

-- a part of a line leads along it from one stop to the next one
pub record IsLinePart (m : Tables) (es : List PlacedLine) (l : PlacedLine) (a b : Vertex)
    : Type 0 where
  pub start : is_line_stop m es l a ≡ true
  pub end : is_line_stop m es l b ≡ true
  pub along : leads_on l a b ≡ true
  pub none : (p : Vertex) → is_line_stop m es l p ≡ true
      → comes_first l a p ≡ true → comes_first l p b ≡ true → ⊥

-- the middle of a part of a line is inside
abbrev pub HasPartInside : Tables → List PlacedLine → List PlacedLine → PlacedLine → Type 0
HasPartInside m es ds l = (a : Vertex) × (b : Vertex) × IsLinePart m es l a b
    × (holds_middle ds a b ≡ true)

-- the line with the number is there, and a part of it lies inside
abbrev pub IsPartInside : Tables → List PlacedLine → List PlacedLine → ℕ → Type 0
IsPartInside m es ds n = (l : PlacedLine) × (slice_get (placed_lines m) n ≡ Some l)
    × HasPartInside m es ds l
