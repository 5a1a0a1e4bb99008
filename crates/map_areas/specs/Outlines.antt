-- The outline of a shape: its corners in order, and the edges between them.
use Rattle.std.specs.Prelude.{◌≡◌, ℕ, ◌+◌, Bool, ◌||◌, true, false, if◌then◌else◌, List, find, length, map, nat_lt, reverse, slice_get, unwrap_or, Option, Some, None, Result, Ok, Err, pos, int_lt}
use Rattle.std.specs.List.{enumerate_from}
use Rattle.std.specs.Option.{option_map, option_or}
use Rattle.std.specs.Ordering.{int_eq}
use Rattle.lump_records.specs.declared.records.Vertex.{Vertex}
use Rattle.map_areas.specs.declared.error.AreaError.{AreaError}
use Rattle.map_areas.specs.declared.error.AreaError.TheVariants.{NotAPolygon, OutOfMemory}
use Rattle.map_plane.specs.Polygon.{has_clash, polygon_area}
use Rattle.map_plane.specs.declared.places.PlacedLine.{PlacedLine}

-- the corner after one with its number: after the last comes the first
abbrev pub next_corner : List Vertex → ℕ × Vertex → Vertex
next_corner cs corner =
    unwrap_or (option_or (slice_get cs (corner.0 + 1)) (slice_get cs 0)) corner.1

-- the edge that begins at a corner, and has the corner's number
abbrev pub edge_from : List Vertex → ℕ × Vertex → PlacedLine
edge_from cs corner = record {
  number = corner.0;
  from = corner.1;
  to = next_corner cs corner;
  is_wall = false;
}

-- the edges from each corner to the next one, and from the last to the first
abbrev pub outline_edges : List Vertex → List PlacedLine
outline_edges cs = map (edge_from cs) (enumerate_from 0 cs)

-- the edges run clockwise: the inside is on their right
abbrev pub runs_clockwise : List PlacedLine → Bool
runs_clockwise es = int_lt (pos 0) (polygon_area es)

-- the edges of an outline, clockwise or the other way round, whichever way the corners stand
abbrev pub edges_round : Bool → List Vertex → List PlacedLine
edges_round true cs =
    if runs_clockwise (outline_edges cs) then outline_edges cs else outline_edges (reverse cs)
edges_round false cs =
    if runs_clockwise (outline_edges cs) then outline_edges (reverse cs) else outline_edges cs

-- the corners are too few for a polygon, or it has no area
abbrev pub lacks_area : List PlacedLine → Bool
lacks_area es = nat_lt (length es) 3 || int_eq (polygon_area es) (pos 0)

-- the place of the first corner; without corners that of the origin
abbrev pub first_corner : List PlacedLine → Vertex
first_corner es =
    unwrap_or (option_map (λ e. e.from) (slice_get es 0)) (record { x = pos 0; y = pos 0 })

-- the corner at which edges are no simple polygon: where the first edge begins that clashes with another one, or else
-- the first corner if they have no area; none if they are a simple polygon
abbrev pub bad_corner : List PlacedLine → Option Vertex
bad_corner es = option_or (option_map (λ e. e.from) (find (has_clash es) es))
    (if lacks_area es then Some (first_corner es) else None)

-- a refusal is 25 exactly if the corners are no simple polygon, and names the corner; memory may lack before that is
-- known
abbrev pub JudgesRefusal : List Vertex → AreaError → Type 0
JudgesRefusal cs (NotAPolygon corner) = bad_corner (outline_edges cs) ≡ Some corner
JudgesRefusal cs OutOfMemory = Unit {0}
JudgesRefusal cs e = bad_corner (outline_edges cs) ≡ None

-- 25 comes exactly if the corners are no simple polygon
abbrev pub JudgesCorners : {X : Type 0} → List Vertex → Result X AreaError → Type 0
JudgesCorners cs (Ok x) = bad_corner (outline_edges cs) ≡ None
JudgesCorners cs (Err e) = JudgesRefusal cs e
