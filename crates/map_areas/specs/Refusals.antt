-- What a refusal of a shape says of the map.
use Rattle.std.specs.Prelude.{◌≡◌, ℕ, All, Bool, true, false, ◌&&◌, ◌||◌, not, List, None, Some, is_none, slice_get}
use Rattle.std.specs.List.{list_any}
use Rattle.std.specs.Option.{option_map_or}
use Rattle.lump_records.specs.declared.records.Name8.{Name8}
use Rattle.lump_records.specs.declared.records.Vertex.{Vertex}
use Rattle.map_plane.specs.Meeting.{has_on_both_sides, is_at, is_on}
use Rattle.map_plane.specs.Nearest.{sector_of_place}
use Rattle.map_plane.specs.Places.{placed_lines}
use Rattle.map_plane.specs.Polygon.{is_inside}
use Rattle.map_plane.specs.declared.places.PlacedLine.{PlacedLine}
use Rattle.map_tables.specs.Tables.{Tables}
use Rattle.map_areas.specs.declared.error.AreaError.{AreaError}
use Rattle.map_areas.specs.declared.error.AreaError.TheVariants.{Crossing, NotAPolygon, NotEmpty, OutOfMemory, OutOfRange, OverVertex, Refused, SeveralSectors}
use Rattle.map_areas.specs.declared.error.Part.{Part}
use Rattle.map_areas.specs.Drawn.{RefusesInTurn, first_refusal}
use Rattle.map_areas.specs.Inside.{IsPartInside}
use Rattle.map_areas.specs.Pillars.{pillar_drawn}
use Rattle.map_areas.specs.Stops.{is_between_stops}
use Rattle.map_areas.specs.Ways.{crosses_way, is_clear, is_same, sector_on_right, way}
use Rattle.map_tables.specs.Errors.{code_of}

-- two lines have a point in common: they cross, or an end of one lies on the other
abbrev pub touches : PlacedLine → PlacedLine → Bool
touches l k = (has_on_both_sides l k && has_on_both_sides k l)
    || is_on l k.from || is_on l k.to || is_on k l.from || is_on k l.to

-- a line has a point in common with an edge of the outline, or lies inside it
abbrev pub is_in_the_way : List PlacedLine → PlacedLine → Bool
is_in_the_way es l = list_any (λ e. touches e l) es || is_inside es l.from

-- the line with the number is there, and isn't wholly outside
abbrev pub IsLineInside : Tables → List PlacedLine → ℕ → Type 0
IsLineInside m es n = option_map_or (is_in_the_way es) (slice_get (placed_lines m) n) false ≡ true

-- the vertex with the number is there, and lies on an edge
abbrev pub IsVertexUnder : Tables → List PlacedLine → ℕ → Type 0
IsVertexUnder m es n =
    option_map_or (λ v. list_any (λ e. is_on e v) es) (slice_get m.vertices n) false ≡ true

-- an edge leads from one place to the other, and the first one belongs to the sector that is told, or to the void
abbrev pub is_corner_part : Tables → List PlacedLine → Part → Bool
is_corner_part m es p = list_any (λ e. is_at e.from p.from && is_at e.to p.to) es
    && is_same (sector_of_place m p.from) p.sector

-- the second of two corners belongs to no sector, or to another one than the first
abbrev pub are_apart : Tables → List PlacedLine → Part → Part → Bool
are_apart m es first second = is_corner_part m es first && is_corner_part m es second
    && (is_none second.sector || not (is_same first.sector second.sector))

-- each corner of an outline belongs to the sector
abbrev pub AreInSector : Tables → List PlacedLine → ℕ → Type 0
AreInSector m es sector = All (λ e. sector_of_place m e.from ≡ Some sector) es

-- no reason refuses a pillar: its corners are in one sector, each line is wholly outside, and no vertex lies under an
-- edge
pub record MayStand (m : Tables) (es : List PlacedLine) : Type 0 where
  pub corners : (first second : Part) → are_apart m es first second ≡ false
  pub lines : (n : ℕ) → IsLineInside m es n → ⊥
  pub vertices : (n : ℕ) → IsVertexUnder m es n → ⊥

-- what is there refuses a pillar: with 27 only if its corners aren't in one sector, with 28 only if a line isn't wholly
-- outside or a vertex lies under an edge
abbrev pub IsStandRefusal : Tables → List PlacedLine → AreaError → Type 0
IsStandRefusal m es (SeveralSectors first second) = are_apart m es first second ≡ true
IsStandRefusal m es (NotEmpty line) = IsLineInside m es line
IsStandRefusal m es (OverVertex vertex) = IsVertexUnder m es vertex
IsStandRefusal m es e = ⊥

-- a pillar that may stand, with its corners in a sector, is refused with the code: that of the first of the commands
-- which draw it, in turn, that the map refuses
pub record RefusesWalls (m : Tables) (es : List PlacedLine) (texture : Name8) (code : ℕ)
    : Type 0 where
  pub stands : MayStand m es
  pub sector : ℕ
  pub corners : AreInSector m es sector
  pub refused : first_refusal m (pillar_drawn m es texture sector) ≡ Some code

-- a pillar is refused for its outline or its ranges, for what is there, as one of its commands is, or for lack of
-- memory; never with 26
abbrev pub IsPillarRefusal : Tables → List PlacedLine → Name8 → AreaError → Type 0
IsPillarRefusal m es texture (NotAPolygon corner) = Unit {0}
IsPillarRefusal m es texture OutOfRange = Unit {0}
IsPillarRefusal m es texture OutOfMemory = Unit {0}
IsPillarRefusal m es texture (Refused e) = RefusesWalls m es texture (code_of e)
IsPillarRefusal m es texture e = IsStandRefusal m es e

-- the refusal is that of an outline, or memory lacks
abbrev pub IsOfOutline : AreaError → Type 0
IsOfOutline (NotAPolygon corner) = Unit {0}
IsOfOutline OutOfMemory = Unit {0}
IsOfOutline e = ⊥

-- no whole place lies on both lines
abbrev pub HaveNoPlace : PlacedLine → PlacedLine → Type 0
HaveNoPlace l k = (p : Vertex) → (is_on l p && is_on k p) ≡ false

-- the edge crosses the line with the number, and no whole place lies on both
abbrev pub CrossesBetween : List PlacedLine → PlacedLine → ℕ → Type 0
CrossesBetween ls e n = (l : PlacedLine) × (slice_get ls n ≡ Some l) × (crosses_way e l ≡ true)
    × HaveNoPlace e l

-- the crossing of an edge and the line with the number is refused with 26 only if no whole place lies on both
abbrev pub IsCrossingRefusal : PlacedLine → PlacedLine → ℕ → AreaError → Type 0
IsCrossingRefusal e l n (Crossing line near) = (line ≡ n) × HaveNoPlace e l
IsCrossingRefusal e l n _ = ⊥

-- an edge is refused with 26 only if it crosses the line so
abbrev pub IsEdgeRefusal : List PlacedLine → PlacedLine → AreaError → Type 0
IsEdgeRefusal ls e (Crossing line near) = CrossesBetween ls e line
IsEdgeRefusal ls e OutOfMemory = Unit {0}
IsEdgeRefusal ls e _ = ⊥

-- one of the edges crosses the line with the number so
abbrev pub OneCrosses : List PlacedLine → List PlacedLine → ℕ → Type 0
OneCrosses ls es n = (k : ℕ) × (e : PlacedLine) × (slice_get es k ≡ Some e) × CrossesBetween ls e n

-- the same of the edges of an outline
abbrev pub AreEdgesRefused : List PlacedLine → List PlacedLine → AreaError → Type 0
AreEdgesRefused ls es (Crossing line near) = OneCrosses ls es line
AreEdgesRefused ls es OutOfMemory = Unit {0}
AreEdgesRefused ls es _ = ⊥

-- where an edge crosses a line, a whole place lies on both
abbrev pub CrossWhole : List PlacedLine → List PlacedLine → Type 0
CrossWhole ls es = (n : ℕ) → OneCrosses ls es n → ⊥

-- the refusal is that of a border along which there are several sectors
abbrev pub IsOfSectors : AreaError → Type 0
IsOfSectors (SeveralSectors first second) = Unit {0}
IsOfSectors e = ⊥

-- a part of the border leads along an edge from stop to stop, meets nothing between, and has on its right, which is
-- inside, the sector that is told, or the void
abbrev pub is_border_part : Tables → List PlacedLine → Part → Bool
is_border_part m es p = list_any (is_between_stops m (way p.from p.to)) es
    && is_clear m (way p.from p.to) && is_same (sector_on_right m (way p.from p.to)) p.sector

-- two parts of the border have different sectors inside, or one of them the void
abbrev pub are_several : Tables → List PlacedLine → Part → Part → Bool
are_several m es first second = is_border_part m es first && is_border_part m es second
    && not (is_same first.sector second.sector)

-- the void is along a part of the border, and a part of the line with the number lies inside
abbrev pub LiesInVoid : Tables → List PlacedLine → List PlacedLine → ℕ → Type 0
LiesInVoid m es ds n = (p : Part) × (is_border_part m es p ≡ true) × (p.sector ≡ None)
    × IsPartInside m es ds n

-- an area is refused with 26 only if an edge crosses a line at no whole place, with 27 only if two parts of its border
-- have different sectors inside, with 28 only if a part of a line lies inside in the void, by the edges at twice the
-- size, and as a command is only if it is drawn by commands that aren't all taken
abbrev pub IsAreaRefusal : Tables → List PlacedLine → List PlacedLine → AreaError → Type 0
IsAreaRefusal m es ds (Crossing line near) = OneCrosses (placed_lines m) es line
IsAreaRefusal m es ds (SeveralSectors first second) = are_several m es first second ≡ true
IsAreaRefusal m es ds (NotEmpty line) = LiesInVoid m es ds line
IsAreaRefusal m es ds (OverVertex vertex) = ⊥
IsAreaRefusal m es ds (Refused e) = RefusesInTurn es m (code_of e)
IsAreaRefusal m es ds e = Unit {0}

-- lines in the void are refused with 28 only if a part of the one that is told lies inside
abbrev pub IsInsideRefusal : Tables → List PlacedLine → List PlacedLine → AreaError → Type 0
IsInsideRefusal m es ds (NotEmpty line) = IsPartInside m es ds line
IsInsideRefusal m es ds OutOfMemory = Unit {0}
IsInsideRefusal m es ds e = ⊥
