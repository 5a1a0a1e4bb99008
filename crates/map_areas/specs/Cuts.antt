-- Edges with the places at which they are cut.
use Rattle.std.specs.Prelude.{◌≡◌, ℕ, Bool, ◌&&◌, ◌||◌, List, [], ◌∷◌, Option, map, true, false}
use Rattle.std.specs.List.{list_any}
use Rattle.lump_records.specs.declared.records.Vertex.{Vertex}
use Rattle.map_plane.specs.Meeting.{is_at}
use Rattle.map_plane.specs.Places.{placed_lines}
use Rattle.map_plane.specs.declared.places.PlacedLine.{PlacedLine}
use Rattle.map_tables.specs.Tables.{Tables}
use Rattle.map_areas.specs.Bordered.{are_walled, is_led}
use Rattle.map_areas.specs.Inside.{holds_middle}
use Rattle.map_areas.specs.Refusals.{CrossesBetween}
use Rattle.map_areas.specs.Stops.{comes_first, is_between_stops, is_met}
use Rattle.map_areas.specs.Ways.{is_between, is_clear, is_same, sector_on_right, way}
use Rattle.map_areas.specs.declared.border.CutEdge.{CutEdge}
use Rattle.map_areas.specs.declared.error.AreaError.{AreaError}
use Rattle.map_areas.specs.declared.error.AreaError.TheVariants.{SeveralSectors}
use Rattle.map_areas.specs.declared.error.Part.{Part}

-- the edges alone
abbrev pub uncut : List CutEdge → List PlacedLine
uncut cs = map (λ c. c.edge) cs

-- a cut edge leads through what is told alone, a sector or the void
abbrev pub IsLed : Tables → Option ℕ → CutEdge → Type 0
IsLed m round c = is_led m round c.edge c.edge.from c.cuts.items ≡ true

-- lines lead along a cut edge, with the sector on its right, and on its left what was there
abbrev pub IsWalled : Tables → Tables → ℕ → CutEdge → Type 0
IsWalled old new sector c = are_walled old new sector c.edge c.edge.from c.cuts.items ≡ true

-- places lie on a line, between its ends, each of them further along it than the one before
abbrev pub are_cuts : PlacedLine → Vertex → List Vertex → Bool
are_cuts l from [] = true
are_cuts l from (p ∷ ps) = (is_between l p && comes_first l from p) && are_cuts l p ps

-- these places, in order, are those of others that lie on a line, between its ends
pub record AreCutsOf (l : PlacedLine) (places cuts : List Vertex) : Type 0 where
  pub those : (p : Vertex)
      → list_any (is_at p) cuts ≡ (is_between l p && list_any (is_at p) places)
  pub order : are_cuts l l.from cuts ≡ true

-- an edge is cut where something meets it
abbrev pub IsCutWhereMet : Tables → CutEdge → Type 0
IsCutWhereMet m c = (p : Vertex) → list_any (is_at p) c.cuts.items ≡ is_met m c.edge p

-- an edge with a length is cut where something meets it, in order along it, and crosses lines at whole places alone
pub record IsCutWhole (m : Tables) (c : CutEdge) : Type 0 where
  pub long : is_at c.edge.from c.edge.to ≡ false
  pub met : IsCutWhereMet m c
  pub order : are_cuts c.edge c.edge.from c.cuts.items ≡ true
  pub whole : (n : ℕ) → CrossesBetween (placed_lines m) c.edge n → ⊥

-- a way leads along an edge from stop to stop, and meets nothing between
abbrev pub leads_unmet : Tables → PlacedLine → PlacedLine → Bool
leads_unmet m e w = is_between_stops m w e && is_clear m w

-- so does a part of the edge, which has on its right what is told
abbrev pub is_edge_part : Tables → PlacedLine → Part → Bool
is_edge_part m e p = leads_unmet m e (way p.from p.to)
    && is_same (sector_on_right m (way p.from p.to)) p.sector

-- the refusal names the first part, and one of the edge that has something else on its right
abbrev pub DiffersFrom : Tables → Part → PlacedLine → AreaError → Type 0
DiffersFrom m first e (SeveralSectors one other) = (one ≡ first)
    × (is_edge_part m e other ≡ true) × (is_same other.sector first.sector ≡ false)
DiffersFrom m first e error = ⊥

-- one of the edges begins at the place, or is cut there
abbrev pub is_cut_at : List CutEdge → Vertex → Bool
is_cut_at cs p = list_any (λ c. is_at c.edge.from p || list_any (is_at p) c.cuts.items) cs

-- the middle of one of the parts is inside into which the cuts divide the rest of a line from a place on
abbrev pub holds_part : List PlacedLine → PlacedLine → Vertex → List Vertex → Bool
holds_part ds l from [] = holds_middle ds from l.to
holds_part ds l from (p ∷ ps) = holds_middle ds from p || holds_part ds l p ps
