-- A drawing under way: a copy of a map, and the commands that were drawn into it so far.
use Rattle.std.specs.Prelude.{◌≡◌, ◌≢◌, ◌<◌, ◌≤◌, ℕ, Bool, true, false, not, if◌then◌else◌, All, List, Option, Some, length, slice_get}
use Rattle.std.specs.List.{list_any}
use Rattle.lump_records.specs.Sides.{no_side}
use Rattle.lump_records.specs.declared.records.Line.{Line}
use Rattle.lump_records.specs.declared.records.Vertex.{Vertex}
use Rattle.map_plane.specs.Meeting.{is_on}
use Rattle.map_plane.specs.Places.{placed}
use Rattle.map_plane.specs.declared.places.PlacedLine.{PlacedLine}
use Rattle.map_tables.specs.Ranges.{IsLine, IsNamed, IsSide, IsVertex, is_name}
use Rattle.map_tables.specs.Tables.{Tables}
use Rattle.map_tables.specs.WellFormed.{HasEnds, HasSides, WellFormed, nth_vertex}
use Rattle.map_tables.specs.Outcomes.{least}
use Rattle.map_commands.specs.Step.{faults}
use Rattle.map_commands.specs.declared.command.Command.{Command}
use Rattle.map_areas.specs.Apart.{KeepsAlone, KeepsRecord, is_alone}
use Rattle.map_areas.specs.Bordered.{faces_sector, is_walled, leads}
use Rattle.map_areas.specs.Drawn.{DrawsOn, IsOfRoom, LeadTo}
use Rattle.map_areas.specs.Stays.{BecomesLine, BecomesSide, EachBecomes, HasFieldsOf}
use Rattle.map_areas.specs.Ways.{is_left_of_way, sector_by_side}
use Rattle.map_areas.specs.declared.border.Border.{Border}
use Rattle.map_areas.specs.declared.border.CutEdge.{CutEdge}
use Rattle.map_areas.specs.declared.drawing.Drawing.{Drawing}
use Rattle.map_areas.specs.declared.sharing.LineSide.{LineSide}
use Rattle.map_areas.specs.declared.sharing.Paint.{Paint}

-- a vertex may be drawn at the place: it is in range, and lies on one of the edges
pub record IsOnBorder (es : List PlacedLine) (p : Vertex) : Type 0 where
  pub range : IsVertex p
  pub outline : list_any (λ e. is_on e p) es ≡ true

-- so at each place where an edge begins, ends and is cut
pub record IsCutOnBorder (es : List PlacedLine) (c : CutEdge) : Type 0 where
  pub from : IsOnBorder es c.edge.from
  pub to : IsOnBorder es c.edge.to
  pub cuts : All (IsOnBorder es) c.cuts.items

-- the outline doesn't leave the line with the number alone
abbrev pub IsTaken : Tables → Border → ℕ → Type 0
IsTaken m b n = (l : Line) → slice_get m.lines n ≡ Some l
    → is_alone b.edges.items b.doubled.items (placed m (n, l)) ≡ true → ⊥

-- what became of a line so far: its flags are still its own if it has no left side
pub record BecameLine (old new : Line) : Type 0 where
  pub line : BecomesLine old new
  pub flags : new.left ≡ no_side → new.flags ≡ old.flags

-- the same of a part of a line
pub record BecamePart (old new : Line) : Type 0 where
  pub part : HasFieldsOf old new
  pub flags : new.left ≡ no_side → new.flags ≡ old.flags

-- each line is covered by its parts so far
abbrev pub AreParted : Tables → Tables → Type 0
AreParted old new = (n : ℕ) (l : Line) → slice_get old.lines n ≡ Some l
    → (p : Vertex) → is_on (placed old (n, l)) p ≡ true
    → (k : ℕ) × (x : Line) × (slice_get new.lines k ≡ Some x) × BecamePart l x
    × (is_on (placed new (k, x)) p ≡ true)

-- what became of a map's sides and lines so far is what an area makes of them, and the outline's lines alone changed
pub record IsBecoming (m : Tables) (b : Border) (round : Option ℕ) (new : Tables) : Type 0 where
  pub sides : EachBecomes (BecomesSide round (length m.sectors)) m.sides new.sides
  pub lines : EachBecomes BecameLine m.lines new.lines
  pub parts : AreParted m new
  pub alone : (n : ℕ) → KeepsAlone b.edges.items b.doubled.items m new n

-- the copy is the map that the commands lead to, which draw on the edges
pub record IsLedOn (m : Tables) (b : Border) (d : Drawing) : Type 0 where
  pub led : LeadTo m d.commands.items d.map.tables
  pub drawing : All (DrawsOn b.edges.items) d.commands.items

-- a drawing of an area under way: the lists are those of the copy, the commands led to it, the new sector is there, and
-- nothing else became of the map than an area makes of it
pub record IsUnderway (m : Tables) (b : Border) (round : Option ℕ) (d : Drawing) : Type 0 where
  pub sectors : length m.sectors < length d.map.tables.sectors
  pub led : IsLedOn m b d
  pub vertices : d.vertices.items ≡ d.map.tables.vertices
  pub lines : d.lines.items ≡ d.map.tables.lines
  pub becoming : IsBecoming m b round d.map.tables

-- a line keeps its record, its sides and the places of its ends
pub record KeepsLine (old new : Tables) (n : ℕ) (l : Line) : Type 0 where
  pub kept : KeepsRecord old new n l
  pub from : nth_vertex new.vertices l.v1 ≡ nth_vertex old.vertices l.v1
  pub to : nth_vertex new.vertices l.v2 ≡ nth_vertex old.vertices l.v2

-- each line does so
abbrev pub KeepsLines : Tables → Tables → Type 0
KeepsLines old new = (n : ℕ) (l : Line) → slice_get old.lines n ≡ Some l → KeepsLine old new n l

-- each line but the one with the number does so
abbrev pub KeepsLinesBut : ℕ → Tables → Tables → Type 0
KeepsLinesBut k old new =
    (n : ℕ) (l : Line) → (n ≡ k → ⊥) → slice_get old.lines n ≡ Some l → KeepsLine old new n l

-- a line may be drawn, unless it is too long or there is no room: what it names is there, its ends differ, and it has a
-- left side if it is two-sided
pub record IsFitting (m : Tables) (l : Line) : Type 0 where
  pub v1 : l.v1 < length m.vertices
  pub v2 : l.v2 < length m.vertices
  pub differ : l.v1 ≢ l.v2
  pub sides : HasSides m.sides l

-- the map refuses a command for want of room or for its length alone
abbrev pub IsRefusedForRoom : Tables → Command → Type 0
IsRefusedForRoom m c = (code : ℕ) → least (faults m c) ≡ Some code → IsOfRoom code

-- no line but the one with the number has the side
abbrev pub IsSole : List Line → ℕ → ℕ → Type 0
IsSole ls n side = (k : ℕ) (l : Line) → (k ≡ n → ⊥) → slice_get ls k ≡ Some l
    → (l.right ≡ side → ⊥) × (l.left ≡ side → ⊥)

-- the ways along which lines divide the sector from what was there still have such lines
abbrev pub KeepsWalls : Tables → ℕ → Tables → Tables → Type 0
KeepsWalls m sector old new = (w : PlacedLine)
    → is_walled m old sector w ≡ true → is_walled m new sector w ≡ true

-- a line's side on the right, or else on the left
abbrev pub side_on : Bool → Line → ℕ
side_on true l = l.right
side_on false l = l.left

-- what an area is painted with in a map: the number of the new sector, which comes after those of the map, and a
-- texture's name
pub record IsPaint (m : Tables) (p : Paint) : Type 0 where
  pub well_formed : WellFormed m
  pub sector : p.sector ≡ length m.sectors
  pub room : length m.sectors ≤ 4095
  pub wall : IsNamed is_name p.wall

-- a line leads the whole way, there if it runs so, or back, with the sector on the right of the way, and on its left
-- what it faces there, a sector or the void
pub record IsWall (new : Tables) (sector : ℕ) (faced : Option ℕ) (w : PlacedLine) (runs : Bool)
    : Type 0 where
  pub number : ℕ
  pub line : Line
  pub there : slice_get new.lines number ≡ Some line
  pub leads : leads (if runs then w.from else w.to) (if runs then w.to else w.from)
      (placed new (number, line)) ≡ true
  pub inner : sector_by_side new (side_on runs line) ≡ Some sector
  pub outer : sector_by_side new (side_on (not runs) line) ≡ faced

-- neither side of a line faces the sector
pub record IsUnfaced (m : Tables) (sector : ℕ) (l : Line) : Type 0 where
  pub right : faces_sector m l.right sector ≡ false
  pub left : faces_sector m l.left sector ≡ false

-- a side of a line of a map, as it stands there
pub record IsSideOf (m : Tables) (s : LineSide) : Type 0 where
  pub line_number : s.number ≤ 32766
  pub line : slice_get m.lines s.number ≡ Some s.line
  pub side : slice_get m.sides (side_on s.on_right s.line) ≡ Some s.side
  pub number : side_on s.on_right s.line ≤ 32766
  pub line_range : IsLine s.line
  pub ends : HasEnds m.vertices s.line
  pub sides : HasSides m.sides s.line
  pub side_range : IsSide s.side
  pub sector : s.side.sector < length m.sectors

-- an area may take a side of a line of the drawing, which leads the whole way, there if it runs so, or back: the
-- outline doesn't leave it alone, neither side faces the new sector, and what was on the left of the way is there still
pub record IsShared (m : Tables) (b : Border) (sector : ℕ) (new : Tables) (w : PlacedLine)
    (runs : Bool) (s : LineSide) : Type 0 where
  pub own : IsSideOf new s
  pub taken : IsTaken m b s.number
  pub leads : leads (if runs then w.from else w.to) (if runs then w.to else w.from)
      (placed new (s.number, s.line)) ≡ true
  pub free : IsUnfaced new sector s.line
  pub outer : is_left_of_way m w (sector_by_side new (side_on (not runs) s.line)) ≡ true

-- as the drawing goes on, a line that leads the whole way becomes a wall with the sector on the right of the way, and
-- with what it has on its left
abbrev pub BecomesWall : Tables → ℕ → Tables → Bool → LineSide → Type 0
BecomesWall old sector new runs s = (w : PlacedLine)
    → leads (if runs then w.from else w.to) (if runs then w.to else w.from)
    (placed old (s.number, s.line)) ≡ true
    → IsWall new sector (sector_by_side old (side_on (not runs) s.line)) w runs
