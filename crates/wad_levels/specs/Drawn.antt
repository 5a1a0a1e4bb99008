-- What was drawn of a level in any WAD, and the first cause why no level can be built of it
-- (docs/FORMAT.md, "Levels of other WADs").
use Rattle.std.specs.Prelude.{◌≡◌, ◌⊎◌, ℕ, ◌%◌, ℤ, pos, negsuc, int_le, Bool, if◌then◌else◌, not, ◌&&◌, ◌||◌, ◌==◌, nat_lt, nat_le, List, [], length, get_or, position, Option, Some, None}
use Rattle.std.specs.Option.{option_map, option_map_or, option_or}
use Rattle.lump_records.specs.Drawing.{squared_distance, longest_squared}
use Rattle.lump_records.specs.Lumps.{records_of}
use Rattle.lump_records.specs.Records.{thing_at, line_at, side_at, vertex_at, sector_at}
use Rattle.lump_records.specs.Sides.{has_left}
use Rattle.lump_records.specs.declared.records.Thing.{Thing}
use Rattle.lump_records.specs.declared.records.Line.{Line}
use Rattle.lump_records.specs.declared.records.Side.{Side}
use Rattle.lump_records.specs.declared.records.Vertex.{Vertex}
use Rattle.lump_records.specs.declared.records.Sector.{Sector}
use Rattle.wad_file.specs.Directory.{entry, is_outside, standing}
use Rattle.wad_levels.specs.Entries.{lump_entry}
use Rattle.wad_levels.specs.declared.drawn.Drawn.{Drawn}
use Rattle.wad_levels.specs.declared.entries.LevelEntries.{LevelEntries}
use Rattle.wad_levels.specs.declared.entries.LevelForm.{LevelForm}
use Rattle.wad_levels.specs.declared.entries.LevelForm.TheVariants.{Doom, Hexen, Udmf}
use Rattle.wad_levels.specs.declared.hindrance.Hindrance.{Hindrance}
use Rattle.wad_levels.specs.declared.hindrance.Hindrance.TheVariants.{UdmfLevel, HexenLevel, LumpMissing, LumpOutside, LumpLength, SideSector, NoLine, OutOfMemory, LineLacks}
use Rattle.wad_levels.specs.declared.hindrance.LineNeed.{LineNeed}
use Rattle.wad_levels.specs.declared.hindrance.LineNeed.TheVariants.{Vertices, RightSide, LeftSide, SomeLength, Coordinates, AtMostLongest}

-- what was drawn of a level, and the bytes of its REJECT
pub record DrawnLists : Type 0 where
  pub things : List Thing
  pub lines : List Line
  pub sides : List Side
  pub vertices : List Vertex
  pub sectors : List Sector
  pub reject : List ℕ

-- the bytes of the level's lump of this number, or none where it has none
abbrev pub level_lump : List ℕ → LevelEntries → ℕ → List ℕ
level_lump wad l n = option_map_or (standing wad) (lump_entry wad l n) []

-- what was drawn of the level
abbrev pub drawn_lists : List ℕ → LevelEntries → DrawnLists
drawn_lists wad l =
    record {
      things = records_of thing_at 10 (level_lump wad l 0);
      lines = records_of line_at 14 (level_lump wad l 1);
      sides = records_of side_at 30 (level_lump wad l 2);
      vertices = records_of vertex_at 4 (level_lump wad l 3);
      sectors = records_of sector_at 26 (level_lump wad l 7);
      reject = level_lump wad l 8;
    }

-- the lists that a `Drawn` holds
abbrev pub drawn_view : Drawn → DrawnLists
drawn_view d =
    record {
      things = d.things.items;
      lines = d.lines.items;
      sides = d.sides.items;
      vertices = d.vertices.items;
      sectors = d.sectors.items;
      reject = d.reject.items;
    }

-- ---- what hinders a build

-- a level in another form than Doom's
abbrev pub form_hindrance : LevelForm → Option Hindrance
form_hindrance Doom = None
form_hindrance Hexen = Some HexenLevel
form_hindrance Udmf = Some UdmfLevel

-- a lump with records of this size that ends beyond the file, or is no whole number of them
abbrev pub entry_hindrance : List ℕ → ℕ → ℕ → ℕ → Option Hindrance
entry_hindrance wad n size k =
    if is_outside wad (entry wad k) then Some (LumpOutside n)
    else (if ((entry wad k).size % size) == 0 then None else Some (LumpLength n))

-- the level's lump of this number, which is missing, or hinders so
abbrev pub lump_hindrance : List ℕ → LevelEntries → ℕ → ℕ → Option Hindrance
lump_hindrance wad l n size =
    option_map_or (entry_hindrance wad n size) (lump_entry wad l n) (Some (LumpMissing n))

-- the first of the level's form, and of its five drawn lumps
abbrev pub entries_hindrance : List ℕ → LevelEntries → Option Hindrance
entries_hindrance wad l =
    option_or (form_hindrance l.form)
    (option_or (lump_hindrance wad l 0 10)
    (option_or (lump_hindrance wad l 1 14)
    (option_or (lump_hindrance wad l 2 30)
    (option_or (lump_hindrance wad l 3 4) (lump_hindrance wad l 7 26)))))

-- the number is that of one of so many items, and at most 32,767
abbrev pub is_item_number : ℕ → ℕ → Bool
is_item_number n count = nat_lt n count && nat_le n 32767

-- the number is a coordinate that maps may have
abbrev pub is_coordinate : ℤ → Bool
is_coordinate z = int_le (negsuc 16383) z && int_le z (pos 16383)

-- both coordinates of the vertex are ones that maps may have
abbrev pub is_drawable : Vertex → Bool
is_drawable v = is_coordinate v.x && is_coordinate v.y

-- the vertex of this number
abbrev pub drawn_vertex : DrawnLists → ℕ → Vertex
drawn_vertex d n = get_or d.vertices n (record { x = pos 0; y = pos 0 })

-- the squared length of a line
abbrev pub squared_length : DrawnLists → Line → ℕ
squared_length d x = squared_distance (drawn_vertex d x.v1) (drawn_vertex d x.v2)

-- the line has what a build needs
abbrev pub has_need : DrawnLists → LineNeed → Line → Bool
has_need d Vertices x = is_item_number x.v1 (length d.vertices)
    && is_item_number x.v2 (length d.vertices)
has_need d RightSide x = is_item_number x.right (length d.sides)
has_need d LeftSide x = not (has_left x) || is_item_number x.left (length d.sides)
has_need d SomeLength x = nat_lt 0 (squared_length d x)
has_need d Coordinates x = is_drawable (drawn_vertex d x.v1) && is_drawable (drawn_vertex d x.v2)
has_need d AtMostLongest x = nat_le (squared_length d x) longest_squared

-- the first line that lacks it
abbrev pub line_hindrance : DrawnLists → LineNeed → Option Hindrance
line_hindrance d need =
    option_map (LineLacks need) (position (λ x. not (has_need d need x)) d.lines)

-- the first side whose sector isn't there
abbrev pub side_hindrance : DrawnLists → Option Hindrance
side_hindrance d =
    option_map SideSector (position (λ s. not (is_item_number s.sector (length d.sectors))) d.sides)

-- the first line or side that names what isn't there
abbrev pub reference_hindrance : DrawnLists → Option Hindrance
reference_hindrance d =
    option_or (line_hindrance d Vertices)
    (option_or (side_hindrance d)
    (option_or (line_hindrance d RightSide) (line_hindrance d LeftSide)))

-- the first line that lies where none may
abbrev pub length_hindrance : DrawnLists → Option Hindrance
length_hindrance d =
    option_or (line_hindrance d SomeLength)
    (option_or (line_hindrance d Coordinates) (line_hindrance d AtMostLongest))

-- the first hindrance of the lists, kind by kind
abbrev pub lists_hindrance : DrawnLists → Option Hindrance
lists_hindrance d =
    option_or (reference_hindrance d)
    (option_or (length_hindrance d) (if length d.lines == 0 then Some NoLine else None))

-- the first cause why no level can be built of this one
abbrev pub hindrance : List ℕ → LevelEntries → Option Hindrance
hindrance wad l = option_or (entries_hindrance wad l) (lists_hindrance (drawn_lists wad l))

-- that cause, or lack of memory
abbrev pub Hinders : List ℕ → LevelEntries → Hindrance → Type 0
Hinders wad l h = (h ≡ OutOfMemory) ⊎ (hindrance wad l ≡ Some h)
