-- The words of shapes, and which lines are shapes.
use Rattle.std.specs.Prelude.{◌≡◌, ◌⊎◌, ℕ, Bool, false, nat_lt, if◌then◌else◌, List, [], ◌∷◌, ◌++◌, length, drop, find, ℤ, pos, All, Option, Some, None, bytes_eq, codes, decimal, is_some}
use Rattle.std.specs.Fmt.{signed_decimal}
use Rattle.std.specs.Bool.{⊤}
use Rattle.lump_records.specs.Names.{name_text}
use Rattle.lump_records.specs.declared.records.Name8.{Name8}
use Rattle.lump_records.specs.declared.records.Sector.{Sector}
use Rattle.lump_records.specs.declared.records.Vertex.{Vertex}
use Rattle.map_areas.specs.declared.area.Area.{Area}
use Rattle.map_areas.specs.declared.pillar.Pillar.{Pillar}
use Rattle.map_commands.specs.Errors.{code_of}
use Rattle.map_commands.specs.Places.{Place, coordinate, flags, height, light, name, places_fault, sector_item}
use Rattle.map_commands.specs.Spelling.{kind_word, vertex_words}
use Rattle.map_words.specs.Words.{parts}
use Rattle.map_commands.specs.declared.error.CommandError.TheVariants.{NotACommand}
use Rattle.map_tables.specs.Ranges.{IsNamed, IsSector, IsVertex, is_name}
use Rattle.map_shapes.specs.Changes.{change_fault}
use Rattle.map_shapes.specs.Doors.{IsDoor}
use Rattle.map_shapes.specs.declared.head.ShapeHead.{ShapeHead}
use Rattle.map_shapes.specs.declared.head.ShapeHead.TheVariants as head
use Rattle.map_shapes.specs.declared.shape.Change.{Change}
use Rattle.map_shapes.specs.declared.shape.Door.{Door}
use Rattle.map_shapes.specs.declared.shape.Shape.{Shape}
use Rattle.map_shapes.specs.declared.shape.Shape.TheVariants as shape

-- the first word of a shape
abbrev pub shape_word : ShapeHead → List ℕ
shape_word head.Area = codes "area"
shape_word head.Pillar = codes "pillar"
shape_word head.Door = codes "door"
shape_word head.Change = codes "change"

-- all first words
abbrev pub shape_heads : List ShapeHead
shape_heads = head.Area ∷ head.Pillar ∷ head.Door ∷ head.Change ∷ []

-- the shape that a first word begins
abbrev pub shape_head_of : List ℕ → Option ShapeHead
shape_head_of w = find (λ h. bytes_eq w (shape_word h)) shape_heads

-- whether the first of some words is that of a shape
abbrev pub begins_shape : List (List ℕ) → Bool
begins_shape [] = false
begins_shape (w ∷ ws) = is_some (shape_head_of w)

-- whether a line is a shape's: its first word decides
abbrev pub is_shape_line : List ℕ → Bool
is_shape_line line = begins_shape (parts line)

-- ---- Places

-- X Y for each corner: for a word left over too
abbrev pub corner_places : List (List ℕ) → List Place
corner_places [] = []
corner_places (x ∷ []) = coordinate ∷ coordinate ∷ []
corner_places (x ∷ y ∷ ws) = coordinate ∷ coordinate ∷ corner_places ws

-- F C FN CN WALL LIGHT, then the corners
abbrev pub area_places : List (List ℕ) → List Place
area_places ws =
    height ∷ height ∷ name ∷ name ∷ name ∷ light ∷ corner_places (drop 6 ws)

-- WALL, then the corners
abbrev pub pillar_places : List (List ℕ) → List Place
pillar_places ws = name ∷ corner_places (drop 1 ws)

-- SECTOR FACE TRACK [SPECIAL]
abbrev pub door_places : List (List ℕ) → List Place
door_places ws =
    if nat_lt 3 (length ws) then sector_item ∷ name ∷ name ∷ flags ∷ []
    else sector_item ∷ name ∷ name ∷ []

-- the fault of the words behind a first word
abbrev pub shape_fault_behind : ShapeHead → List (List ℕ) → Option ℕ
shape_fault_behind head.Area ws = places_fault (area_places ws) ws
shape_fault_behind head.Pillar ws = places_fault (pillar_places ws) ws
shape_fault_behind head.Door ws = places_fault (door_places ws) ws
shape_fault_behind head.Change ws = change_fault ws

-- the fault behind a first word, if it is one: else NotACommand
abbrev pub shape_head_fault : Option ShapeHead → List (List ℕ) → Option ℕ
shape_head_fault None ws = Some (code_of NotACommand)
shape_head_fault (Some h) ws = shape_fault_behind h ws

-- the fault of the words of a line
abbrev pub shape_words_fault : List (List ℕ) → Option ℕ
shape_words_fault [] = Some (code_of NotACommand)
shape_words_fault (w ∷ ws) = shape_head_fault (shape_head_of w) ws

-- the fault of a line, and none exactly where it is a shape
abbrev pub shape_fault_of : List ℕ → Option ℕ
shape_fault_of line = if nat_lt 256 (length line) then Some (code_of NotACommand)
    else shape_words_fault (parts line)

-- ---- Words

-- X Y for each corner
abbrev pub corner_words : List Vertex → List (List ℕ)
corner_words [] = []
corner_words (v ∷ vs) = signed_decimal v.x ∷ signed_decimal v.y ∷ corner_words vs

-- a sector with these fields, without special and tag
abbrev pub plain_sector : ℤ → ℤ → Name8 → Name8 → ℤ → Sector
plain_sector floor ceiling floor_name ceiling_name light = record {
  floor = floor;
  ceiling = ceiling;
  floor_name = floor_name;
  ceiling_name = ceiling_name;
  light = light;
  special = pos 0;
  tag = pos 0;
}

-- F C FN CN WALL LIGHT, then the corners
abbrev pub area_words : Area → List (List ℕ)
area_words a =
    signed_decimal a.sector.floor ∷ signed_decimal a.sector.ceiling ∷ name_text a.sector.floor_name
    ∷ name_text a.sector.ceiling_name
    ∷ name_text a.wall ∷ signed_decimal a.sector.light ∷ corner_words a.corners.items

-- WALL, then the corners
abbrev pub pillar_words : Pillar → List (List ℕ)
pillar_words p = name_text p.wall ∷ corner_words p.corners.items

-- SECTOR FACE TRACK
abbrev pub plain_door_words : Door → List (List ℕ)
plain_door_words d = decimal d.sector ∷ name_text d.face ∷ name_text d.track ∷ []

-- SECTOR FACE TRACK SPECIAL, or without the last, which is 1 then
abbrev pub IsDoorWords : Door → List (List ℕ) → Type 0
IsDoorWords d ws =
    (ws ≡ plain_door_words d ++ decimal d.special ∷ [])
    ⊎ ((ws ≡ plain_door_words d) × (d.special ≡ 1))

-- KIND N NAME=VALUE ..
abbrev pub change_words : Change → List (List ℕ)
change_words c = kind_word c.kind ∷ decimal c.number ∷ parts c.fields.now

-- a line's words are a first word and these
abbrev pub IsSpelled : ShapeHead → List (List ℕ) → List ℕ → Type 0
IsSpelled h ws line = parts line ≡ shape_word h ∷ ws

-- a line spells a shape
abbrev pub SpellsShape : List ℕ → Shape → Type 0
SpellsShape line (shape.Area a) = IsSpelled head.Area (area_words a) line
SpellsShape line (shape.Pillar p) = IsSpelled head.Pillar (pillar_words p) line
SpellsShape line (shape.Door d) =
    (ws : List (List ℕ)) × IsDoorWords d ws × IsSpelled head.Door ws line
SpellsShape line (shape.Change c) = IsSpelled head.Change (change_words c) line

-- the sector's heights, names and light, the wall and the corners of an area are in their ranges;
-- its sector has no special and no tag
pub record IsArea (a : Area) : Type 0 where
  pub sector : IsSector a.sector
  pub special : a.sector.special ≡ pos 0
  pub tag : a.sector.tag ≡ pos 0
  pub wall : IsNamed is_name a.wall
  pub corners : All IsVertex a.corners.items

-- the wall and the corners of a pillar are in their ranges
pub record IsPillar (p : Pillar) : Type 0 where
  pub wall : IsNamed is_name p.wall
  pub corners : All IsVertex p.corners.items

-- each number and name of a shape is in its range
abbrev pub IsShape : Shape → Type 0
IsShape (shape.Area a) = IsArea a
IsShape (shape.Pillar p) = IsPillar p
IsShape (shape.Door d) = IsDoor d
IsShape (shape.Change c) = ⊤
