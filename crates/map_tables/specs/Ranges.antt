-- The ranges of the fields of a map's items.
use Rattle.std.specs.Prelude.{ℕ, ◌≤◌, ◌||◌, ◌==◌, nat_le, ℤ, pos, negsuc, IsTrue}
pub use Rattle.lump_records.specs.Names.{name_of, name_text, is_name_byte, is_name, is_nonzero_digit, is_digit, is_marker, IsNamed}
pub use Rattle.lump_records.specs.Drawing.{IsBetween, IsCoordinate, IsDrawable, squared_distance, longest_squared}
use Rattle.lump_records.specs.declared.records.Thing.{Thing}
use Rattle.lump_records.specs.declared.records.Line.{Line}
use Rattle.lump_records.specs.declared.records.Side.{Side}
use Rattle.lump_records.specs.declared.records.Vertex.{Vertex}
use Rattle.lump_records.specs.declared.records.Sector.{Sector}
use Rattle.lump_records.specs.Sides.{no_side}
use Rattle.map_tables.specs.declared.edit.Edit.{Edit}
use Rattle.map_tables.specs.declared.edit.Edit.TheVariants.{Add, Set, Drop}
use Rattle.map_tables.specs.declared.edit.Item.{Item}
use Rattle.map_tables.specs.declared.edit.Item.TheVariants as item
use Rattle.map_tables.specs.declared.kind.Kind.{Kind}
use Rattle.map_tables.specs.declared.kind.Kind.TheVariants as kind
use Rattle.map_tables.specs.Tables.{kind_of_item}

-- a height or an offset: any signed 16-bit number
abbrev pub IsShort : ℤ → Type 0
IsShort z = IsBetween (negsuc 32767) (pos 32767) z

-- a special, a tag, a type or options: from 0 to 32767
abbrev pub IsCode : ℤ → Type 0
IsCode z = IsBetween (pos 0) (pos 32767) z

-- the ranges of a vertex
abbrev pub IsVertex : Vertex → Type 0
IsVertex v = IsDrawable v

-- the ranges of a sector, and its names
pub record IsSector (s : Sector) : Type 0 where
  pub floor : IsShort s.floor
  pub ceiling : IsShort s.ceiling
  pub floor_name : IsNamed is_name s.floor_name
  pub ceiling_name : IsNamed is_name s.ceiling_name
  pub light : IsBetween (pos 0) (pos 255) s.light
  pub special : IsCode s.special
  pub tag : IsCode s.tag

-- the ranges of a side, and its names
pub record IsSide (s : Side) : Type 0 where
  pub x_offset : IsShort s.x_offset
  pub y_offset : IsShort s.y_offset
  pub upper : IsNamed is_name s.upper
  pub lower : IsNamed is_name s.lower
  pub middle : IsNamed is_name s.middle
  pub sector : s.sector ≤ 4095

-- the ranges of a line
pub record IsLine (l : Line) : Type 0 where
  pub v1 : l.v1 ≤ 32766
  pub v2 : l.v2 ≤ 32766
  pub flags : l.flags ≤ 32767
  pub special : l.special ≤ 32767
  pub tag : l.tag ≤ 32767
  pub right : l.right ≤ 32766
  pub left : IsTrue (nat_le l.left 32766 || (l.left == no_side))

-- the ranges of a thing
pub record IsThing (t : Thing) : Type 0 where
  pub x : IsCoordinate t.x
  pub y : IsCoordinate t.y
  pub angle : IsBetween (pos 0) (pos 359) t.angle
  pub kind : IsCode t.kind
  pub options : IsCode t.options

-- the ranges of an item
abbrev pub IsItem : Item → Type 0
IsItem (item.Vertex v) = IsVertex v
IsItem (item.Sector s) = IsSector s
IsItem (item.Side s) = IsSide s
IsItem (item.Line l) = IsLine l
IsItem (item.Thing t) = IsThing t

-- the greatest number of an item of a table
abbrev pub last_of : Kind → ℕ
last_of kind.Sector = 4095
last_of _ = 32766

-- the ranges of an edit, its number's too
abbrev pub IsEdit : Edit → Type 0
IsEdit (Add i) = IsItem i
IsEdit (Set n i) = (n ≤ last_of (kind_of_item i)) × IsItem i
IsEdit (Drop k n) = n ≤ last_of k
