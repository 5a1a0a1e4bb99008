-- A map as contracts see it: a name and five lists. A number is an index of a list.
use Rattle.std.specs.Prelude.{ℕ, ◌+◌, ◌*◌, List, [], ◌∷◌, length}
pub use Rattle.lump_records.specs.Names.{name_of}
pub use Rattle.lump_records.specs.Sides.{no_side}
use Rattle.lump_records.specs.Limits.{item_limit, sector_limit}
use Rattle.lump_records.specs.declared.records.Name8.{Name8}
use Rattle.lump_records.specs.declared.records.Thing.{Thing}
use Rattle.lump_records.specs.declared.records.Line.{Line}
use Rattle.lump_records.specs.declared.records.Side.{Side}
use Rattle.lump_records.specs.declared.records.Vertex.{Vertex}
use Rattle.lump_records.specs.declared.records.Sector.{Sector}
use Rattle.map_tables.specs.declared.edit.Item.{Item}
use Rattle.map_tables.specs.declared.edit.Item.TheVariants as item
use Rattle.map_tables.specs.declared.kind.Kind.{Kind}
use Rattle.map_tables.specs.declared.kind.Kind.TheVariants as kind

-- a map: its name, and its items by number
pub record Tables : Type 0 where
  pub name : Name8
  pub vertices : List Vertex
  pub sectors : List Sector
  pub sides : List Side
  pub lines : List Line
  pub things : List Thing

-- a number for each table: how many more items fit without allocating, or how many are needed
pub record Counts : Type 0 where
  pub vertices : ℕ
  pub sectors : ℕ
  pub sides : ℕ
  pub lines : ℕ
  pub things : ℕ

-- a `Map` as contracts see it
pub record MapView : Type 0 where
  pub tables : Tables
  pub spare : Counts

-- how many items a map has of a kind
abbrev pub count_of : Tables → Kind → ℕ
count_of m kind.Vertex = length m.vertices
count_of m kind.Sector = length m.sectors
count_of m kind.Side = length m.sides
count_of m kind.Line = length m.lines
count_of m kind.Thing = length m.things

-- the table of an item
abbrev pub kind_of_item : Item → Kind
kind_of_item (item.Vertex v) = kind.Vertex
kind_of_item (item.Sector s) = kind.Sector
kind_of_item (item.Side s) = kind.Side
kind_of_item (item.Line l) = kind.Line
kind_of_item (item.Thing t) = kind.Thing

-- how many items a map may have of a kind
abbrev pub table_limit : Kind → ℕ
table_limit kind.Sector = sector_limit
table_limit _ = item_limit

-- the map MAP01 without any item
abbrev pub empty_tables : Tables
empty_tables =
    record {
      name = name_of (77 ∷ 65 ∷ 80 ∷ 48 ∷ 49 ∷ []);
      vertices = [];
      sectors = [];
      sides = [];
      lines = [];
      things = [];
    }

-- the length of a body of version 1
abbrev pub body_len_of_one : Tables → ℕ
body_len_of_one m =
    20 + 10 * length m.things + 14 * length m.lines + 30 * length m.sides + 4 * length m.vertices
    + 26 * length m.sectors

-- the length of a map's part of a project's body
abbrev pub part_len : Tables → ℕ
part_len m =
    18 + 10 * length m.things + 14 * length m.lines + 30 * length m.sides + 4 * length m.vertices
    + 26 * length m.sectors
